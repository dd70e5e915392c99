-- In front of what a machine leaves there is nothing at first.
use Rattle.std.specs.Prelude.{◌≡◌, refl, [], ℕ}
use Rattle.rules.specs.Base.{Got, got, refused, ◌>>=◌}
use Rattle.rules.specs.Elimination.{Reduced}
use Rattle.engine_matrix.specs.Machine.{behind}

pub nothing-kept : (m : Got (Reduced ℕ)) → (m >>= λ d. behind [] d) ≡ m
nothing-kept (got d) = refl
nothing-kept (refused n) = refl
