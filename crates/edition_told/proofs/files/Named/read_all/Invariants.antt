use Rattle.std.specs.Prelude.{◌≡◌, map, take}
use Rattle.edition_told.proofs.files.Named.read_all.Given as goal

-- the files so far have the first names
abbrev pub invariant-loop-name : goal.invariant-loop-name
invariant-loop-name g l = map (λ f. f.name.now) l.given.items ≡ map (λ n. n.now) (take l.name-index l.self.names.now)
