-- `inner::fresh::atom_name` meets its contract.
use mathlib.Core.Path.{refl, sym, ap, ◌∙◌}
use Rattle.records.specs.Holds.{atomOf}
use Rattle.records.specs.declared.Atom.{Atom}
use Rattle.lines_entry.specs.Used.{namesAtom}
use Rattle.lines_entry.proofs.inner.fresh.atom_name.Goals as goal

pub returns-in-Free : goal.returns-in-Free
returns-in-Free c = c.open_name.ensures ∙ ap (λ (x : Atom). namesAtom (atomOf x)) (sym c.in-Free.is)

pub returns-in-Base : goal.returns-in-Base
returns-in-Base c = rw c.in-Base.is refl
