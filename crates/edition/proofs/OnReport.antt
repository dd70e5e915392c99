-- What follows from the definitions of specs/Report: what a report leaves, whatever it answers.
use Rattle.std.specs.Prelude.{◌≡◌, ℕ, List, ◌++◌, Result, Ok, Err, OnOk, IfOk}
use Rattle.rules.specs.Base.{Got, got}
use Rattle.rules.specs.Names.{Bytes}
use Rattle.rules.specs.Reports.{Edition}
use Rattle.text_spell.specs.Sinks.{Place, Puts}
use Rattle.edition.specs.Pages.{done}
use Rattle.edition.specs.declared.Counts.{Counts}
use Rattle.edition.specs.Report.{Counted, Named, Leaves, sunkOf}

module _ {A E : Type 0} {old new : Place} {bs : Bytes} where
  pub sunk-told : (r : Result A E) → Puts {E = E} old bs (done r) new → OnOk (sunkOf r) (new.held ≡ old.held ++ bs)
  sunk-told (Ok a) p = p.puts
  sunk-told (Err v) p = tt

  pub sunk-leaves : (r : Result A E) → Puts {E = E} old bs (done r) new → {m : Got (Unit {0})} → m ≡ got tt
      → (pool table : List ℕ) {pool' table' : List ℕ} {e : Edition}
      → Named pool' table' e → Leaves (sunkOf r) m pool table pool' table' old new e
  sunk-leaves (Ok a) p m pool table n = (m, n)
  sunk-leaves (Err v) p m pool table n = (m, (n, p.kept))

pub sunk-counted : {E : Type 0} (e : Edition) (r : Result Counts E) → IfOk r (λ n. Counted n.sheets n.accepted e)
    → IfOk (sunkOf r) (λ n. Counted n.sheets n.accepted e)
sunk-counted e (Ok a) h = h
sunk-counted e (Err v) h = tt
