-- The judge past its set: entries, bounds, names that are both, then the constraints.
use Rattle.std.specs.Prelude.{◌≡◌, Bool, true, false, ℕ, ◌/◌, ◌≤◌, length}
use Rattle.std.proofs.Math.Path.{ap}
use Rattle.std.proofs.Common.{sym}
use Rattle.std.proofs.Math.Bool.{and-eq-true_iff}
use mathlib.Core.List.{List, [], ◌∷◌, ◌++◌}
use Rattle.rules.specs.Base.{got, refused, need, bounded, all, collect}
use Rattle.rules.specs.Calls.{Entry, entriesGiven, risingBounds, apart, opensBinding}
use Rattle.rules.specs.Contents.{unmixed}
use Rattle.rules.specs.Judging.{judge}
use Rattle.rules.specs.Names.{table_of}
use Rattle.rules.specs.Trees.{Con, Binding, opensCon}
use Rattle.laws.proofs.Lists.{every_append}
use Rattle.laws.proofs.KnownNames.{binding-known}
use Rattle.laws.proofs.NameTable.{good-laid}
use Rattle.records.specs.Found.{Words32}
use Rattle.records.specs.Good as records
use Rattle.records.specs.Good.{numbers, holding}
use Rattle.records.proofs.Whole.{set_is}
use Rattle.queries.proofs.GoodOpens.{names-small}
use Rattle.queries.specs.Marks.{Small}
use Rattle.queries.proofs.Runs.{AllKnown, set-opens, set_known}
use Rattle.queries.specs.Scans.{opensIn}
use Rattle.replace.proofs.Given.{given-cons}
use Rattle.judge_entries.proofs.Answers.{Bound, placed-yes, placed-no}
use Rattle.judge_entries.proofs.Placing.{placed}
use Rattle.judge_entries.specs.Tables.{Made}
use Rattle.judge_entries.specs.declared.inner.Slots.{Slots}
use Rattle.judge_trials.specs.Trials.{SetThere}
use Rattle.judge_entries.specs.Slotted.{Slotted}
use Rattle.judge.specs.Entry.{Entered, judgedRest}

module _ (pool table set types : List ℕ) (cs : List (Con ℕ)) (es : List Entry) (n : Entered pool table set types cs) where
  -- ══ Entries ══

  module _ {s : Slots} {places : List ℕ} {r : Bool} (h : Slotted es s) (few : s.count ≤ 2048)
      (m : Made pool table types s.places s.repeated s.count places r) where
    pub are-bound : r ≡ true → (bs : List (Binding ℕ)) × Bound pool table es types places bs
    are-bound e = placed-yes pool table es types places
        (rw e at (placed pool table types n.good es s.places s.repeated s.count places r h.slots (h.again few) h.many m))

    pub no-entries : (bounds : List ℕ) → r ≡ false → refused 1 ≡ judgedRest pool table es types bounds cs
    no-entries bounds e =
        let q = placed-no pool table es types places
        (rw e at (placed pool table types n.good es s.places s.repeated s.count places r h.slots (h.again few) h.many m)) in
        sym (rw q)

  -- ══ Past them ══

  bindings-known : (bs : List (Binding ℕ)) → all (records.goodBinding pool table 0) bs ≡ true → AllKnown pool table 0 set (collect opensBinding bs)
  unfolding all collect
  bindings-known [] g = tt
  bindings-known (b ∷ bs) g =
      let r = (and-eq-true_iff (records.goodBinding pool table 0 b) (all (records.goodBinding pool table 0) bs)).0 g in
      every_append _ (opensBinding b) (collect opensBinding bs) (binding-known (numbers pool table) (holding pool table) 0 b r.0) (bindings-known bs r.1)

  module _ (w : Words32 set) where
    opened : opensIn set 0 (length set / 4) ≡ collect opensCon cs
    opened = set-opens pool table 0 set cs 0 (length set / 4) (set_is pool table set w cs n.given)

    pub small : (bs : List (Binding ℕ)) → all (records.goodBinding pool table 0) bs ≡ true → Small (opensIn set 0 (length set / 4) ++ collect opensBinding bs)
    small bs g =
        rw opened (names-small pool table 0 (collect opensCon cs ++ collect opensBinding bs)
        (every_append _ (collect opensCon cs) (collect opensBinding bs)
        (set_known pool table 0 set cs 0 (length set / 4) (set_is pool table set w cs n.given)) (bindings-known bs g)) (good-laid n.good).few)

    pub constraints-stand : SetThere pool table set cs
    constraints-stand = let h = given-cons pool table set w cs n.given in record { held = h.0; good = h.1 }

    module _ (bounds : List ℕ) (bs : List (Binding ℕ)) (given : entriesGiven (table_of pool table) es types ≡ got bs) where
      pub no-bounds : risingBounds (table_of pool table) bounds ≡ refused 1 → refused 1 ≡ judgedRest pool table es types bounds cs
      no-bounds h = sym (rw (given, h))

      module _ (ns : List ℕ) (rises : risingBounds (table_of pool table) bounds ≡ got ns) {r : Bool}
          (says : r ≡ unmixed (numbers pool table) (opensIn set 0 (length set / 4) ++ collect opensBinding bs)) where
        told-apart : need r 4 ≡ apart (table_of pool table) (collect opensCon cs ++ collect opensBinding bs)
        unfolding apart
        told-apart =
            let e : r ≡ unmixed (numbers pool table) (collect opensCon cs ++ collect opensBinding bs) = rw opened at says in
            ap (λ (b : Bool). need b 4) e

        pub both : r ≡ false → refused 4 ≡ judgedRest pool table es types bounds cs
        both e = sym (rw (given, rises, ← told-apart, e))

        pub not-both : r ≡ true → judge (numbers pool table) bounded bs ns cs ≡ judgedRest pool table es types bounds cs
        not-both e = sym (rw (given, rises, ← told-apart, e))
