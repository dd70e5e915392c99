-- What follows from the definitions of specs/Mixed: the open names of a table of places.
use Rattle.std.specs.Prelude.{◌≡◌, List, [], ◌∷◌, ◌++◌, ℕ, ◌+◌, ◌-◌}
use Rattle.std.proofs.Common.{append_assoc, append-nil, add-one, arith}
use Rattle.std.proofs.Math.Option.{Option, none, some}
use Rattle.rules.specs.Names.{Bytes, numbered}
use Rattle.rules.specs.Replacing.{find}
use Rattle.rules.specs.Trees.{var, Ty, Binding, opens, size}
use Rattle.records.specs.Holds.{Holds}
use Rattle.replace.specs.Places.{SaysAt}
use Rattle.replace.proofs.Places.{says_some}
use Rattle.queries.specs.declared.name_set.NameSet.{NameSet}
use Rattle.queries.specs.Marks.{Has}
use Rattle.queries.specs.Scans.{choose, opensIn}
use Rattle.queries.proofs.ScanLaws.{choose-append, choose-none, type-opens}
use Rattle.queries.specs.declared.Kind.{Kind}
use Rattle.judge_proposals.specs.Mixed.{opens_of, opensBelow}

module _ (types : List ℕ) (x w : ℕ) (k : Kind) where
  pub unbound : {m : NameSet} (t : Option (Ty ℕ)) (xs : List ℕ) → SaysAt types w t → w ≡ 0 → Has m xs → Has m (xs ++ choose k (opens_of x t))
  unbound none xs h e m = rw (choose-none k, append-nil) m
  unbound (some t) xs h e m = absurd (omega (arith, h.word))

  -- the variable, then its type
  pub bound : {e : ℕ} {n : List ℕ} {m : NameSet} (t : Option (Ty ℕ)) (xs : List ℕ) → SaysAt types w t → (w ≡ 0 → ⊥)
      → ((u : Ty ℕ) → Holds types u (w - 1) → e ≡ w - 1 + size u) → n ≡ choose k (var x ∷ [])
      → Has m ((xs ++ n) ++ choose k (opensIn types (w - 1) e)) → Has m (xs ++ choose k (opens_of x t))
  bound {e} t xs h z f q m =
      let (u, (i, held)) = says_some types w t h z in
      let o : opensIn types (w - 1) e ≡ opens u = rw (f u held) (type-opens types u (w - 1) held) in
      rw (i, choose-append k (var x ∷ []) (opens u), ← append_assoc xs, ← q, ← o) m

pub below_on : (k : Kind) (names : List Bytes) (bs : List (Binding ℕ)) (xs : List ℕ) (x : ℕ)
    → (xs ++ choose k (opensBelow names bs x)) ++ choose k (opens_of x (find (numbered names) bs x)) ≡ xs ++ choose k (opensBelow names bs (x + 1))
unfolding opensBelow
below_on k names bs xs x = rw (add-one, choose-append k (opensBelow names bs x) (opens_of x (find (numbered names) bs x)), append_assoc)
