-- A number that has no word: the open names of that number stay.
use Rattle.std.specs.Prelude.{◌≡◌, true, false, not, eqb, List, [], ◌∷◌, ℕ, ◌+◌, ◌*◌, ◌≤◌, ◌<◌, ◌/◌, get_or, length, refl}
use Rattle.std.proofs.Common.{ap, sym, subst}
use Rattle.std.proofs.Math.Option.{Option}
use Rattle.std.proofs.Math.Bool.{and-eq-true_iff}
use borrow.Author.Tests.{eqb-true}
use Rattle.rules.specs.Base.{any, is_none}
use Rattle.rules.specs.Replacing.{Look}
use Rattle.rules.specs.Trees.{Open, var, quant, par, Ty}
use Rattle.rules.specs.Writing.{Rec, rec}
use Rattle.records.specs.Places.{recAt, Says, view-none, view-rec, view-some}
use Rattle.records.specs.Views.{longOf, recOf, viewAt, view_of}
use Rattle.records.specs.declared.Atom.TheVariants as atoms
use Rattle.records.specs.declared.Open.TheVariants as names
use Rattle.records.specs.declared.View.{View}
use Rattle.records.specs.declared.View.TheVariants as view
use Rattle.queries.specs.Scans.{opensView}
use Rattle.replace.specs.Leaves.{replaced}
use Rattle.replace.specs.Places.{Called, number_of, Tabled, unsaid, word_of}
use Rattle.replace.proofs.Substitutions.{none-said}

second : Rec → ℕ
second (rec k a b c) = a

-- the second word of the record that says a view
called : (r : Rec) (v : View) → view_of r ≡ v → Called (second r) (opensView v)
unfolding second
called r v e = go v e
  where
    same : (v : View) → view_of r ≡ v → Says v → second (recOf v (longOf r)) ≡ second r
    same v e a = subst (λ (w : View). second (recOf w (longOf r)) ≡ second r) e (ap second (view-rec r (subst Says (sym e) a)))

    go : (v : View) → view_of r ≡ v → Called (second r) (opensView v)
    go (view.Opened (names.Var x)) e = (same _ e tt, tt)
    go (view.Opened (names.Quant x)) e = (same _ e tt, tt)
    go (view.Opened (names.Par x)) e = (same _ e tt, tt)
    go (view.Basic b) e = tt
    go (view.Dim n) e = tt
    go (view.Function n) e = tt
    go (view.Struct x n m) e = tt
    go view.List e = tt
    go (view.Field x) e = tt
    go (view.Factor (atoms.Free (names.Var x)) n d) e = (same _ e tt, tt)
    go (view.Factor (atoms.Free (names.Quant x)) n d) e = (same _ e tt, tt)
    go (view.Factor (atoms.Free (names.Par x)) n d) e = (same _ e tt, tt)
    go (view.Factor (atoms.Base x) n d) e = tt
    go view.Equal e = tt
    go view.IsDim e = tt
    go view.IsScalar e = tt
    go (view.HasField x) e = tt
    go (view.Binding x) e = (same _ e tt, tt)
    go (view.Bound o) e = tt
    go (view.Scheme n) e = tt
    go view.Concrete e = tt
    go view.Bad e = tt

module _ (s : List ℕ) (i : ℕ) where
  pub called-out : length s / 4 ≤ i → Called 0 (opensView (viewAt s i))
  called-out h = rw (view-none s i h) tt

  pub called-at : i < length s / 4 → Called (get_or s (i * 4 + 1) 0) (opensView (viewAt s i))
  unfolding second
  called-at h = called (recAt s i) (viewAt s i) (sym (view-some s i h))

-- the names stay
module _ (places v : List ℕ) (look : Look ℕ) (l : Tabled places v look) (x : ℕ) (n : unsaid places x ≡ true) where
  parts : (eqb (word_of places (var x)) 0 ≡ true) × ((eqb (word_of places (par x)) 0 ≡ true) × (eqb (word_of places (quant x)) 0 ≡ true))
  unfolding unsaid
  parts =
      let p = (and-eq-true_iff (eqb (word_of places (var x)) 0) _).0 n in
      (p.0, (and-eq-true_iff (eqb (word_of places (par x)) 0) _).0 p.1)

  wordless : (o : Open ℕ) → number_of o ≡ x → word_of places o ≡ 0
  unfolding unsaid
  wordless (var y) e = eqb-true (word_of places (var y)) 0 (rw e (parts.0))
  wordless (par y) e = eqb-true (word_of places (par y)) 0 (rw e (parts.1.0))
  wordless (quant y) e = eqb-true (word_of places (quant y)) 0 (rw e (parts.1.1))

  stays : (o : Open ℕ) → number_of o ≡ x → replaced look o ≡ false
  stays o e = ap (λ (m : Option (Ty ℕ)). not (is_none m)) (sym (none-said v (look o) (l.says o) (wordless o e)))

  pub stay : (os : List (Open ℕ)) → Called x os → false ≡ any (replaced look) os
  unfolding any
  stay [] c = refl
  stay (o ∷ os) c = rw (stays o c.0) (stay os c.1)
