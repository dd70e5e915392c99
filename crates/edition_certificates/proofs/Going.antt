-- The lines of a certificate one after another: what those before a place propose, and those from there on.
use Rattle.std.specs.Prelude.{◌≡◌, refl, true, false, List, [], ◌∷◌, ◌++◌, ℕ, ◌+◌, Some, None}
use Rattle.std.proofs.Common.{sym, ap, ◌∙◌, arith}
use Rattle.std.proofs.lemmas.List.{append_assoc, append-nil}
use Rattle.rules.specs.Base.{all, sum_of}
use Rattle.rules.specs.Trees.{Con, sizeCon}
use Rattle.rules.specs.Writing.{words, writeBound}
use Rattle.edition_certificates.specs.Certificates.{lineOf, pairOf, nameOf, pairsOf, boundNames, boundWords, boundsOf, proposes}
use Rattle.edition_certificates.specs.declared.inner.Line.{Line}
use Rattle.edition_certificates.specs.declared.inner.Line.TheVariants.{Binds, Bounds}

module _ (ds : List (Con ℕ)) where
  pub record Going (at : ℕ) (pairs bounds : List ℕ) (rest : List (Con ℕ)) : Type 0 where
    pub lines : all proposes ds ≡ all proposes rest
    pub paired : pairsOf 0 ds ≡ pairs ++ pairsOf at rest
    pub bounded : boundsOf ds ≡ bounds ++ boundsOf rest
    pub ends : at + sum_of sizeCon rest ≡ sum_of sizeCon ds

  pub begun : Going 0 [] [] ds
  begun = record { lines = refl; paired = refl; bounded = refl; ends = omega arith }

  module _ {at : ℕ} {pairs bounds : List ℕ} {rest : List (Con ℕ)} (g : Going at pairs bounds rest) where
    module _ (c : Con ℕ) (more : List (Con ℕ)) (is : rest ≡ c ∷ more) where
      onward : (l : Line) → lineOf c ≡ Some l → all proposes rest ≡ all proposes more
      unfolding all proposes
      onward l e = rw (is, e) refl

      pairs-on : (l : Line) → lineOf c ≡ Some l → pairsOf at rest ≡ pairOf at (Some l) ++ pairsOf (at + sizeCon c) more
      unfolding pairsOf
      pairs-on l e = rw (is, e) refl

      names-on : (l : Line) → lineOf c ≡ Some l → boundNames rest ≡ nameOf (Some l) ++ boundNames more
      unfolding boundNames
      names-on l e = rw (is, e) refl

      behind : (l : Line) (ns : List ℕ) → boundWords (nameOf (Some l) ++ ns) ≡ boundWords (nameOf (Some l)) ++ boundWords ns
      unfolding words writeBound
      behind (Binds x) ns = refl
      behind (Bounds x) ns = refl

      ends-on : (at + sizeCon c) + sum_of sizeCon more ≡ sum_of sizeCon ds
      ends-on = let e : sum_of sizeCon rest ≡ sizeCon c + sum_of sizeCon more = rw is refl in omega (arith, e, g.ends)

      -- and so of one line more
      pub one-more : (l : Line) → lineOf c ≡ Some l → Going (at + sizeCon c) (pairs ++ pairOf at (Some l)) (bounds ++ boundWords (nameOf (Some l))) more
      one-more l e = record {
        lines = g.lines ∙ onward l e;
        paired = g.paired ∙ ap (pairs ++◌) (pairs-on l e) ∙ sym (append_assoc pairs (pairOf at (Some l)) (pairsOf (at + sizeCon c) more));
        bounded = g.bounded ∙ ap (bounds ++◌) (ap boundWords (names-on l e) ∙ behind l (boundNames more))
            ∙ sym (append_assoc bounds (boundWords (nameOf (Some l))) (boundsOf more));
        ends = ends-on;
      }

      pub not-a-line : lineOf c ≡ None → all proposes ds ≡ false
      unfolding all proposes
      not-a-line e = g.lines ∙ rw (is, e) refl

    pub all-told : rest ≡ [] → (all proposes ds ≡ true) × ((pairs ≡ pairsOf 0 ds) × (bounds ≡ boundsOf ds))
    unfolding all pairsOf boundNames words
    all-told e = (g.lines ∙ rw e refl, (sym (g.paired ∙ rw e (append-nil pairs)), sym (g.bounded ∙ rw e (append-nil bounds))))
