-- The public test of schemes, from what the walkers find.
use Rattle.std.proofs.Math.Path.{◌≡◌, refl, sym, ap}
use Rattle.std.proofs.Common.{◌∙◌, arith}
use Rattle.std.proofs.Math.Option.{some}
use mathlib.Core.List.{List, [], ◌∷◌}
use Prim.Native.Nat.{ℕ, ◌+◌, ◌/◌, ◌≤◌}
use Rattle.std.proofs.Math.ListN.{length}
use Rattle.rules.specs.Base.{all}
use Rattle.rules.specs.Trees as tree
use Rattle.rules.specs.Writing.{Rec, rec, head, kindIn}
use Rattle.rules.specs.Reading.{give, pick, next, boundTable, boundKinds, readBound}
use Rattle.laws.specs.Written.{Reads, nothing, given, picked}
use Rattle.laws.specs.Written as laws
use Rattle.records.specs.Views.{plain, shape_of, from}
use Rattle.records.specs.Places.{◌&◌, first, seen-in, rec-view, seen}
use Rattle.records.specs.Holds.{viewOpen, Shows, HoldsBound}
use Rattle.records.specs.Parsed.{by_first}
use Rattle.records.specs.Found.{here, long-found, by_next}
use Rattle.records.specs.Moves.{bound-moves}
use Rattle.records.specs.Given.{Reader-of}
use Rattle.records.specs.Good.{goodOpen, GoodBound}
use Rattle.records.specs.declared.View.TheVariants as view

module _ (s : List ℕ) where
  -- ══ Bounds ══

  bound-read : (o : tree.Open ℕ) (at : ℕ) → HoldsBound s o at → readBound (from s at) ≡ some (o, from s (at + 1))
  unfolding readBound plain all
  bound-read (tree.var x) at h = by_first s boundKinds 25 1 x 0 0 at (tree.var x) (omega arith) (seen s at h.0 h.1 tt) refl (omega arith)
      (omega (arith, seen-in s at h.0 tt))
  bound-read (tree.quant i) at h = by_first s boundKinds 25 1 i 1 0 at (tree.quant i) (omega arith) (seen s at h.0 h.1 tt) refl (omega arith)
      (omega (arith, seen-in s at h.0 tt))
  bound-read (tree.par x) at h =
      let f = first s at (rec (head 25 1) x 0 0) (from s (at + 1)) (seen s at h.0 h.1 tt) in
      let e : view.Bound (viewOpen (tree.par x)) ≡ view.Bound (viewOpen (tree.var x)) = sym h.0 ∙ f.view ∙ rec-view (view.Bound (viewOpen (tree.var x))) 1 tt in
      absurd (cc)

  bound-shape : (at k a b c : ℕ) (rs : List Rec) → from s at ≡ rec k a b c ∷ rs
      → Reads (boundKinds (kindIn k) a b c rs) (λ o rest. Shows s at (view.Bound (viewOpen o)) × (rest ≡ from s (at + 1)))
  unfolding shape_of plain all
  bound-shape at k a b c rs e = picked (kindIn k) rs ((25, pick b (boundTable a c)) ∷ []) (
      (λ q. picked b rs (boundTable a c) (
      (λ p. laws.plain (c ∷ []) (give (tree.var a)) rs (λ z. given (here s at k a b c rs e (rw (q, p, z.0)))))
      & (λ p. laws.plain (c ∷ []) (give (tree.quant a)) rs (λ z. given (here s at k a b c rs e (rw (q, p, z.0)))))
      & tt))
      & tt)

  bound-first : (at : ℕ) (l : List Rec) → from s at ≡ l → Reads (next boundKinds l) (λ o rest. HoldsBound s o at × (rest ≡ from s (at + 1)))
  bound-first at [] e = nothing
  bound-first at (rec k a b c ∷ rs) e = by_next s boundKinds k a b c rs (bound-shape at k a b c rs e) (λ o rest i l.
      let n : at + 1 ≤ length s / 4 = omega (arith, (first s at (rec k a b c) rs e).inside) in
      ((i.0, long-found s at k a b c 1 rs rest e l i.1 n), i.1))

  pub bound-reader : (pool table : List ℕ) (q : ℕ) → Reader-of s readBound (goodOpen pool table q) (GoodBound pool table q s)
  unfolding readBound
  bound-reader pool table q = record {
    reads = λ at o e g. bound-read o at g.held ∙ ap (λ (k : ℕ). some (o, from s k)) (sym g.past);
    right = λ at o e g. g.good;
    moves = λ at o e g. bound-moves pool table q s at o e g;
    finds = λ at o rest e g. let f = (bound-first at (from s at) refl).holds o rest e in (at + 1, (record { held = f.0; past = refl; good = g }, f.1));
  }
