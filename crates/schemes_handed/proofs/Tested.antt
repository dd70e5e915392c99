-- What the test of a list finds, where it passes; and where it doesn't, that the list is refused.
use Rattle.std.specs.Prelude.{Ok, ◌≡◌, Bool, true, ◌&&◌, List, [], ◌∷◌, ℕ, ◌+◌, ◌/◌, ◌%◌, ◌≤◌, eqb, length}
use Rattle.std.proofs.Common.{sym, ap, subst, ◌∙◌, le-leb}
use Rattle.rules.specs.Base.{Got, got, ◌>>◌, need, all}
use Rattle.rules.specs.Calls.{shortLists, tableKept, aloneGiven, boundsGiven, schemeGiven, schemeCall}
use Rattle.rules.specs.Names.{table_of, lentTable}
use Rattle.rules.specs.Reading.{readBound}
use Rattle.rules.specs.Schemes.{Scheme, concrete, scheme}
use Rattle.rules.specs.Trees.{Ty, Open, size}
use Rattle.laws.specs.NameTable.{Good}
use Rattle.names.specs.declared.tables.NameTable.{NameTable}
use Rattle.records.specs.Found.{Words32}
use Rattle.records.specs.Given.{list-yes}
use Rattle.records.proofs.Given.{list-told}
use Rattle.records.specs.Good.{Chain, Chained, There, goodOpen, GoodBound, GoodScheme}
use Rattle.records.specs.Holds.{Holds}
use Rattle.records.specs.Schemes.{bound-reader}
use Rattle.records.proofs.Schemes.{scheme-told, scheme-given}
use Rattle.records.specs.Views.{viewAt}
use Rattle.records.specs.declared.View.TheVariants as view
use Rattle.types.specs.Given.{short_over}
use Rattle.types.specs.Once.{ATree, one-tree}
use Rattle.types.proofs.Tested.{Held, table-is}
use Rattle.schemes_handed.specs.Bounds.{BoundsAt, BoundList, one-bounds}

-- ══ A short list, over a table that was tested ══

module _ (n : NameTable) (ws : List ℕ) (h : got tt ≡ shortLists (ws ∷ [])) where
  pub over-short : got n ≡ short_over (Ok n) ws
  over-short = ap (λ (l : Got (Unit {0})). l >> got n) h

  pub few : length ws ≤ 8192
  few = (table-is ws boundsGiven (Ok n) n over-short).0

-- ══ Each list by its own test ══

module _ (pool table ws : List ℕ) (w : Words32 ws) (b : Bool) where
  abbrev N : ℕ
  N = length ws / 4

  -- the test of a list of whole records, and that it was passed
  abbrev test : Got (Unit {0})
  test = need (eqb (length ws % 4) 0 && b) 1

  abbrev Passed : Type 0
  Passed = (length ws % 4 ≡ 0) × (b ≡ true)

  -- bounds one after another up to the end
  pub chain-bounds : (q at : ℕ) (bs : List (Open ℕ)) → Chain (GoodBound pool table q ws) N bs at → BoundsAt ws bs at
  unfolding BoundsAt
  chain-bounds q at [] c = c
  chain-bounds q at (o ∷ bs) (e, (g, c)) = (g.held.0, chain-bounds q (at + 1) bs (rw g.past at c))

  module _ (h : Chained (GoodBound pool table 0 ws) N 0 b) where
    pub bounds-told : (boundsGiven (table_of pool table) ws >> got (tt {0})) ≡ test
    unfolding boundsGiven
    bounds-told = list-told ws readBound (goodOpen pool table 0) (GoodBound pool table 0 ws) (bound-reader ws pool table 0) b h

    pub bounds-held : Passed → Held (one-bounds ws 0) (boundsGiven (table_of pool table) ws) (λ bs. Unit {0})
    unfolding boundsGiven
    bounds-held p =
        let x : Chained (GoodBound pool table 0 ws) N 0 true = rw p.1 at h in
        record {
          its = (x.0, chain-bounds 0 0 x.0 x.1);
          given = list-yes ws readBound (goodOpen pool table 0) (GoodBound pool table 0 ws) (bound-reader ws pool table 0) x.0 p.0 x.1;
          known = tt;
        }

  module _ (good : Good pool table) (h : There (GoodScheme pool table ws) b) where
    alone : length ws ≤ 8192 → aloneGiven pool table ws ≡ got tt
    unfolding aloneGiven lentTable shortLists tableKept all
    alone s = rw (le-leb 8192 (length pool) good.bytes, le-leb 257 (length table) good.words, le-leb (length ws) 8192 s, good.good)

    pub scheme-test : length ws ≤ 8192 → (schemeGiven (table_of pool table) ws >> got (tt {0})) ≡ test
    unfolding schemeCall
    scheme-test s =
        let a = alone s in
        let e : (aloneGiven pool table ws >> schemeGiven (table_of pool table) ws >> got (tt {0})) ≡ test = scheme-told pool table ws a w b h in
        rw a at e

    module _ (p : Passed) where
      its : (sc : Scheme ℕ) × GoodScheme pool table ws sc
      its = let x : There (GoodScheme pool table ws) true = rw p.1 at h in x

      given : schemeGiven (table_of pool table) ws ≡ got its.0
      given = scheme-given pool table ws w its.0 p.0 its.1

      -- by its first record it is a concrete type
      pub concrete-there : viewAt ws 0 ≡ view.Concrete → (t : ATree ws 1) × (schemeGiven (table_of pool table) ws ≡ got (concrete t.0))
      concrete-there e = go its.0 its.1 given
        where
          go : (sc : Scheme ℕ) → GoodScheme pool table ws sc → schemeGiven (table_of pool table) ws ≡ got sc
              → (t : ATree ws 1) × (schemeGiven (table_of pool table) ws ≡ got (concrete t.0))
          go (concrete t) g k = ((t, g.1.held), k)
          go (scheme n t bs) g k = absurd (let z : view.Scheme n ≡ view.Concrete = sym g.0 ∙ e in cc)

      pub concrete-is : viewAt ws 0 ≡ view.Concrete → (t : Ty ℕ) → Holds ws t 1 → schemeGiven (table_of pool table) ws ≡ got (concrete t)
      concrete-is e t l = let x = concrete-there e in x.1 ∙ ap (λ (k : ATree ws 1). got (concrete k.0)) (one-tree ws 1 x.0 (t, l))

      -- or a scheme, whose bounds stand behind its type
      pub record Quantified (n : ℕ) : Type 0 where
        pub type : ATree ws 1
        pub bounds : BoundList ws (1 + size type.0)
        pub is : schemeGiven (table_of pool table) ws ≡ got (scheme n type.0 bounds.0)

      pub scheme-there : (n : ℕ) → viewAt ws 0 ≡ view.Scheme n → Quantified n
      scheme-there n e = go its.0 its.1 given
        where
          go : (sc : Scheme ℕ) → GoodScheme pool table ws sc → schemeGiven (table_of pool table) ws ≡ got sc → Quantified n
          go (concrete t) g k = absurd (let z : view.Concrete ≡ view.Scheme n = sym g.0 ∙ e in cc)
          go (scheme m t bs) (v, (end, (g, c)), l) k =
              let z : view.Scheme m ≡ view.Scheme n = sym v ∙ e in
              let same : m ≡ n = cc in
              record {
                type = (t, g.held);
                bounds = (bs, subst (BoundsAt ws bs) g.past (chain-bounds m end bs c));
                is = k ∙ ap (λ (i : ℕ). got (scheme i t bs)) same;
              }

      module _ (n : ℕ) (e : viewAt ws 0 ≡ view.Scheme n) where
        type-here : Quantified n
        type-here = scheme-there n e

        -- whichever way its type is told
        behind : {at : ℕ} (t : Ty ℕ) → at ≡ 1 + size t → Holds ws t 1 → at ≡ 1 + size type-here.type.0
        behind t i l = i ∙ ap (λ (k : ATree ws 1). 1 + size k.0) (one-tree ws 1 (t, l) type-here.type)

        pub bounds-behind : {at : ℕ} (t : Ty ℕ) → at ≡ 1 + size t → Holds ws t 1 → BoundList ws at
        bounds-behind t i l = subst (BoundList ws) (sym (behind t i l)) type-here.bounds

        pub scheme-is : {at : ℕ} (d : Ty ℕ) → at ≡ 1 + size d → Holds ws d 1 → (t : Ty ℕ) → Holds ws t 1 → (bs : List (Open ℕ)) → BoundsAt ws bs at
            → schemeGiven (table_of pool table) ws ≡ got (scheme n t bs)
        scheme-is d i l t k bs g =
            let x = type-here in
            let first = ap (λ (k : ATree ws 1). got (scheme n k.0 x.bounds.0)) (one-tree ws 1 x.type (t, k)) in
            let listed : BoundList ws (1 + size x.type.0) = (bs, subst (BoundsAt ws bs) (behind d i l) g) in
            x.is ∙ first ∙ ap (λ (k : BoundList ws (1 + size x.type.0)). got (scheme n t k.0)) (one-bounds ws (1 + size x.type.0) x.bounds listed)

      pub neither : (viewAt ws 0 ≡ view.Concrete → ⊥) → ((n : ℕ) → viewAt ws 0 ≡ view.Scheme n → ⊥) → ⊥
      neither f g = go its.0 its.1
        where
          go : (sc : Scheme ℕ) → GoodScheme pool table ws sc → ⊥
          go (concrete t) k = f k.0
          go (scheme n t bs) k = g n k.0
