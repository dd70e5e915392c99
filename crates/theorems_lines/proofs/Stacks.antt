-- Step after step: the stack of variables that the constraints are made over, and the stack of types of the run, match place by place. So a
-- line whose constraints are all true runs to its end.
use Rattle.std.specs.Prelude.{◌≡◌, Bool, suc, ◌-◌, ◌≤◌, eqb, leb, length}
use Rattle.std.proofs.Math.Path.{refl}
use Rattle.std.proofs.Common.{sym, arith}
use Rattle.std.proofs.Math.Bool.{true}
use Rattle.std.proofs.Math.Option.{Option, none, some}
use mathlib.Core.List.Memᴰ
use mathlib.Core.List.{List, [], ◌∷◌, ◌++◌}
use borrow.Author.Tests.{leb-true, eqb-true}
use Rattle.rules.specs.Exponents.{Exp}
use Rattle.rules.specs.Trees.{Product, Names, Ty, basic, dim, boolean, Con, equal, isDim, Binding, opens}
use Rattle.rules.specs.Meaning.{means}
use Rattle.rules.specs.Products.{inverse}
use Rattle.rules.specs.WellFormed.{goodBinding}
use Rattle.laws.specs.Lists.{and_left, and_right, All, in_head, Every, all-every}
use Rattle.laws.proofs.Lists.{true≢false}
use Rattle.laws.specs.Fractions.{Lowest}
use Rattle.laws.specs.ExactProducts.{mergeE, raiseE}
use Rattle.laws.proofs.ExactProducts.{multiply-exact, divide-exact, raise-exact}
use Rattle.theorems_soundness.specs.Claims.{Ordered}
use Rattle.rules.specs.Steps.{
  Two,
  adds,
  subtracts,
  multiplies,
  divides,
  compares,
  LineStep,
  constant,
  reference,
  raises,
  joins,
  chooses,
  Deed,
  gives,
  raised,
  joined,
  chosen,
  operands,
  takes,
  whole,
}
use Rattle.rules.specs.Lines.{its, issuedByTwo, issued, constraints, last_of}
use Rattle.rules.specs.Running.{ran, dimensionOf, alike, isCondition, sameDimensions, ofDimensions, doesTwo, does, run_from}
use Rattle.theorems_lines.proofs.Matching.{Matches, Fact, Bound, of-closed, of-same, mean-same, is-boolean, dimension-of, of-power, of-product, of-quotient}

module _ {N : Type 0} where
  -- what is asked of a step: closed types, a power in lowest terms
  abbrev pub Ready : LineStep N → Type 0
  Ready (constant t) = opens t ≡ []
  Ready (reference t) = opens t ≡ []
  Ready (raises e) = Lowest e
  Ready (joins o) = Unit {0}
  Ready chooses = Unit {0}

  abbrev pub top_of : List N → Option N
  top_of [] = none
  top_of (v ∷ st) = some v

  -- the variable of the last step, or the one before the first
  unfoldable pub last_or : Option N → List N → List (LineStep N) → Option N
  last_or o vs [] = o
  last_or o [] (s ∷ ss) = none
  last_or o (v ∷ vs) (s ∷ ss) = last_or (some v) vs ss

  last-is : (o : Option N) (vs : List N) (s : LineStep N) (ss : List (LineStep N)) → last_of vs (s ∷ ss) ≡ last_or o vs (s ∷ ss)
  unfolding last_of last_or
  last-is o [] s ss = refl
  last-is o (v ∷ vs) s [] = refl
  last-is o (v ∷ vs) s (s' ∷ ss) = last-is (some v) vs s' ss

  pub last-from : (vs : List N) (ss : List (LineStep N)) → last_of vs ss ≡ last_or none vs ss
  unfolding last_of last_or
  last-from vs [] = refl
  last-from vs (s ∷ ss) = last-is none vs s ss

-- ══ What a run does with dimensions ══

module _ {N : Type 0} (ν : Names N) where
  power-runs : (s : Ty N) (p : Product N) (e : Exp) → s ≡ dim p → does ν (raised e s) ≡ ran (dim (raiseE p e))
  unfolding does dimensionOf
  power-runs s p e i = rw (i, raise-exact ν p e)

  product-runs : (s t : Ty N) (p q : Product N) → s ≡ dim p → t ≡ dim q → doesTwo ν multiplies s t ≡ ran (dim (mergeE ν p q))
  unfolding doesTwo ofDimensions dimensionOf
  product-runs s t p q i j = rw (i, j, multiply-exact ν p q)

  quotient-runs : (s t : Ty N) (p q : Product N) → s ≡ dim p → t ≡ dim q → doesTwo ν divides s t ≡ ran (dim (mergeE ν p (inverse q)))
  unfolding doesTwo ofDimensions dimensionOf
  quotient-runs s t p q i j = rw (i, j, divide-exact ν p q)

  same_runs : (s t u : Ty N) (p q : Product N) → s ≡ dim p → t ≡ dim q → means ν s t ≡ true → sameDimensions ν s t u ≡ ran u
  unfolding sameDimensions dimensionOf alike
  same_runs s t u p q i j e = rw (e, i, j)

module _ {N : Type 0} (ν : Names N) (held : N → Bool) (ord : Ordered ν held) (bs : List (Binding N)) (ns : List N)
    (good : All (λ b. goodBinding ν held 0 b ≡ true) bs) where
  abbrev pub Match : N → Ty N → Type 0
  Match = Matches ν held ord bs ns good

  abbrev pub Holding : Con N → Type 0
  Holding = Fact ν held ord bs ns good

  abbrev pub Stacked : List N → List (Ty N) → Type 0
  Stacked [] [] = Unit {0}
  Stacked [] (t ∷ ts) = ⊥
  Stacked (v ∷ vs) [] = ⊥
  Stacked (v ∷ vs) (t ∷ ts) = Match v t × Stacked vs ts

  -- what a step leaves matches its variable
  pub record Left (v : N) (d : Deed N (Ty N)) : Type 0 where
    pub type : Ty N
    pub leaves : does ν d ≡ ran type
    pub matches : Match v type

  record Took (s : LineStep N) (v : N) (st : List N) (ts : List (Ty N)) : Type 0 where
    deed : Deed N N
    rest : List N
    ofVars : takes s st ≡ some (deed, rest)
    deed' : Deed N (Ty N)
    rest' : List (Ty N)
    ofTypes : takes s ts ≡ some (deed', rest')
    stacked : Stacked rest rest'
    left_over : length rest ≡ length st - operands s
    leaves : All Holding (issued ν v deed) → Left v deed'

  -- ══ One step ══

  pub by-power : (v x : N) (e : Exp) (t : Ty N) → Match x t → Lowest e → All Holding (issued ν v (raised e x)) → Left v (raised e t)
  unfolding issued
  by-power v x e t m low facts =
      let h = all-every Holding _ facts in
      let b = dimension-of ν held ord bs ns good x t m h.0.true-under in
      record { type = dim (raiseE b.product e); leaves = power-runs ν t b.product e b.is; matches = of-power ν held ord bs ns good x e t b low v h.1.0 }

  -- what adding, subtracting and comparing ask: two dimensions that mean the same; and the last constraint, on the step's own variable
  pub record SameTwo (l r : N) (own : Con N) : Type 0 where
    pub left-dim : Holding (isDim (its l))
    pub right-dim : Holding (isDim (its r))
    pub same : Holding (equal (its l) (its r))
    pub of-own : Holding own

  pub same-two : (l r : N) (own : Con N) → All Holding (isDim (its l) ∷ isDim (its r) ∷ equal (its l) (its r) ∷ own ∷ []) → SameTwo l r own
  same-two l r own facts = record {
    left-dim = facts _ in_head;
    right-dim = facts _ (Memᴰ.tail in_head);
    same = facts _ (Memᴰ.tail (Memᴰ.tail in_head));
    of-own = facts _ (Memᴰ.tail (Memᴰ.tail (Memᴰ.tail in_head)));
  }

  -- ══ Two operands ══

  -- both operands are dimensions
  module _ (l r : N) (s t : Ty N) (m : Match l s) (n : Match r t) where
    abbrev pub Bounds : Type 0
    Bounds = Bound ν held ord bs ns good l s × Bound ν held ord bs ns good r t

    pub two-bound : Holding (isDim (its l)) → Holding (isDim (its r)) → Bounds
    two-bound f g = (dimension-of ν held ord bs ns good l s m f.true-under, dimension-of ν held ord bs ns good r t n g.true-under)

    -- that mean the same
    same-sides : Bounds → Holding (equal (its l) (its r)) → (u : Ty N) → sameDimensions ν s t u ≡ ran u
    same-sides b f u = same_runs ν s t u b.0.product b.1.product b.0.is b.1.is (mean-same ν held ord bs ns good l r s t m n f.true-under)

    pub by_two : (o : Two) (v : N) → All Holding (issued ν v (joined o l r)) → Left v (joined o s t)
    unfolding issued issuedByTwo does doesTwo opens
    by_two adds v facts =
        let h = same-two l r _ facts in
        record {
          type = s;
          leaves = same-sides (two-bound h.left-dim h.right-dim) h.same s;
          matches = of-same ν held ord bs ns good v l s m h.of-own.true-under;
        }
    by_two subtracts v facts =
        let h = same-two l r _ facts in
        record {
          type = s;
          leaves = same-sides (two-bound h.left-dim h.right-dim) h.same s;
          matches = of-same ν held ord bs ns good v l s m h.of-own.true-under;
        }
    by_two multiplies v facts =
        let h = all-every Holding _ facts in
        let b = two-bound h.0 h.1.0 in
        record {
          type = dim (mergeE ν b.0.product b.1.product);
          leaves = product-runs ν s t b.0.product b.1.product b.0.is b.1.is;
          matches = of-product ν held ord bs ns good l r s t b.0 b.1 v h.1.1.0;
        }
    by_two divides v facts =
        let h = all-every Holding _ facts in
        let b = two-bound h.0 h.1.0 in
        record {
          type = dim (mergeE ν b.0.product (inverse b.1.product));
          leaves = quotient-runs ν s t b.0.product b.1.product b.0.is b.1.is;
          matches = of-quotient ν held ord bs ns good l r s t b.0 b.1 v h.1.1.0;
        }
    by_two compares v facts =
        let h = same-two l r _ facts in
        record {
          type = basic boolean;
          leaves = same-sides (two-bound h.left-dim h.right-dim) h.same (basic boolean);
          matches = of-closed ν held ord bs ns good v (basic boolean) refl h.of-own.true-under;
        }

    pub by-choice : (c : N) (u : Ty N) → Match c u → (v : N) → All Holding (issued ν v (chosen c l r)) → Left v (chosen u s t)
    unfolding issued does isCondition alike
    by-choice c u k v facts =
        let h = all-every Holding _ facts in
        record {
          type = s;
          leaves = rw (is-boolean ν held ord bs ns good c u k h.0.true-under, mean-same ν held ord bs ns good l r s t m n h.1.0.true-under);
          matches = of-same ν held ord bs ns good v l s m h.1.1.0.true-under;
        }

  -- ══ Any step ══

  -- a step finds its operands, and what it leaves matches its variable
  step : (s : LineStep N) (v : N) (st : List N) (ts : List (Ty N)) → Stacked st ts → operands s ≤ length st → Ready s → Took s v st ts
  unfolding takes issued does opens
  step (constant t) v st ts m h c = record {
    deed = gives t;
    rest = st;
    ofVars = refl;
    deed' = gives t;
    rest' = ts;
    ofTypes = refl;
    stacked = m;
    left_over = omega arith;
    leaves = λ facts. record { type = t; leaves = refl; matches = of-closed ν held ord bs ns good v t c (all-every Holding _ facts).0.true-under };
  }
  step (reference t) v st ts m h c = record {
    deed = gives t;
    rest = st;
    ofVars = refl;
    deed' = gives t;
    rest' = ts;
    ofTypes = refl;
    stacked = m;
    left_over = omega arith;
    leaves = λ facts. record { type = t; leaves = refl; matches = of-closed ν held ord bs ns good v t c (all-every Holding _ facts).0.true-under };
  }
  step (raises e) v [] ts m h c = absurd (omega arith)
  step (raises e) v (x ∷ st) [] m h c = absurd m
  step (raises e) v (x ∷ st) (t ∷ ts) m h c = record {
    deed = raised e x;
    rest = st;
    ofVars = refl;
    deed' = raised e t;
    rest' = ts;
    ofTypes = refl;
    stacked = m.1;
    left_over = omega arith;
    leaves = by-power v x e t m.0 c;
  }
  step (joins o) v [] ts m h c = absurd (omega arith)
  step (joins o) v (r ∷ []) ts m h c = absurd (omega arith)
  step (joins o) v (r ∷ l ∷ st) [] m h c = absurd m
  step (joins o) v (r ∷ l ∷ st) (t ∷ []) m h c = absurd m.1
  step (joins o) v (r ∷ l ∷ st) (t ∷ s ∷ ts) m h c = record {
    deed = joined o l r;
    rest = st;
    ofVars = refl;
    deed' = joined o s t;
    rest' = ts;
    ofTypes = refl;
    stacked = m.1.1;
    left_over = omega arith;
    leaves = by_two l r s t m.1.0 m.0 o v;
  }
  step chooses v [] ts m h c = absurd (omega arith)
  step chooses v (r ∷ []) ts m h c = absurd (omega arith)
  step chooses v (r ∷ l ∷ []) ts m h c = absurd (omega arith)
  step chooses v (r ∷ l ∷ k ∷ st) [] m h c = absurd m
  step chooses v (r ∷ l ∷ k ∷ st) (t ∷ []) m h c = absurd m.1
  step chooses v (r ∷ l ∷ k ∷ st) (t ∷ s ∷ []) m h c = absurd m.1.1
  step chooses v (r ∷ l ∷ k ∷ st) (t ∷ s ∷ u ∷ ts) m h c = record {
    deed = chosen k l r;
    rest = st;
    ofVars = refl;
    deed' = chosen u s t;
    rest' = ts;
    ofTypes = refl;
    stacked = m.1.1.1;
    left_over = omega arith;
    leaves = by-choice l r s t m.1.0 m.0 k u m.1.1.0 v;
  }

  -- ══ The whole line ══

  pub record Ends (vs st : List N) (ts : List (Ty N)) (ss : List (LineStep N)) : Type 0 where
    pub variable : N
    pub type : Ty N
    pub last : last_or (top_of st) vs ss ≡ some variable
    pub left : run_from ν ts ss ≡ ran (type ∷ [])
    pub matches : Match variable type

  ended : (vs st : List N) (ts : List (Ty N)) → Stacked st ts → eqb (length st) 1 ≡ true → Ends vs st ts []
  unfolding last_or run_from
  ended vs [] ts m h = absurd (true≢false (sym h))
  ended vs (v ∷ []) [] m h = absurd m
  ended vs (v ∷ []) (t ∷ []) m h = record { variable = v; type = t; last = refl; left = refl; matches = m.0 }
  ended vs (v ∷ []) (t ∷ u ∷ ts) m h = absurd m.1
  ended vs (v ∷ w ∷ st) ts m h = absurd (let z = eqb-true (length (v ∷ w ∷ st)) 1 h in omega arith)

  pub runs : (ss : List (LineStep N)) (vs st : List N) (ts : List (Ty N)) → Stacked st ts → whole (length st) ss ≡ true → length ss ≤ length vs
      → Every Ready ss → All Holding (constraints ν vs st ss) → Ends vs st ts ss
  unfolding whole constraints run_from last_or
  runs [] vs st ts m h n c f = ended vs st ts m h
  runs (s ∷ ss) [] st ts m h n c f = absurd (omega arith)
  runs (s ∷ ss) (v ∷ vs) st ts m h n c f =
      let k = step s v st ts m (leb-true (operands s) (length st) (and_left (leb (operands s) (length st)) _ h)) c.0 in
      let f' : All Holding (issued ν v k.deed ++ constraints ν vs (v ∷ k.rest) ss) = rw (k.ofVars, constraints) at f in
      let g = k.leaves (λ d i. f' d (Memᴰ.append_left (constraints ν vs (v ∷ k.rest) ss) i)) in
      let h' : whole (suc (length k.rest)) ss ≡ true = rw k.left_over (and_right (leb (operands s) (length st)) _ h) in
      let e = runs ss vs (v ∷ k.rest) (g.type ∷ k.rest') (g.matches, k.stacked) h' (omega arith) c.1 (λ d i. f' d (Memᴰ.append_right (issued ν v k.deed) i)) in
      record { variable = e.variable; type = e.type; last = e.last; left = rw (k.ofTypes, g.leaves) e.left; matches = e.matches }
