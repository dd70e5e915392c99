-- If every constraint of a closed line is true over one list of lent names, and the variables of another list are bound to the same types, then
-- every constraint is true over that list too.
use Rattle.std.specs.Prelude.{◌≡◌, Bool, true, false}
use Rattle.std.proofs.Math.Path.{refl, ap, sym}
use Rattle.std.proofs.Common.{◌∙◌}
use Rattle.std.proofs.Math.Option.{Option, none, some, get_or}
use mathlib.Core.List.Memᴰ
use mathlib.Core.List.{List, [], ◌∷◌, ◌++◌}
use Rattle.rules.specs.Exponents.{Exp}
use Rattle.rules.specs.Trees.{var, Names, Ty, opened, basic, dim, boolean, Con, equal, isDim, Binding, opens}
use Rattle.rules.specs.Plain.{plain}
use Rattle.rules.specs.Replacing.{bindings}
use Rattle.rules.specs.Meaning.{TrueUnder}
use Rattle.rules.specs.WellFormed.{goodCon, goodBinding}
use Rattle.laws.specs.Fractions.{Lowest}
use Rattle.laws.specs.Lists.{All, all_nil, all_cons, in_head, Every, all-every}
use Rattle.laws.proofs.Lists.{all_append}
use Rattle.laws.specs.ExactProducts.{raiseE}
use Rattle.theorems_soundness.specs.Claims.{Ordered}
use Rattle.rules.specs.Steps.{
  Two,
  adds,
  subtracts,
  multiplies,
  divides,
  compares,
  LineStep,
  constant,
  reference,
  raises,
  joins,
  chooses,
  gives,
  raised,
  joined,
  chosen,
  takes,
}
use Rattle.rules.specs.Lines.{its, issuedByTwo, issued, constraints}
use Rattle.theorems_lines.proofs.Matching.{
  Matches,
  Fact,
  Bound,
  sides,
  closed-reads,
  dimension-of,
  of-closed,
  of-same,
  of-power,
  of-product,
  of-quotient,
  same_true,
  closed-true,
  dimension-true,
  power-true,
  product-true,
  quotient-true,
}
use Rattle.theorems_lines.proofs.Stacks.{Ready, Stacked, same-two, by_two, by-choice, two-bound}
use Rattle.theorems_lines.proofs.Beginning.{firsts, seconds}

boolean-closed : {N : Type 0} → opens {N = N} (basic boolean) ≡ []
unfolding opens
boolean-closed = refl

module _ {N : Type 0} (ν : Names N) (held : N → Bool) (ord : Ordered ν held) (bs bs' : List (Binding N))
    (good : All (λ b. goodBinding ν held 0 b ≡ true) bs) (good' : All (λ b. goodBinding ν held 0 b ≡ true) bs')
    (Lent : N × N → Type 0) (alike : (p : N × N) → Lent p → (t : Ty N) → bindings ν bs (var p.0) ≡ some t → bindings ν bs' (var p.1) ≡ some t) where
  abbrev M : N → Ty N → Type 0
  M = Matches ν held ord bs [] good

  abbrev M' : N → Ty N → Type 0
  M' = Matches ν held ord bs' [] good'

  abbrev B : N → Ty N → Type 0
  B = Bound ν held ord bs [] good

  abbrev B' : N → Ty N → Type 0
  B' = Bound ν held ord bs' [] good'

  abbrev H : Con N → Type 0
  H = Fact ν held ord bs [] good

  abbrev Good : Con N → Type 0
  Good c = goodCon ν held 0 c ≡ true

  abbrev T' : Con N → Type 0
  T' = TrueUnder ν bs' []

  -- ══ What matches over one list matches over the other ══

  moved : (p : N × N) → Lent p → (t : Ty N) → M p.0 t → M' p.1 t
  unfolding plain
  moved p h t m = go (bindings ν bs (var p.0)) refl
    where
      go : (o : Option (Ty N)) → bindings ν bs (var p.0) ≡ o → M' p.1 t
      go none e = absurd (closed-reads t (var p.0) m.closed (sym m.same ∙ ap (λ (o : Option (Ty N)). plain (get_or o (opened (var p.0))) false) e))
      go (some u) e = record {
        same = ap (λ (o : Option (Ty N)). plain (get_or o (opened (var p.1))) false) (alike p h u e)
            ∙ sym (ap (λ (o : Option (Ty N)). plain (get_or o (opened (var p.0))) false) e) ∙ m.same;
        closed = m.closed;
      }

  abbrev moved-bound : (p : N × N) → Lent p → (t : Ty N) → B p.0 t → B' p.1 t
  moved-bound p h t b = record { product = b.product; is = b.is; bound = alike p h (dim b.product) b.bound; closed = b.closed }

  -- ══ One step ══

  type-carried : (v : N × N) → Lent v → (t : Ty N) → M v.0 t → All T' (issued ν v.1 (gives t))
  unfolding issued
  type-carried v h t m = all_cons T' (closed-true ν held ord bs' [] good' v.1 t (moved v h t m)) (all_nil T')

  power-carried : (v x : N × N) → Lent v → Lent x → (e : Exp) (t : Ty N) → Lowest e → (b : B x.0 t) → M v.0 (dim (raiseE b.product e))
      → All Good (issued ν v.1 (raised e x.1)) → All T' (issued ν v.1 (raised e x.1))
  unfolding issued
  power-carried v x h k e t low b m g =
      let c = moved-bound x k t b in
      all_cons T' (dimension-true ν held ord bs' [] good' x.1 t c)
      (all_cons T' (power-true ν held ord bs' [] good' x.1 e t c low v.1 (g _ (Memᴰ.tail in_head)) (moved v h _ m)) (all_nil T'))

  module _ (v l r : N × N) (hv : Lent v) (hl : Lent l) (hr : Lent r) (s t : Ty N) (m : M l.0 s) (n : M r.0 t) where
    sides-carried : TrueUnder ν bs [] (equal (its l.0) (its r.0)) → T' (equal (its l.1) (its r.1))
    sides-carried f =
        same_true ν held ord bs' [] good' l.1 r.1
        ((moved l hl s m).same ∙ sym m.same ∙ sides ν held ord bs [] good l.0 r.0 f ∙ n.same ∙ sym (moved r hr t n).same)

    dims-carried : B l.0 s → B r.0 t → {cs : List (Con N)} → All T' cs → All T' (isDim (its l.1) ∷ isDim (its r.1) ∷ cs)
    dims-carried a b f = all_cons T' (dimension-true ν held ord bs' [] good' l.1 s (moved-bound l hl s a))
        (all_cons T' (dimension-true ν held ord bs' [] good' r.1 t (moved-bound r hr t b)) f)

    left-carried : M v.0 s → T' (equal (its v.1) (its l.1))
    left-carried k = same_true ν held ord bs' [] good' v.1 l.1 ((moved v hv s k).same ∙ sym (moved l hl s m).same)

    two-carried : (o : Two) → All H (issued ν v.0 (joined o l.0 r.0)) → All Good (issued ν v.1 (joined o l.1 r.1)) → All T' (issued ν v.1 (joined o l.1 r.1))
    unfolding issued issuedByTwo
    two-carried adds f g =
        let h = same-two ν held ord bs [] good l.0 r.0 _ f in
        let b = two-bound ν held ord bs [] good l.0 r.0 s t m n h.left-dim h.right-dim in
        dims-carried b.0 b.1 (all_cons T' (sides-carried h.same.true-under)
        (all_cons T' (left-carried (of-same ν held ord bs [] good v.0 l.0 s m h.of-own.true-under)) (all_nil T')))
    two-carried subtracts f g =
        let h = same-two ν held ord bs [] good l.0 r.0 _ f in
        let b = two-bound ν held ord bs [] good l.0 r.0 s t m n h.left-dim h.right-dim in
        dims-carried b.0 b.1 (all_cons T' (sides-carried h.same.true-under)
        (all_cons T' (left-carried (of-same ν held ord bs [] good v.0 l.0 s m h.of-own.true-under)) (all_nil T')))
    two-carried multiplies f g =
        let h = all-every H _ f in
        let b = two-bound ν held ord bs [] good l.0 r.0 s t m n h.0 h.1.0 in
        let k = moved v hv _ (of-product ν held ord bs [] good l.0 r.0 s t b.0 b.1 v.0 h.1.1.0) in
        dims-carried b.0 b.1 (all_cons T'
        (product-true ν held ord bs' [] good' l.1 r.1 s t (moved-bound l hl s b.0) (moved-bound r hr t b.1) v.1
        (g _ (Memᴰ.tail (Memᴰ.tail in_head))) k) (all_nil T'))
    two-carried divides f g =
        let h = all-every H _ f in
        let b = two-bound ν held ord bs [] good l.0 r.0 s t m n h.0 h.1.0 in
        let k = moved v hv _ (of-quotient ν held ord bs [] good l.0 r.0 s t b.0 b.1 v.0 h.1.1.0) in
        dims-carried b.0 b.1 (all_cons T'
        (quotient-true ν held ord bs' [] good' l.1 r.1 s t (moved-bound l hl s b.0) (moved-bound r hr t b.1) v.1
        (g _ (Memᴰ.tail (Memᴰ.tail in_head))) k) (all_nil T'))
    two-carried compares f g =
        let h = same-two ν held ord bs [] good l.0 r.0 _ f in
        let b = two-bound ν held ord bs [] good l.0 r.0 s t m n h.left-dim h.right-dim in
        let k = moved v hv (basic boolean) (of-closed ν held ord bs [] good v.0 (basic boolean) boolean-closed h.of-own.true-under) in
        dims-carried b.0 b.1 (all_cons T' (sides-carried h.same.true-under)
        (all_cons T' (closed-true ν held ord bs' [] good' v.1 (basic boolean) k) (all_nil T')))

    choice-carried : (c : N × N) → Lent c → All H (issued ν v.0 (chosen c.0 l.0 r.0)) → All T' (issued ν v.1 (chosen c.1 l.1 r.1))
    unfolding issued
    choice-carried c hc f =
        let h = all-every H _ f in
        let k = moved c hc (basic boolean) (of-closed ν held ord bs [] good c.0 (basic boolean) boolean-closed h.0.true-under) in
        all_cons T' (closed-true ν held ord bs' [] good' c.1 (basic boolean) k)
        (all_cons T' (sides-carried h.1.0.true-under) (all_cons T' (left-carried (of-same ν held ord bs [] good v.0 l.0 s m h.1.1.0.true-under)) (all_nil T')))

  type-fact : (p : N × N) (t : Ty N) → All H (issued ν p.0 (gives t)) → TrueUnder ν bs [] (equal (its p.0) t)
  unfolding issued
  type-fact p t f = (f _ in_head).true-under

  power-bound : (x : N × N) (t : Ty N) (e : Exp) (p : N × N) → M x.0 t → All H (issued ν p.0 (raised e x.0)) → B x.0 t
  unfolding issued
  power-bound x t e p m f = dimension-of ν held ord bs [] good x.0 t m (f _ in_head).true-under

  power-matches : (x : N × N) (t : Ty N) (e : Exp) (p : N × N) → Lowest e → (b : B x.0 t) → All H (issued ν p.0 (raised e x.0))
      → M p.0 (dim (raiseE b.product e))
  unfolding issued
  power-matches x t e p low b f = of-power ν held ord bs [] good x.0 e t b low p.0 (f _ (Memᴰ.tail in_head))

  -- ══ The whole line ══

  abbrev Typed : List (N × N) → List (Ty N) → Type 0
  Typed st ts = Stacked ν held ord bs [] good (firsts st) ts

  -- what stands in front of the rest, and the rest
  front : (P : Con N → Type 0) (xs ys : List (Con N)) → All P (xs ++ ys) → All P xs
  front P xs ys h c m = h c (Memᴰ.append_left ys m)

  back : (P : Con N → Type 0) (xs ys : List (Con N)) → All P (xs ++ ys) → All P ys
  back P xs ys h c m = h c (Memᴰ.append_right xs m)

  pub carries : (ss : List (LineStep N)) (ps st : List (N × N)) (ts : List (Ty N)) → Typed st ts → Every Lent st → Every Lent ps → Every Ready ss
      → All H (constraints ν (firsts ps) (firsts st) ss) → All Good (constraints ν (seconds ps) (seconds st) ss)
      → All T' (constraints ν (seconds ps) (seconds st) ss)
  unfolding constraints takes
  carries [] ps st ts m a c r f g = all_nil T'
  carries (s ∷ ss) [] st ts m a c r f g = all_nil T'
  carries (constant t ∷ ss) (p ∷ ps) st ts m a c r f g =
      let x = issued ν p.0 (gives t) in
      let k = of-closed ν held ord bs [] good p.0 t r.0 (type-fact p t (front H x _ f)) in
      all_append T' (issued ν p.1 (gives t)) (type-carried p c.0 t k)
      (carries ss ps (p ∷ st) (t ∷ ts) (k, m) (c.0, a) c.1 r.1 (back H x _ f) (back Good (issued ν p.1 (gives t)) _ g))
  carries (reference t ∷ ss) (p ∷ ps) st ts m a c r f g =
      let x = issued ν p.0 (gives t) in
      let k = of-closed ν held ord bs [] good p.0 t r.0 (type-fact p t (front H x _ f)) in
      all_append T' (issued ν p.1 (gives t)) (type-carried p c.0 t k)
      (carries ss ps (p ∷ st) (t ∷ ts) (k, m) (c.0, a) c.1 r.1 (back H x _ f) (back Good (issued ν p.1 (gives t)) _ g))
  carries (raises e ∷ ss) (p ∷ ps) [] ts m a c r f g = all_nil T'
  carries (raises e ∷ ss) (p ∷ ps) (x ∷ st) [] m a c r f g = absurd m
  carries (raises e ∷ ss) (p ∷ ps) (x ∷ st) (t ∷ ts) m a c r f g =
      let i = issued ν p.0 (raised e x.0) in
      let i' = issued ν p.1 (raised e x.1) in
      let b = power-bound x t e p m.0 (front H i _ f) in
      let k = power-matches x t e p r.0 b (front H i _ f) in
      all_append T' i' (power-carried p x c.0 a.0 e t r.0 b k (front Good i' _ g))
      (carries ss ps (p ∷ st) (dim (raiseE b.product e) ∷ ts) (k, m.1) (c.0, a.1) c.1 r.1 (back H i _ f) (back Good i' _ g))
  carries (joins o ∷ ss) (p ∷ ps) [] ts m a c r f g = all_nil T'
  carries (joins o ∷ ss) (p ∷ ps) (y ∷ []) ts m a c r f g = all_nil T'
  carries (joins o ∷ ss) (p ∷ ps) (y ∷ x ∷ st) [] m a c r f g = absurd m
  carries (joins o ∷ ss) (p ∷ ps) (y ∷ x ∷ st) (t ∷ []) m a c r f g = absurd m.1
  carries (joins o ∷ ss) (p ∷ ps) (y ∷ x ∷ st) (t ∷ s ∷ ts) m a c r f g =
      let i = issued ν p.0 (joined o x.0 y.0) in
      let i' = issued ν p.1 (joined o x.1 y.1) in
      let k = by_two ν held ord bs [] good x.0 y.0 s t m.1.0 m.0 o p.0 (front H i _ f) in
      all_append T' i' (two-carried p x y c.0 a.1.0 a.0 s t m.1.0 m.0 o (front H i _ f) (front Good i' _ g))
      (carries ss ps (p ∷ st) (k.type ∷ ts) (k.matches, m.1.1) (c.0, a.1.1) c.1 r.1 (back H i _ f) (back Good i' _ g))
  carries (chooses ∷ ss) (p ∷ ps) [] ts m a c r f g = all_nil T'
  carries (chooses ∷ ss) (p ∷ ps) (y ∷ []) ts m a c r f g = all_nil T'
  carries (chooses ∷ ss) (p ∷ ps) (y ∷ x ∷ []) ts m a c r f g = all_nil T'
  carries (chooses ∷ ss) (p ∷ ps) (y ∷ x ∷ z ∷ st) [] m a c r f g = absurd m
  carries (chooses ∷ ss) (p ∷ ps) (y ∷ x ∷ z ∷ st) (t ∷ []) m a c r f g = absurd m.1
  carries (chooses ∷ ss) (p ∷ ps) (y ∷ x ∷ z ∷ st) (t ∷ s ∷ []) m a c r f g = absurd m.1.1
  carries (chooses ∷ ss) (p ∷ ps) (y ∷ x ∷ z ∷ st) (t ∷ s ∷ u ∷ ts) m a c r f g =
      let i = issued ν p.0 (chosen z.0 x.0 y.0) in
      let i' = issued ν p.1 (chosen z.1 x.1 y.1) in
      let k = by-choice ν held ord bs [] good x.0 y.0 s t m.1.0 m.0 z.0 u m.1.1.0 p.0 (front H i _ f) in
      all_append T' i' (choice-carried p x y c.0 a.1.0 a.0 s t m.1.0 m.0 z a.1.1.0 (front H i _ f))
      (carries ss ps (p ∷ st) (k.type ∷ ts) (k.matches, m.1.1.1) (c.0, a.1.1.1) c.1 r.1 (back H i _ f) (back Good i' _ g))
