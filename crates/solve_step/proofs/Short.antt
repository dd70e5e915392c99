-- What a rule writes is short: so the writer's count is the place past it.
use Rattle.std.specs.Prelude.{◌≡◌, Bool, true, false, not, List, [], ◌∷◌, ℕ, suc, ◌+◌, ◌*◌, ◌<◌, ◌≤◌, length, Result, Ok, refl}
use Rattle.std.proofs.Common.{arith, ap, subst, ◌∙◌, sym}
use Rattle.std.proofs.Math.Option.{Option, none, some}
use Rattle.std.proofs.Math.Logic.{inl, inr}
use Rattle.rules.specs.Base.{Got, got, refused, bounded, collect, sum_of, only_if, ◌or_else◌}
use Rattle.rules.specs.Contents.{contains, fieldIn, namesIn}
use Rattle.rules.specs.Base.{is_yes}
use Rattle.rules.specs.Products.{divide}
use Rattle.rules.specs.Rounds as rules
use Rattle.rules.specs.Rounds.{bindTo, pairs, otherSide, trySatisfy}
use Rattle.rules.specs.Trees.{
  var,
  quant,
  par,
  free,
  base,
  ◌↑◌,
  Product,
  Names,
  Ty,
  opened,
  dim,
  Tys,
  nil,
  cons,
  Fields,
  noFields,
  field,
  Con,
  equal,
  ◌≔◌,
  size,
  sizeTys,
  sizeFields,
  sizeCon,
  sizeBinding,
}
use Rattle.rules.specs.WellFormed.{goodProduct, goodTy, goodCon}
use Rattle.rules.specs.Writing.{words}
use Rattle.rules.specs.declared.Refusal.{Refusal}
use Rattle.laws.proofs.GoodProducts.{good-product, divide-good}
use Rattle.laws.specs.Lists.{and_left, and_right}
use Rattle.laws.proofs.Lists.{each-length}
use Rattle.laws.proofs.Size.{size-binding, set-length}
use Rattle.laws.specs.RuleCases.{parts}
use Rattle.laws.proofs.RuleCases.{
  Sides,
  rule,
  Rule,
  none-applies,
  equal-records,
  binds,
  two-functions,
  two-lists,
  two-structs,
  as-product,
  two-dimensions,
  dimension,
  no-factor,
  first-factor,
  closed-struct,
}
use Rattle.products.proofs.Held.{law}
use Rattle.records.proofs.ByView.{size-pos}
use Rattle.records.specs.Good.{numbers, holding}
use Rattle.types.specs.declared.writer.Writer.{Writer}
use Rattle.rules.specs.Views.{asVar, asPower}
use Rattle.solve_step.specs.Applied.{Applied}
use Rattle.solve_step.specs.Bindings.{either, firstBinding}
use Rattle.solve_step.specs.Stepped.{GoodCon, Stepped}
use Rattle.solve_step.specs.declared.Step.{Step}
use Rattle.solve_step.specs.declared.Step.TheVariants.{Bind, Split}

-- how much a step writes
abbrev pub long : rules.Step ℕ → ℕ
long (rules.bind x t) = sizeBinding (x ≔ t)
long (rules.split cs) = sum_of sizeCon cs
long rules.done = 0
long rules.stuck = 0

pairs-long : (ts us : Tys ℕ) → sum_of sizeCon (pairs ts us) ≤ sizeTys ts * 2 + sizeTys us
unfolding pairs sizeTys sizeCon
pairs-long nil us = omega arith
pairs-long (cons t ts) nil = omega arith
pairs-long (cons t ts) (cons u us) = omega (arith, pairs-long ts us, size-pos t)

parts-long : (p : Product ℕ) → sum_of sizeCon (parts p) ≤ length p * 2
unfolding collect namesIn sizeCon size
parts-long [] = omega arith
parts-long (free (var x) ↑ e ∷ p) = omega (arith, parts-long p)
parts-long (free (quant i) ↑ e ∷ p) = omega (arith, parts-long p)
parts-long (free (par x) ↑ e ∷ p) = omega (arith, parts-long p)
parts-long (base x ↑ e ∷ p) = omega (arith, parts-long p)

module _ (ν : Names ℕ) where
  pub field-long : (x : ℕ) (fs : Fields ℕ) (t : Ty ℕ) → fieldIn ν x fs ≡ some t → size t ≤ sizeFields fs
  unfolding fieldIn sizeFields
  field-long x noFields t e = cc
  field-long x (field n u fs) t e = go (ν.same x n) (field-long x fs t) e
    where
      go : (d : Dec (x ≡ n)) → (fieldIn ν x fs ≡ some t → size t ≤ sizeFields fs) → elim (is_yes d) [ true ↦ some u | false ↦ fieldIn ν x fs ] ≡ some t
          → size t ≤ suc (size u + sizeFields fs)
      go (yes q) more e = let i : u ≡ t = cc in omega (arith, ap size i)
      go (no n) more e = omega (arith, more e)

  side-long : (c : Con ℕ) (l r : Ty ℕ) → Sides c l r → size l + size r < sizeCon c
  unfolding sizeCon
  side-long c l r (inl e) = omega (arith, ap sizeCon e)
  side-long c l r (inr e) = omega (arith, ap sizeCon e)

module _ (ν : Names ℕ) where
  bind-long : (x : Option ℕ) (t : Ty ℕ) (s : rules.Step ℕ) → bindTo ν x t ≡ some s → long s ≡ suc (size t)
  unfolding bindTo sizeBinding
  bind-long none t s e = cc
  bind-long (some y) t s e = go (contains ν y t) e
    where
      go : (b : Bool) → only_if (not b) (rules.bind y t) ≡ some s → long s ≡ suc (size t)
      go true e = cc
      go false e = let i : rules.bind y t ≡ s = cc in sym (ap long i)

  either-long : (x y : Option ℕ) (l r : Ty ℕ) (s : rules.Step ℕ) → either ν x y l r ≡ some s → long s ≤ suc (size l + size r)
  either-long x y l r s e = go (bindTo ν x r) refl e
    where
      go : (o : Option (rules.Step ℕ)) → bindTo ν x r ≡ o → (o or_else bindTo ν y l) ≡ some s → long s ≤ suc (size l + size r)
      go none i e = omega (arith, bind-long y l s e)
      go (some v) i e = omega (arith, bind-long x r s (i ∙ e))

  -- a type that a variable is bound to is one of the sides
  pub first-long : (l r : Ty ℕ) (s : rules.Step ℕ) → some s ≡ firstBinding ν l r → long s ≤ suc (size l + size r)
  first-long l r s e = go (either ν (asVar l) (asVar r) l r) refl (sym e)
    where
      go : (o : Option (rules.Step ℕ)) → either ν (asVar l) (asVar r) l r ≡ o → (o or_else either ν (asPower l) (asPower r) l r) ≡ some s
          → long s ≤ suc (size l + size r)
      go none i e = either-long (asPower l) (asPower r) l r s e
      go (some v) i e = either-long (asVar l) (asVar r) l r s (i ∙ e)

module _ (pool table : List ℕ) where
  quotient-long : (c : Con ℕ) (d e q : Product ℕ) → GoodCon pool table c → c ≡ equal (dim d) (dim e) → divide (numbers pool table) bounded d e ≡ got q
      → length q ≤ 64
  unfolding goodCon goodTy
  quotient-long c d e q g i h =
      let both = subst (GoodCon pool table) i g in
      let x = and_left (goodProduct (numbers pool table) (holding pool table) 0 d) (goodProduct (numbers pool table) (holding pool table) 0 e) both in
      let y = and_right (goodProduct (numbers pool table) (holding pool table) 0 d) (goodProduct (numbers pool table) (holding pool table) 0 e) both in
      (good-product (numbers pool table) (law pool table) (holding pool table) 0 q
      ((divide-good (numbers pool table) (law pool table) (holding pool table) 0 d e x y).holds q h)).few

  pub step-short : (c : Con ℕ) (s : rules.Step ℕ) → GoodCon pool table c → sizeCon c ≤ 50_000 → trySatisfy (numbers pool table) bounded c ≡ got s
      → long s ≤ 1_000_000
  unfolding sizeCon sizeBinding size sizeTys sizeFields
  step-short c s g n e = go (rule (numbers pool table) bounded c s e)
    where
      go : Rule (numbers pool table) bounded c s → long s ≤ 1_000_000
      go (none-applies i) = omega (arith, ap long i)
      go (equal-records t h i) = omega (arith, ap long i)
      go (binds x side t sides reads free' i) = omega (arith, ap long i, n, side-long (numbers pool table) c side t sides)
      go (two-functions ps qs r q k h i) = omega (arith, ap long i, n, ap sizeCon h, pairs-long ps qs)
      go (two-lists t u h i) = omega (arith, ap long i, n, ap sizeCon h)
      go (two-structs m as' bs fs gs k h i) = omega (arith, ap long i, n, ap sizeCon h, pairs-long as' bs)
      go (as-product x d sides m i) = omega (arith, ap long i, n, side-long (numbers pool table) c (opened (var x)) (dim d) sides)
      go (two-dimensions d e q k h i) = omega (arith, ap long i, quotient-long c d e q g h k)
      go (dimension p h i) = omega (arith, ap long i, n, ap sizeCon h, parts-long p)
      go (no-factor h i) = omega (arith, ap long i)
      go (first-factor x k p q m h i) = omega (arith, ap long i, n, ap sizeCon h, each-length (otherSide bounded k) p q m)
      go (closed-struct x m as' fs t u o f h i) = omega (arith, ap long i, n, ap sizeCon h, field-long (numbers pool table) x fs u f)

-- so the writer's count and buffer are those of the whole step
writer-stepped : (w w' : Writer) {r : Result Step Refusal} (R : Got (rules.Step ℕ)) → w.at ≤ 1_000_000_000
    → ((s : rules.Step ℕ) → R ≡ got s → long s ≤ 1_000_000) → Applied w w' r R
    → Stepped w.words.now w'.words.now w.at r R
unfolding words
writer-stepped w w' (got (rules.bind x t)) n m h =
    let k = m (rules.bind x t) refl in
    let l = size-binding (x ≔ t) in
    let p = h.says.1 in
    record { says = (h.says.0 ∙ ap (λ (i : ℕ). Ok (Bind i)) (omega (arith, n, k, l, p.at)), p.words (omega (arith, n, k, l))) }
writer-stepped w w' (got (rules.split cs)) n m h =
    let k = m (rules.split cs) refl in
    let l = set-length cs in
    let p = h.says.1 in
    record { says = (h.says.0 ∙ ap (λ (i : ℕ). Ok (Split i)) (omega (arith, n, k, l, p.at)), p.words (omega (arith, n, k, l))) }
writer-stepped w w' (got rules.done) n m h = record { says = (h.says.0, h.says.1.words (omega (arith, n))) }
writer-stepped w w' (got rules.stuck) n m h = record { says = (h.says.0, h.says.1.words (omega (arith, n))) }
writer-stepped w w' (refused k) n m h = record { says = h.says }

-- and so is a buffer that became the writer's
pub stepped : (w w' : Writer) {r : Result Step Refusal} (R : Got (rules.Step ℕ)) → w.at ≤ 1_000_000_000
    → ((s : rules.Step ℕ) → R ≡ got s → long s ≤ 1_000_000) → Applied w w' r R
    → {d : List ℕ} → d ≡ w'.words.now → Stepped w.words.now d w.at r R
stepped w w' {r} R n m h e = subst (λ (d : List ℕ). Stepped w.words.now d w.at r R) (sym e) (writer-stepped w w' R n m h)
