-- The rules for constraints other than equalities, each with what its case knows.
use Rattle.std.specs.Prelude.{◌≡◌, true, false, Bool, List, [], ◌∷◌, map, ℕ, suc, ◌+◌, ◌≤◌, length, Result, Ok, Err, refl}
use Rattle.std.proofs.Common.{arith, ap, sym, subst, ◌∙◌, append-nil}
use Rattle.std.proofs.Math.Option.{none, some, get_or}
use Rattle.rules.specs.Base.{Got, got, refused, ◌>>=◌, bounded, each, collect, and_then, only_if}
use Rattle.rules.specs.Contents.{closed, fieldIn, namesIn}
use Rattle.rules.specs.Exponents.{Exp, neg, quotient}
use Rattle.rules.specs.Names.{Bytes, numbered}
use Rattle.rules.specs.Refusals.{number_of}
use Rattle.rules.specs.declared.Refusal.{Refusal}
use Rattle.rules.specs.Rounds as rules
use Rattle.rules.specs.Rounds.{dimensionParts, otherSide, fieldStep, trySatisfy}
use Rattle.rules.specs.Trees as tree
use Rattle.rules.specs.Trees.{
  var,
  Atom,
  free,
  base,
  Factor,
  ◌↑◌,
  Product,
  Ty,
  dim,
  struct,
  Tys,
  Fields,
  Con,
  equal,
  isDim,
  opened,
  is_scalar,
  ◌≔◌,
  sizeBinding,
  size,
}
use Rattle.rules.specs.Views.{productOf, struct_of}
use Rattle.rules.specs.Writing.{Rec, rec, head, twos, writeFactor, writeProduct, writeTy, writeCon, writeBinding}
use Rattle.laws.proofs.Lists.{each-length}
use Rattle.laws.specs.RuleCases.{parts}
use Rattle.exponents.specs.Answers.{expOf}
use Rattle.exponents.specs.declared.Exponent.{Exponent}
use Rattle.records.specs.Cut.{fit}
use Rattle.records.specs.Views.{recOf}
use Rattle.records.specs.Holds.{atomOf}
use Rattle.records.specs.declared.Atom as atoms
use Rattle.records.specs.declared.Open as opens
use Rattle.records.specs.declared.View.TheVariants as view
use Rattle.types.specs.declared.Shape.{Shape}
use Rattle.types.specs.declared.Shape.TheVariants as shape
use Rattle.types.specs.declared.writer.Writer.{Writer}
use Rattle.types.specs.Shapes.{whole}
use Rattle.types.specs.Written.{Writes}
use Rattle.types.proofs.Written.{writes-then, writes-none}
use Rattle.solve_step.specs.Applied.{Applied, FactorsLeft, FactorsPut}
use Rattle.solve_step.specs.Parts.{freeVariable, freeName, isDimOf, boundTo}
use Rattle.solve_step.specs.declared.Step.TheVariants.{Bind}
use Rattle.solve_step.proofs.Rules.{NotDimension, NotStruct}
use Rattle.solve_step.proofs.Written.{cons-con, solved-written}

-- ══ Is-dimension ══

as-one : {w w' : Writer} (c : Con ℕ) → Writes w w' (collect writeCon (c ∷ [])) → Writes w w' (writeCon c)
unfolding collect
as-one {w} {w'} c p = subst (Writes w w') (append-nil (writeCon c)) p

-- what is still to be written behind w makes all that was asked from w₀ on
abbrev pub Still : Writer → Writer → Product ℕ → Product ℕ → Type 0
Still w₀ w p p₀ = (w' : Writer) → Writes w w' (collect writeCon (parts p)) → Writes w₀ w' (collect writeCon (parts p₀))

pub still-named : (w₀ w w₁ : Writer) (a : Atom ℕ) (k : Exp) (p q p₀ : Product ℕ) (x : ℕ) → Still w₀ w q p₀ → q ≡ a ↑ k ∷ p → some x ≡ freeName a
    → Writes w w₁ (collect writeCon (isDimOf x)) → Still w₀ w₁ p p₀
unfolding collect namesIn
still-named w₀ w w₁ a k p q p₀ x s e n v w' r = s w' (subst (λ (q : Product ℕ). Writes w w' (collect writeCon (parts q))) (sym e) (go a n))
  where
    both : Writes w w' (collect writeCon (isDim (opened (var x)) ∷ parts p))
    both = cons-con (isDim (opened (var x))) (parts p) (as-one (isDim (opened (var x))) v) r

    go : (a : Atom ℕ) → some x ≡ freeName a → Writes w w' (collect writeCon (parts (a ↑ k ∷ p)))
    go (free (var y)) n = let i : x ≡ y = cc in subst (λ (z : ℕ). Writes w w' (collect writeCon (isDim (opened (var z)) ∷ parts p))) i both
    go (free (tree.quant i)) n = cc
    go (free (tree.par y)) n = let i : x ≡ y = cc in subst (λ (z : ℕ). Writes w w' (collect writeCon (isDim (opened (var z)) ∷ parts p))) i both
    go (base y) n = cc

pub still-passed : (w₀ w : Writer) (a : Atom ℕ) (k : Exp) (p q p₀ : Product ℕ) → Still w₀ w q p₀ → q ≡ a ↑ k ∷ p → none ≡ freeName a → Still w₀ w p p₀
unfolding collect namesIn
still-passed w₀ w a k p q p₀ s e n w' r = s w' (subst (λ (q : Product ℕ). Writes w w' (collect writeCon (parts q))) (sym e) (go a n))
  where
    go : (a : Atom ℕ) → none ≡ freeName a → Writes w w' (collect writeCon (parts (a ↑ k ∷ p)))
    go (free (var y)) n = cc
    go (free (tree.quant i)) n = r
    go (free (tree.par y)) n = cc
    go (base y) n = r

pub still-none : (w₀ w : Writer) (q p₀ : Product ℕ) → Still w₀ w q p₀ → q ≡ [] → Writes w₀ w (collect writeCon (parts p₀))
unfolding collect namesIn
still-none w₀ w q p₀ s e = s w (subst (λ (q : Product ℕ). Writes w w (collect writeCon (parts q))) (sym e) (writes-none w))

pub no-dimension : (s : Shape) {t : Ty ℕ} → whole s ≡ t → NotDimension s → got (dimensionParts (productOf t)) ≡ got rules.stuck
unfolding dimensionParts
no-dimension s {t} e n = subst (λ (u : Ty ℕ). got (dimensionParts (productOf u)) ≡ got rules.stuck) e (go s n)
  where
    go : (s : Shape) → NotDimension s → got (dimensionParts (productOf (whole s))) ≡ got rules.stuck
    go (shape.Open o) n = refl
    go (shape.Basic b) n = refl
    go (shape.Dimension p) n = absurd (n p refl)
    go (shape.Function ps r) n = refl
    go (shape.Struct x as' fs) n = refl
    go (shape.List t) n = refl

-- ══ The other factors ══

factor-rec : (a : atoms.Atom) (e : Exponent) → recOf (view.Factor a (twos e.num) e.den) (fit 1) ≡ writeFactor (atomOf a ↑ expOf e)
unfolding writeFactor fit
factor-rec (atoms.TheVariants.Free (opens.TheVariants.Var x)) e = refl
factor-rec (atoms.TheVariants.Free (opens.TheVariants.Quant x)) e = refl
factor-rec (atoms.TheVariants.Free (opens.TheVariants.Par x)) e = refl
factor-rec (atoms.TheVariants.Base x) e = refl

pub others-none : (w : Writer) (k : Exp) {p : Product ℕ} → [] ≡ p → FactorsPut w w (Ok tt) (each (otherSide bounded k) p)
unfolding each
others-none w k e = rw (← e) (record { same = refl; says = writes-none w })

module _ (k : Exp) (a : atoms.Atom) (j : Exp) {p q : Product ℕ} (e : atomOf a ↑ j ∷ p ≡ q) where
  pub others-stop : {w : Writer} (why : Refusal) → refused (number_of why) ≡ quotient bounded (neg j) k
      → FactorsPut w w (Err why) (each (otherSide bounded k) q)
  unfolding each otherSide
  others-stop why i = rw (← e, ← i) (record { same = refl; says = refl })

  pub others-more : {w w₁ w₂ : Writer} (x : Exponent) {m : ℕ} {r : Result (Unit {0}) Refusal} → got (expOf x) ≡ quotient bounded (neg j) k → m ≡ twos x.num
      → Writes w w₁ (recOf (view.Factor a m x.den) (fit 1) ∷ [])
      → FactorsPut w₁ w₂ r (each (otherSide bounded k) p) → FactorsPut w w₂ r (each (otherSide bounded k) q)
  unfolding each otherSide
  others-more {w} {w₁} {w₂} x {m} {r} i v b h = rw (← e, ← i) (go (each (otherSide bounded k) p) r h.says)
    where
      one : Writes w w₁ (writeFactor (atomOf a ↑ expOf x) ∷ [])
      one = subst (λ (z : Rec). Writes w w₁ (z ∷ [])) (ap (λ (z : ℕ). recOf (view.Factor a z x.den) (fit 1)) v ∙ factor-rec a x) b

      go : (m : Got (Product ℕ)) (r : Result (Unit {0}) Refusal) → FactorsLeft w₁ w₂ r m → FactorsPut w w₂ r (m >>= λ ys. got (atomOf a ↑ expOf x ∷ ys))
      go (got ys) (Ok u) l = record { same = h.same ∙ b.same; says = writes-then (writeFactor (atomOf a ↑ expOf x) ∷ []) (map writeFactor ys) one l }
      go (got ys) (Err why) l = absurd l
      go (refused n) (Ok u) l = absurd l
      go (refused n) (Err why) l = record { same = h.same ∙ b.same; says = l }

module _ (x : ℕ) (f : Factor ℕ → Got (Factor ℕ)) (p : Product ℕ) where
  pub solved : {w w₁ w₂ w₃ : Writer} {n : ℕ} (u : Unit {0}) → length p ≡ n → n ≤ 65_000 → Writes w w₁ (recOf (view.Binding x) (fit (2 + n)) ∷ [])
      → Writes w₁ w₂ (recOf (view.Dim n) (fit (1 + n)) ∷ []) → FactorsPut w₂ w₃ (Ok u) (each f p)
      → Applied w w₃ (Ok (Bind w₃.at)) (boundTo x (each f p))
  unfolding writeBinding writeTy writeProduct sizeBinding size
  solved {w} {w₁} {w₂} {w₃} {n} u l few a b h = go (each f p) refl h.says
    where
      go : (m : Got (Product ℕ)) → each f p ≡ m → FactorsLeft w₂ w₃ (Ok u) m → Applied w w₃ (Ok (Bind w₃.at)) (boundTo x m)
      go (refused k) q v = absurd v
      go (got ys) q v =
          let y : n ≡ length ys = sym (each-length f p ys q ∙ l) in
          let heads = solved-written x y (omega (arith, y)) a b in
          record {
            same = h.same ∙ b.same ∙ a.same;
            says = (
              refl,
              writes-then
                  (rec (head 24 (suc (suc (length ys)))) x 0 0 ∷ rec (head 3 (suc (length ys))) (length ys) 0 0 ∷ []) (map writeFactor ys) heads v,
            );
          }

-- ══ Equal-scalar by its first factor ══

module _ (names : List Bytes) {q : Product ℕ} where
  pub scalar-none : [] ≡ q → trySatisfy (numbered names) bounded (is_scalar q) ≡ got rules.done
  unfolding trySatisfy
  scalar-none e = rw (← e)

  module _ (a : Atom ℕ) (k : Exp) (p : Product ℕ) (e : a ↑ k ∷ p ≡ q) where
    pub scalar-variable : (x : ℕ) → some x ≡ freeVariable a → trySatisfy (numbered names) bounded (is_scalar q) ≡ boundTo x (each (otherSide bounded k) p)
    unfolding trySatisfy
    scalar-variable x n = rw (← e) (go a n)
      where
        go : (a : Atom ℕ) → some x ≡ freeVariable a → trySatisfy (numbered names) bounded (is_scalar (a ↑ k ∷ p)) ≡ boundTo x (each (otherSide bounded k) p)
        go (free (var y)) n = let i : y ≡ x = cc in ap (λ (z : ℕ). boundTo z (each (otherSide bounded k) p)) i
        go (free (tree.quant i)) n = cc
        go (free (tree.par y)) n = cc
        go (base y) n = cc

    pub scalar-other : none ≡ freeVariable a → trySatisfy (numbered names) bounded (is_scalar q) ≡ got rules.stuck
    unfolding trySatisfy
    scalar-other n = rw (← e) (go a n)
      where
        go : (a : Atom ℕ) → none ≡ freeVariable a → trySatisfy (numbered names) bounded (is_scalar (a ↑ k ∷ p)) ≡ got rules.stuck
        go (free (var y)) n = cc
        go (free (tree.quant i)) n = refl
        go (free (tree.par y)) n = refl
        go (base y) n = refl

-- ══ Has-field ══

module _ (names : List Bytes) (x : ℕ) (t u : Ty ℕ) where
  abbrev asked : Got (rules.Step ℕ)
  asked = got (get_or (fieldStep (numbered names) x t u) rules.stuck)

  pub field-open : closed t ≡ false → asked ≡ got rules.stuck
  unfolding fieldStep
  field-open c = rw c

  pub field-not-struct : (s : Shape) → whole s ≡ t → closed t ≡ true → NotStruct s → asked ≡ got rules.stuck
  unfolding fieldStep
  field-not-struct s e c n = let q : struct_of t ≡ none = ap struct_of (sym e) ∙ go s n in rw (c, q)
    where
      go : (s : Shape) → NotStruct s → struct_of (whole s) ≡ none
      go (shape.Open o) n = refl
      go (shape.Basic b) n = refl
      go (shape.Dimension p) n = refl
      go (shape.Function ps r) n = refl
      go (shape.Struct y as' fs) n = absurd (n y as' fs refl)
      go (shape.List t) n = refl

  module _ {y : ℕ} {as' : Tys ℕ} {fs : Fields ℕ} (c : closed t ≡ true) (e : struct y as' fs ≡ t) where
    field-is : asked ≡ got (get_or (and_then (fieldIn (numbered names) x fs) (λ v. some (rules.split (equal v u ∷ [])))) rules.stuck)
    unfolding fieldStep
    field-is =
        let q : only_if (closed t) t ≡ some (struct y as' fs) = ap (λ (b : Bool). only_if b t) c ∙ ap some (sym e) in
        rw q

    pub field-found : {v : Ty ℕ} → some v ≡ fieldIn (numbered names) x fs → asked ≡ got (rules.split (equal v u ∷ []))
    field-found q = field-is ∙ rw (← q)

    pub field-missing : none ≡ fieldIn (numbered names) x fs → asked ≡ got rules.stuck
    field-missing q = field-is ∙ rw (← q)
