-- Replacing in a constraint and in a binding, arm by arm.
use Rattle.std.specs.Prelude.{◌≡◌, List, ◌∷◌, ◌++◌, ℕ, suc, ◌+◌, Ok, Err, refl}
use Rattle.std.proofs.Common.{arith, ap, sym, subst, ◌∙◌, length-append}
use Rattle.rules.specs.Base.{Got, got, ◌>>=◌, bounded}
use Rattle.rules.specs.Names.{table_of, is_held}
use Rattle.rules.specs.declared.Refusal.{Refusal}
use Rattle.rules.specs.Replacing.{Look, replaceProduct, replaceTy, replaceCon, replaceBinding}
use Rattle.rules.specs.Trees.{Product, Ty, Con, equal, isDim, is_scalar, hasField, Binding, ◌≔◌, size, sizeCon, sizeBinding}
use Rattle.rules.specs.Trees as tree
use Rattle.rules.specs.WellFormed.{goodTy, goodCon}
use Rattle.rules.specs.Writing.{Rec, writeProduct, writeTy, writeCon, writeBinding}
use Rattle.laws.proofs.Size.{size-ty}
use Rattle.records.specs.Cut.{cut}
use Rattle.records.specs.Views.{recOf}
use Rattle.records.specs.declared.View.{View}
use Rattle.records.specs.declared.View.TheVariants as view
use Rattle.types.specs.declared.writer.Writer.{Writer}
use Rattle.types.specs.Written.{Writes, Reserves, Begins}
use Rattle.replace.specs.Well as well
use Rattle.replace.specs.Well.{GoodProduct, GoodTy, GoodCon}
use Rattle.replace.specs.Leaves.{Leaves}
use Rattle.replace.proofs.Walks.{both, on, leaves, halts, headed, after, under}

-- ══ The parts of a well formed constraint ══

module _ (pool table : List ℕ) where
  pub equal-good : (l r : Ty ℕ) {c : Con ℕ} → equal l r ≡ c → GoodCon pool table c → GoodTy pool table l × GoodTy pool table r
  unfolding goodCon
  equal-good l r e h = both pool table (goodTy _ _ _ l) (goodTy _ _ _ r) (subst (GoodCon pool table) (sym e) h)

  pub has-good : (x : ℕ) (l r : Ty ℕ) {c : Con ℕ} → hasField x l r ≡ c → GoodCon pool table c → GoodTy pool table l × GoodTy pool table r
  unfolding goodCon
  has-good x l r e h =
      let a = both pool table _ (goodTy _ _ _ r) (subst (GoodCon pool table) (sym e) h) in
      ((both pool table (is_held (table_of pool table) x) (goodTy _ _ _ l) a.0).1, a.1)

  pub is-good : (t : Ty ℕ) {c : Con ℕ} → isDim t ≡ c → GoodCon pool table c → GoodTy pool table t
  unfolding goodCon
  is-good t e h = subst (GoodCon pool table) (sym e) h

  pub scalar-good : (p : Product ℕ) {c : Con ℕ} → is_scalar p ≡ c → GoodCon pool table c → GoodProduct pool table p
  unfolding goodCon
  scalar-good p e h = subst (GoodCon pool table) (sym e) h

module _ (pool table : List ℕ) (look : Look ℕ) where
  abbrev Ty' : Ty ℕ → Got (Ty ℕ)
  Ty' t = replaceTy (well.names pool table) bounded look t

  abbrev Con' : Con ℕ → Got (Con ℕ)
  Con' c = replaceCon (well.names pool table) bounded look c

  module _ {w w₁ : Writer} {start : ℕ} where
    -- two types behind a record
    two-here : {w₂ w₃ w₄ : Writer} (l r : Ty ℕ) (f : Ty ℕ → Ty ℕ → Con ℕ) (v : View)
        → ((x y : Ty ℕ) → writeCon (f x y) ≡ recOf v (suc (size x + size y)) ∷ (writeTy x ++ writeTy y)) → Reserves w w₁ start
        → Leaves writeTy w₁ w₂ (Ok tt) (Ty' l)
        → Leaves writeTy w₂ w₃ (Ok tt) (Ty' r) → Begins w₃ w₄ start v → Leaves writeCon w w₄ (Ok tt) (Ty' l >>= λ x. Ty' r >>= λ y. got (f x y))
    two-here {w₄ = w₄} l r f v h s p q b =
        on p (λ x i k. on q (λ y j l.
        leaves (f x y) (rw (i, j))
        (subst (λ (rs : List Rec). Writes w w₄ (cut rs)) (sym (h x y))
        (headed v (writeTy x ++ writeTy y) (omega (arith, length-append (writeTy x) (writeTy y), size-ty x, size-ty y)) s
        (after (writeTy x) (writeTy y) k l) b))))

    two-stop : {w₂ w₃ : Writer} (l r : Ty ℕ) {k : Refusal} (f : Ty ℕ → Ty ℕ → Con ℕ) → Reserves w w₁ start → Leaves writeTy w₁ w₂ (Ok tt) (Ty' l)
        → Leaves writeTy w₂ w₃ (Err k) (Ty' r) → Leaves writeCon w w₃ (Err k) (Ty' l >>= λ x. Ty' r >>= λ y. got (f x y))
    two-stop l r f s p q = on p (λ x i k. rw i (halts (λ y. got (f x y)) (p.same ∙ s.same) q))

    pub equal-here : {w₂ w₃ w₄ : Writer} {l r : Ty ℕ} {c : Con ℕ} → equal l r ≡ c → Reserves w w₁ start → Leaves writeTy w₁ w₂ (Ok tt) (Ty' l)
        → Leaves writeTy w₂ w₃ (Ok tt) (Ty' r) → Begins w₃ w₄ start view.Equal → Leaves writeCon w w₄ (Ok tt) (Con' c)
    unfolding replaceCon writeCon sizeCon
    equal-here {w₄ = w₄} e s p q b = subst (λ (c : Con ℕ). Leaves writeCon w w₄ (Ok tt) (Con' c)) e (two-here _ _ equal view.Equal (λ x y. refl) s p q b)

    pub left-stop : {w₂ : Writer} {l r : Ty ℕ} {c : Con ℕ} {k : Refusal} → equal l r ≡ c → Reserves w w₁ start → Leaves writeTy w₁ w₂ (Err k) (Ty' l)
        → Leaves writeCon w w₂ (Err k) (Con' c)
    unfolding replaceCon
    left-stop {w₂} {k = k} e s p = subst (λ (c : Con ℕ). Leaves writeCon w w₂ (Err k) (Con' c)) e (halts _ s.same p)

    pub right-stop : {w₂ w₃ : Writer} {l r : Ty ℕ} {c : Con ℕ} {k : Refusal} → equal l r ≡ c → Reserves w w₁ start → Leaves writeTy w₁ w₂ (Ok tt) (Ty' l)
        → Leaves writeTy w₂ w₃ (Err k) (Ty' r) → Leaves writeCon w w₃ (Err k) (Con' c)
    unfolding replaceCon
    right-stop {w₃ = w₃} {k = k} e s p q = subst (λ (c : Con ℕ). Leaves writeCon w w₃ (Err k) (Con' c)) e (two-stop _ _ equal s p q)

    pub has-here : {w₂ w₃ w₄ : Writer} {x : ℕ} {l r : Ty ℕ} {c : Con ℕ} → hasField x l r ≡ c → Reserves w w₁ start → Leaves writeTy w₁ w₂ (Ok tt) (Ty' l)
        → Leaves writeTy w₂ w₃ (Ok tt) (Ty' r) → Begins w₃ w₄ start (view.HasField x) → Leaves writeCon w w₄ (Ok tt) (Con' c)
    unfolding replaceCon writeCon sizeCon
    has-here {w₄ = w₄} {x} e s p q b = subst (λ (c : Con ℕ). Leaves writeCon w w₄ (Ok tt) (Con' c)) e
        (two-here _ _ (hasField x) (view.HasField x) (λ x y. refl) s p q b)

    pub of-stop : {w₂ : Writer} {x : ℕ} {l r : Ty ℕ} {c : Con ℕ} {k : Refusal} → hasField x l r ≡ c → Reserves w w₁ start → Leaves writeTy w₁ w₂ (Err k) (Ty' l)
        → Leaves writeCon w w₂ (Err k) (Con' c)
    unfolding replaceCon
    of-stop {w₂} {k = k} e s p = subst (λ (c : Con ℕ). Leaves writeCon w w₂ (Err k) (Con' c)) e (halts _ s.same p)

    pub asked-stop : {w₂ w₃ : Writer} {x : ℕ} {l r : Ty ℕ} {c : Con ℕ} {k : Refusal} → hasField x l r ≡ c → Reserves w w₁ start
        → Leaves writeTy w₁ w₂ (Ok tt) (Ty' l)
        → Leaves writeTy w₂ w₃ (Err k) (Ty' r) → Leaves writeCon w w₃ (Err k) (Con' c)
    unfolding replaceCon
    asked-stop {w₃ = w₃} {x} {k = k} e s p q = subst (λ (c : Con ℕ). Leaves writeCon w w₃ (Err k) (Con' c)) e (two-stop _ _ (hasField x) s p q)

    pub is-here : {w₂ w₃ : Writer} {t : Ty ℕ} {c : Con ℕ} → isDim t ≡ c → Reserves w w₁ start → Leaves writeTy w₁ w₂ (Ok tt) (Ty' t)
        → Begins w₂ w₃ start view.IsDim
        → Leaves writeCon w w₃ (Ok tt) (Con' c)
    unfolding replaceCon writeCon sizeCon
    is-here {w₃ = w₃} e s p b =
        subst (λ (c : Con ℕ). Leaves writeCon w w₃ (Ok tt) (Con' c)) e
        (under isDim view.IsDim (λ t. ap (λ (n : ℕ). recOf view.IsDim (suc n) ∷ writeTy t) (sym (size-ty t))) s p b)

    pub is-stop : {w₂ : Writer} {t : Ty ℕ} {c : Con ℕ} {k : Refusal} → isDim t ≡ c → Reserves w w₁ start → Leaves writeTy w₁ w₂ (Err k) (Ty' t)
        → Leaves writeCon w w₂ (Err k) (Con' c)
    unfolding replaceCon
    is-stop {w₂} {k = k} e s p = subst (λ (c : Con ℕ). Leaves writeCon w w₂ (Err k) (Con' c)) e (halts _ s.same p)

    pub scalar-here : {w₂ w₃ : Writer} {p : Product ℕ} {c : Con ℕ} → is_scalar p ≡ c → Reserves w w₁ start
        → Leaves writeProduct w₁ w₂ (Ok tt) (replaceProduct (well.names pool table) bounded look p) → Begins w₂ w₃ start view.IsScalar
        → Leaves writeCon w w₃ (Ok tt) (Con' c)
    unfolding replaceCon writeCon sizeCon size writeTy
    scalar-here {w₃ = w₃} e s p b =
        subst (λ (c : Con ℕ). Leaves writeCon w w₃ (Ok tt) (Con' c)) e
        (under is_scalar view.IsScalar (λ p. ap (λ (n : ℕ). recOf view.IsScalar (suc n) ∷ writeProduct p) (sym (size-ty (tree.dim p)))) s p b)

    pub scalar-stop : {w₂ : Writer} {p : Product ℕ} {c : Con ℕ} {k : Refusal} → is_scalar p ≡ c → Reserves w w₁ start
        → Leaves writeProduct w₁ w₂ (Err k) (replaceProduct (well.names pool table) bounded look p) → Leaves writeCon w w₂ (Err k) (Con' c)
    unfolding replaceCon
    scalar-stop {w₂} {k = k} e s p = subst (λ (c : Con ℕ). Leaves writeCon w w₂ (Err k) (Con' c)) e (halts _ s.same p)

    pub binding-here : {w₂ w₃ : Writer} (x : ℕ) (t : Ty ℕ) → Reserves w w₁ start → Leaves writeTy w₁ w₂ (Ok tt) (Ty' t) → Begins w₂ w₃ start (view.Binding x)
        → Leaves writeBinding w w₃ (Ok tt) (replaceBinding (well.names pool table) bounded look (x ≔ t))
    unfolding replaceBinding writeBinding sizeBinding
    binding-here x t s p b = under (x ≔◌) (view.Binding x) (λ t. ap (λ (n : ℕ). recOf (view.Binding x) (suc n) ∷ writeTy t) (sym (size-ty t))) s p b

    pub binding-stop : {w₂ : Writer} (x : ℕ) (t : Ty ℕ) {k : Refusal} → Reserves w w₁ start → Leaves writeTy w₁ w₂ (Err k) (Ty' t)
        → Leaves writeBinding w w₂ (Err k) (replaceBinding (well.names pool table) bounded look (x ≔ t))
    unfolding replaceBinding
    binding-stop x t s p = halts _ s.same p
