-- When two types mean the same, by what both are read as.
use Rattle.std.specs.Prelude.{◌≡◌, ◌≤◌, refl, Bool, true, false, Decides, ℕ}
use Rattle.std.proofs.Common.{ap, ap₂, sym, ◌∙◌, arith}
use Rattle.rules.specs.Base.{is_yes}
use Rattle.rules.specs.Meaning.{means}
use Rattle.rules.specs.Plain.{plain}
use Rattle.rules.specs.Trees as tree
use Rattle.rules.specs.Trees.{Product, Names, Ty, opened, basic, dim, fn, struct, list, Tys, nil, cons, noFields, count, ty-dec}
use Rattle.laws.proofs.Lists.{true≢false, yes-is, is-no, is-yes}
use Rattle.records.proofs.Walks.{open-there, basic-there}
use Rattle.records.specs.Holds.{openOf, viewOpen, basicOf, viewBasic}
use Rattle.records.specs.declared.Open as names
use Rattle.records.specs.declared.Basic as basics
use Rattle.types.specs.Shapes.{row}
use Rattle.types.specs.declared.Head.{Head}
use Rattle.types.specs.declared.Head.TheVariants as head
use Rattle.types.specs.declared.Product as types
use Rattle.types.specs.declared.Type as one
use Rattle.types.specs.declared.Types as lists
use Rattle.judge_meaning.specs.Read.{ReadAs}
use Rattle.judge_meaning.proofs.Reading.{dim-back}

-- ══ Answers of tests ══

pub never : {P : Type 0} → (P → ⊥) → Decides false P
never f = (λ i. absurd (true≢false (sym i)), λ p. absurd (f p))

pub always : {P : Type 0} → P → Decides true P
always p = (λ i. p, λ q. refl)

-- of two tests, where the first says yes, and where it says no
pub second : {P Q : Type 0} {r : Bool} → P → Decides r Q → Decides r (P × Q)
second p d = (λ i. (p, d.0 i), λ q. d.1 q.1)

pub first : {P Q : Type 0} {r : Bool} → r ≡ false → (P → ⊥) → Decides r (P × Q)
first e f = (λ i. absurd (true≢false (sym i ∙ e)), λ p. absurd (f p.0))

pub decides-as : {P Q : Type 0} {r : Bool} → (P → Q) → (Q → P) → Decides r P → Decides r Q
decides-as f g d = (λ i. f (d.0 i), λ q. d.1 (g q))

module _ {r : Bool} (ν : Names ℕ) (x y : Ty ℕ) where
  pub told : Decides r (plain x false ≡ plain y false) → r ≡ means ν x y
  unfolding means
  told d = go r d
    where
      go : (r : Bool) → Decides r (plain x false ≡ plain y false) → r ≡ means ν x y
      go true d = sym (is-yes (ty-dec ν (plain x false) (plain y false)) (d.0 refl))
      go false d = sym (is-no (ty-dec ν (plain x false) (plain y false)) (λ e. true≢false (sym (d.1 e))))

  pub tells : r ≡ means ν x y → Decides r (plain x false ≡ plain y false)
  unfolding means
  tells h = (λ i. yes-is (ty-dec ν (plain x false) (plain y false)) (sym h ∙ i), λ e. h ∙ is-yes (ty-dec ν (plain x false) (plain y false)) e)

  module _ {a b : Ty ℕ} (p : a ≡ plain x false) (q : b ≡ plain y false) where
    pub by-read : Decides r (a ≡ b) → r ≡ means ν x y
    by-read d = told (decides-as (λ e. sym p ∙ e ∙ q) (λ e. p ∙ e ∙ sym q) d)

-- ══ Two of a kind ══

abbrev basicTy : basics.Basic → Ty ℕ
basicTy b = basic (basicOf b)

some-in-row : (ps : Tys ℕ) (t : Ty ℕ) → 1 ≤ count (row ps t)
unfolding count
some-in-row nil t = omega arith
some-in-row (cons p ps) t = omega arith

no-row : (ps : Tys ℕ) (t : Ty ℕ) → nil ≡ row ps t → ⊥
unfolding count
no-row ps t e = omega (arith, ap (λ (z : Tys ℕ). count z) e, some-in-row ps t)

row-back : (ps qs : Tys ℕ) (t u : Ty ℕ) → row ps t ≡ row qs u → (ps ≡ qs) × (t ≡ u)
row-back nil nil t u e = (refl, cc)
row-back nil (cons q qs) t u e = absurd (no-row qs u cc)
row-back (cons p ps) nil t u e = absurd (no-row ps t (let z : row ps t ≡ nil = cc in sym z))
row-back (cons p ps) (cons q qs) t u e =
    let a : p ≡ q = cc in
    let z : (ps ≡ qs) × (t ≡ u) = row-back ps qs t u cc in
    (ap₂ cons a z.0, z.1)

module _ {r : Bool} where
  pub opens-same : (o p : names.Open) → Decides r (o ≡ p) → Decides r (opened (openOf o) ≡ opened (openOf p))
  opens-same o p d = decides-as (λ e. ap (λ z. opened (openOf z)) e) back d
    where
      back : opened (openOf o) ≡ opened (openOf p) → o ≡ p
      back e = let z : openOf o ≡ openOf p = cc in sym (open-there o) ∙ ap viewOpen z ∙ open-there p

  pub basics-same : (a b : basics.Basic) → Decides r (a ≡ b) → Decides r (basicTy a ≡ basicTy b)
  basics-same a b d = decides-as (ap basicTy) back d
    where
      back : basicTy a ≡ basicTy b → a ≡ b
      back e = let z : basicOf a ≡ basicOf b = cc in sym (basic-there a) ∙ ap viewBasic z ∙ basic-there b

  pub lists-same : {t u : Ty ℕ} → Decides r (t ≡ u) → Decides r (list t ≡ list u)
  lists-same d = decides-as (ap list) (λ e. cc) d

  -- two functions are the same where their rows are
  pub functions-same : (ps qs : Tys ℕ) (t u : Ty ℕ) {ts us : Tys ℕ} → row ps t ≡ ts → row qs u ≡ us → Decides r (ts ≡ us) → Decides r (fn ps t ≡ fn qs u)
  functions-same ps qs t u p q d = decides-as
      (λ e. let z : (ps ≡ qs) × (t ≡ u) = row-back ps qs t u (p ∙ e ∙ sym q) in ap₂ fn z.0 z.1)
      (λ e. let a : ps ≡ qs = cc in let b : t ≡ u = cc in sym p ∙ ap₂ row a b ∙ q)
      d

  pub structs-same : {x y : ℕ} {ts us : Tys ℕ} → Decides r ((x ≡ y) × (ts ≡ us)) → Decides r (struct x ts noFields ≡ struct y us noFields)
  structs-same d = decides-as (λ e. ap₂ (λ n l. struct n l noFields) e.0 e.1) (λ e. (cc, cc)) d

  -- dimensions that are no variables are compared as they are
  pub dims-same : {p q : Product ℕ} (ν : Names ℕ) (x y : Ty ℕ) → dim p ≡ plain x false → dim q ≡ plain y false → r ≡ is_yes (ty-dec ν x y)
      → Decides r (dim p ≡ dim q)
  dims-same ν x y i j h =
      let e = dim-back x i in
      let f = dim-back y j in
      (λ k. e ∙ yes-is (ty-dec ν x y) (sym h ∙ k) ∙ sym f, λ k. h ∙ is-yes (ty-dec ν x y) (sym e ∙ k ∙ f))

-- ══ Two of different kinds ══

abbrev kindOf : Ty ℕ → ℕ
kindOf (opened o) = 0
kindOf (basic b) = 1
kindOf (dim p) = 2
kindOf (fn ps r) = 3
kindOf (struct x ts fs) = 4
kindOf (list t) = 5

abbrev kind_read : Head → ℕ
kind_read (head.Open o) = 0
kind_read (head.Basic b) = 1
kind_read (head.Dimension p) = 2
kind_read (head.Function ts) = 3
kind_read (head.Struct x ts) = 4
kind_read (head.List t) = 5

kinds : (h : Head) (t : Ty ℕ) → ReadAs h t → kind_read h ≡ kindOf t
kinds (head.Open o) t e = ap kindOf e
kinds (head.Basic b) t e = ap kindOf e
kinds (head.Dimension p) t e = ap kindOf e
kinds (head.Function ts) t e = ap kindOf e.3
kinds (head.Struct x ts) t e = ap kindOf e
kinds (head.List u) t e = ap kindOf e

-- a type that reads as one kind, beside one that reads as another
module _ (ν : Names ℕ) (x y : Ty ℕ) (h : Head) (q : ReadAs h (plain y false)) where
  differ : {a : Ty ℕ} → a ≡ plain x false → (kindOf a ≡ kind_read h → ⊥) → false ≡ means ν x y
  differ p f = by-read ν x y p refl (never (λ e. f (ap kindOf e ∙ sym (kinds h (plain y false) q))))

  pub no-open : {o : tree.Open ℕ} → opened o ≡ plain x false → ((o : names.Open) → h ≡ head.Open o → ⊥) → false ≡ means ν x y
  no-open p n = differ p (go h n)
    where
      go : (h : Head) → ((o : names.Open) → h ≡ head.Open o → ⊥) → 0 ≡ kind_read h → ⊥
      go (head.Open o) n e = n o refl
      go (head.Basic b) n e = omega (arith, e)
      go (head.Dimension p) n e = omega (arith, e)
      go (head.Function ts) n e = omega (arith, e)
      go (head.Struct m ts) n e = omega (arith, e)
      go (head.List t) n e = omega (arith, e)

  pub no-basic : {b : tree.Basic} → basic b ≡ plain x false → ((b : basics.Basic) → h ≡ head.Basic b → ⊥) → false ≡ means ν x y
  no-basic p n = differ p (go h n)
    where
      go : (h : Head) → ((b : basics.Basic) → h ≡ head.Basic b → ⊥) → 1 ≡ kind_read h → ⊥
      go (head.Open o) n e = omega (arith, e)
      go (head.Basic b) n e = n b refl
      go (head.Dimension p) n e = omega (arith, e)
      go (head.Function ts) n e = omega (arith, e)
      go (head.Struct m ts) n e = omega (arith, e)
      go (head.List t) n e = omega (arith, e)

  pub no-dimension : {p : Product ℕ} → dim p ≡ plain x false → ((p : types.Product) → h ≡ head.Dimension p → ⊥) → false ≡ means ν x y
  no-dimension p n = differ p (go h n)
    where
      go : (h : Head) → ((p : types.Product) → h ≡ head.Dimension p → ⊥) → 2 ≡ kind_read h → ⊥
      go (head.Open o) n e = omega (arith, e)
      go (head.Basic b) n e = omega (arith, e)
      go (head.Dimension p) n e = n p refl
      go (head.Function ts) n e = omega (arith, e)
      go (head.Struct m ts) n e = omega (arith, e)
      go (head.List t) n e = omega (arith, e)

  pub no-function : {ts : Tys ℕ} {t : Ty ℕ} → fn ts t ≡ plain x false → ((ts : lists.Types) → h ≡ head.Function ts → ⊥) → false ≡ means ν x y
  no-function p n = differ p (go h n)
    where
      go : (h : Head) → ((ts : lists.Types) → h ≡ head.Function ts → ⊥) → 3 ≡ kind_read h → ⊥
      go (head.Open o) n e = omega (arith, e)
      go (head.Basic b) n e = omega (arith, e)
      go (head.Dimension p) n e = omega (arith, e)
      go (head.Function ts) n e = n ts refl
      go (head.Struct m ts) n e = omega (arith, e)
      go (head.List t) n e = omega (arith, e)

  pub no-struct : {n : ℕ} {ts : Tys ℕ} → struct n ts noFields ≡ plain x false
      → ((n : ℕ) (ts : lists.Types) → h ≡ head.Struct n ts → ⊥) → false ≡ means ν x y
  no-struct p n = differ p (go h n)
    where
      go : (h : Head) → ((n : ℕ) (ts : lists.Types) → h ≡ head.Struct n ts → ⊥) → 4 ≡ kind_read h → ⊥
      go (head.Open o) n e = omega (arith, e)
      go (head.Basic b) n e = omega (arith, e)
      go (head.Dimension p) n e = omega (arith, e)
      go (head.Function ts) n e = omega (arith, e)
      go (head.Struct m ts) n e = n m ts refl
      go (head.List t) n e = omega (arith, e)

  pub no-list : {t : Ty ℕ} → list t ≡ plain x false → ((t : one.Type) → h ≡ head.List t → ⊥) → false ≡ means ν x y
  no-list p n = differ p (go h n)
    where
      go : (h : Head) → ((t : one.Type) → h ≡ head.List t → ⊥) → 5 ≡ kind_read h → ⊥
      go (head.Open o) n e = omega (arith, e)
      go (head.Basic b) n e = omega (arith, e)
      go (head.Dimension p) n e = omega (arith, e)
      go (head.Function ts) n e = omega (arith, e)
      go (head.Struct m ts) n e = omega (arith, e)
      go (head.List t) n e = n t refl
