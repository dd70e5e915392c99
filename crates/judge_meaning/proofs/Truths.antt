-- Is a constraint true: fields by name, bounds as marks, and what each test tells.
use Rattle.std.specs.Prelude.{◌≡◌, refl, Bool, true, false, Decides, not, ◌&&◌, ◌||◌, List, [], ◌∷◌, ℕ, ◌<◌, eqb, length}
use Rattle.std.proofs.Common.{sym, ap, subst, ◌∙◌, arith, eqb-true, eq-eqb, ne_eqb}
use Rattle.std.proofs.Math.Option.{Option, none, some}
use Rattle.rules.specs.Base.{any, all, and', and_then, is_none, isNil}
use Rattle.rules.specs.Contents.{among, namesIn, fieldIn}
use Rattle.rules.specs.Meaning.{means, amongBounds, holds}
use Rattle.rules.specs.Names.{Bytes, numbered}
use Rattle.rules.specs.Trees.{Open, Product, Ty, opened, dim, struct, Tys, Fields, Con, equal, isDim, is_scalar, hasField, opens, opensCon}
use Rattle.rules.specs.Views.{openOf, productOf, struct_of}
use Rattle.laws.proofs.Contents.{same-eqb}
use Rattle.laws.specs.Lists.{all-is}
use Rattle.laws.proofs.Lists.{is_all, any-is, is_any, true≢false}
use Rattle.queries.specs.declared.name_set.NameSet.{NameSet}
use Rattle.queries.specs.Marks.{Has, Small, Within}
use Rattle.laws.proofs.SortedNames.{in-every}
use Rattle.queries.proofs.MarkLaws.{any-in, chosen-below}
use Rattle.queries.specs.declared.Kind.TheVariants.{Both}
use Rattle.types.specs.Shapes.{whole, Begins}
use Rattle.types.specs.declared.Fields as fields
use Rattle.types.specs.declared.Product as types
use Rattle.types.specs.declared.Head.{Head}
use Rattle.types.specs.declared.Head.TheVariants as head
use Rattle.types.specs.declared.Shape.{Shape}
use Rattle.types.specs.declared.Shape.TheVariants as shape
use Rattle.types.specs.declared.Types as lists
use Rattle.records.specs.declared.Open as code
use Rattle.judge_meaning.specs.Truth.{Bounded, True}

-- ══ Bounds ══

-- a test of one fact answers another that goes with it
answers : {P : Type 0} (r b : Bool) → Decides r P → (P → b ≡ true) → (b ≡ true → P) → r ≡ b
answers true b d f g = sym (f (d.0 refl))
answers false true d f g = absurd (true≢false (sym (d.1 (g refl))))
answers false false d f g = refl

-- the names of a type are among the bounds when their marks are
pub within-bounds : (v b : NameSet) (os : List (Open ℕ)) (t : Ty ℕ) (xs : List ℕ) (names : List Bytes) (r : Bool) → os ≡ opens t
    → Has v (namesIn os) → Has b xs → Small (opens t) → Decides r (Within v.marks b.marks 256) → r ≡ amongBounds (numbered names) xs t
unfolding amongBounds
within-bounds v b os t xs names r o mo mb small d =
    let mv = subst (λ (os : List (Open ℕ)). Has v (namesIn os)) o mo in
    answers r (all p ns) d (λ w. is_all p ns (λ x m.
    let k : any (eqb x) ns ≡ true = is_any (eqb x) ns x m (eq-eqb x x refl) in
    let l : x < 256 = in-every (λ (x : ℕ). x < 256) ns (chosen-below 256 Both (opens t) small) x (any-in x ns k) in
    same-eqb names x xs ∙ sym (mb.each x l) ∙ w x l (mv.each x l ∙ k))) λ e x l k.
    let s = any-is (eqb x) ns (sym (mv.each x l) ∙ k) in
    let q : x ≡ s.one = eqb-true x s.one s.fits in
    mb.each x l ∙ sym (same-eqb names x xs) ∙ ap p q ∙ all-is p ns e s.one s.within
  where
    ns : List ℕ
    ns = namesIn (opens t)

    p : ℕ → Bool
    p x = among (numbered names) x xs

-- ══ Is-dimension ══

abbrev dimensional : Ty ℕ → Bool
dimensional t = not (is_none (productOf t)) || not (is_none (openOf t))

module _ (t : Ty ℕ) (m : NameSet) where
  module _ {r : Bool} (a : Bounded t m (λ names xs. r ≡ amongBounds (numbered names) xs t)) where
    pub open-among : {o : Open ℕ} → opened o ≡ t → True (isDim t) m r
    unfolding holds opensCon
    open-among e names xs s k = a names xs s k ∙ ap (λ d. d && amongBounds (numbered names) xs t) (ap dimensional e)

    pub dimension-among : {p : Product ℕ} → dim p ≡ t → True (isDim t) m r
    unfolding holds opensCon
    dimension-among e names xs s k = a names xs s k ∙ ap (λ d. d && amongBounds (numbered names) xs t) (ap dimensional e)

  pub no-dimension : (h : Head) → ((o : code.Open) → h ≡ head.Open o → ⊥) → ((p : types.Product) → h ≡ head.Dimension p → ⊥) → Begins h t
      → True (isDim t) m false
  unfolding holds
  no-dimension h n d e names xs small k = ap (λ d. d && amongBounds (numbered names) xs t) (go h n d e)
    where
      go : (h : Head) → ((o : code.Open) → h ≡ head.Open o → ⊥) → ((p : types.Product) → h ≡ head.Dimension p → ⊥) → Begins h t → false ≡ dimensional t
      go (head.Open o) n d e = absurd (n o refl)
      go (head.Basic b) n d e = ap dimensional e
      go (head.Dimension p) n d e = absurd (d p refl)
      go (head.Function ts) n d e = ap dimensional e.3
      go (head.Struct x ts) n d e = ap dimensional e.1
      go (head.List u) n d e = ap dimensional e

-- ══ Has-field ══

module _ (names : List Bytes) (xs : List ℕ) (x : ℕ) (t u : Ty ℕ) where
  abbrev Asked : Bool → Type 0
  Asked r = r ≡ holds (numbered names) xs (hasField x t u)

  abbrev answer : Option (Ty ℕ) → Bool
  answer o = and' o (λ v. means (numbered names) v u)

  abbrev sought : Ty ℕ → Option (Ty ℕ)
  sought w = and_then (struct_of w) (λ v. fieldIn (numbered names) x v.2)

  pub no-struct : (s : Shape) → ((y : ℕ) (ts : lists.Types) (fs : fields.Fields) → s ≡ shape.Struct y ts fs → ⊥) → whole s ≡ t → Asked false
  unfolding holds
  no-struct (shape.Open o) n e = ap (λ w. answer (sought w)) e
  no-struct (shape.Basic b) n e = ap (λ w. answer (sought w)) e
  no-struct (shape.Dimension p) n e = ap (λ w. answer (sought w)) e
  no-struct (shape.Function ps v) n e = ap (λ w. answer (sought w)) e
  no-struct (shape.Struct y ts fs) n e = absurd (n y ts fs refl)
  no-struct (shape.List v) n e = ap (λ w. answer (sought w)) e

  module _ {y : ℕ} {ts : Tys ℕ} {fs : Fields ℕ} (e : struct y ts fs ≡ t) where
    pub field-met : {f : Ty ℕ} {r : Bool} → some f ≡ fieldIn (numbered names) x fs → r ≡ means (numbered names) f u → Asked r
    unfolding holds
    field-met i m = m ∙ ap answer i ∙ ap (λ w. answer (sought w)) e

    pub no-field : none ≡ fieldIn (numbered names) x fs → Asked false
    unfolding holds
    no-field i = ap answer i ∙ ap (λ w. answer (sought w)) e

-- ══ Equal and equal-scalar ══

no-factor : (p : Product ℕ) {n : ℕ} → length p ≡ n → eqb n 0 ≡ isNil p
no-factor [] e = rw (← e)
no-factor (f ∷ p) {n} e = ne_eqb n 0 (omega (arith, e))

module _ (names : List Bytes) (xs : List ℕ) {c : Con ℕ} where
  pub equal-told : {l r : Ty ℕ} {b : Bool} → equal l r ≡ c → b ≡ means (numbered names) l r → b ≡ holds (numbered names) xs c
  unfolding holds
  equal-told e m = m ∙ ap (holds (numbered names) xs) e

  pub scalar-told : {p : Product ℕ} {n : ℕ} → is_scalar p ≡ c → length p ≡ n → eqb n 0 ≡ holds (numbered names) xs c
  unfolding holds
  scalar-told {p} e l = no-factor p l ∙ ap (holds (numbered names) xs) e
