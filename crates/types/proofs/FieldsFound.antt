-- A field that is looked for among some, one by one.
use Rattle.std.specs.Prelude.{◌≡◌, true, false, List, ℕ, ◌<◌, eqb}
use Rattle.std.proofs.Common.{arith, ap, sym, ◌∙◌, eq-eqb}
use Rattle.std.proofs.Math.Option.{none, some}
use borrow.Author.Tests.{ne_eqb}
use Rattle.rules.specs.Base.{is_yes}
use Rattle.rules.specs.Contents.{fieldIn}
use Rattle.rules.specs.Names.{Bytes, numbered}
use Rattle.rules.specs.Trees.{Ty, Fields, noFields, field, countFields}

pub named-same : (x y : ℕ) (d : Dec (x ≡ y)) → is_yes d ≡ eqb x y
named-same x y (yes p) = sym (eq-eqb x y p)
named-same x y (no n) = sym (ne_eqb x y n)

pub fewer : (x : ℕ) (t : Ty ℕ) (fs gs : Fields ℕ) (n m : ℕ) → field x t fs ≡ gs → countFields fs ≡ n → countFields gs ≡ m → n < m
unfolding countFields
fewer x t fs gs n m e p q = omega (arith, p, q, ap countFields e)

module _ (names : List Bytes) (x : ℕ) {y : ℕ} {t : Ty ℕ} {fs gs : Fields ℕ} where
  pub field-here : field y t fs ≡ gs → y ≡ x → some t ≡ fieldIn (numbered names) x gs
  unfolding fieldIn
  field-here e q = let h : is_yes ((numbered names).same x y) ≡ true = named-same x y ((numbered names).same x y) ∙ eq-eqb x y (sym q) in rw (← e, h, fieldIn)

  pub field-later : field y t fs ≡ gs → (y ≡ x → ⊥) → fieldIn (numbered names) x fs ≡ fieldIn (numbered names) x gs
  unfolding fieldIn
  field-later e q = let h : is_yes ((numbered names).same x y) ≡ false = named-same x y ((numbered names).same x y) ∙ ne_eqb x y (λ i. q (sym i)) in
      rw (← e, h, fieldIn)

pub field-nowhere : (names : List Bytes) (x : ℕ) {gs : Fields ℕ} → noFields ≡ gs → none ≡ fieldIn (numbered names) x gs
unfolding fieldIn
field-nowhere names x e = rw (← e)
