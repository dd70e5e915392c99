-- What the tests of two names and of one say.
use Rattle.std.specs.Prelude.{◌≡◌, Result, Ok, Err, IfOk, Bool, true, false, IsTrue, ◌↔◌, chars, IsUtf8}
use Rattle.std.specs.List.{list_any}
use Rattle.std.specs.Str.{is_utf8}
use Rattle.std.specs.declared.alloc.AllocError.{AllocError}
use Rattle.std.proofs.Common.{sym, rules, refl}
use Rattle.std.proofs.lemmas.Str.{IsUtf8-from_is_utf8, is_utf8-from_IsUtf8}
use Rattle.caseless.specs.Caseless.{IsCompatibilityMatch}
use Rattle.rules.specs.Names.{Bytes}
use Rattle.laws.proofs.NameTable.{same-no, same-yes}
use Rattle.edition_look_alikes.specs.Alike.{alike, isUnseen, hasUnseen}

no-text : (a : Bytes) → (IsUtf8 a → ⊥) → is_utf8 a ≡ false
no-text a h = elim (is_utf8 a) as (λ b. is_utf8 a ≡ b → b ≡ false) [ true ↦ λ e. absurd (h (IsUtf8-from_is_utf8 a e)) | false ↦ λ e. refl ] refl

module _ (a b : Bytes) where
  pub first_no_text : (IsUtf8 a → ⊥) → false ≡ alike a b
  unfolding alike
  first_no_text h = rw (no-text a h) refl

  pub second_no_text : IsUtf8 a → (IsUtf8 b → ⊥) → false ≡ alike a b
  unfolding alike
  second_no_text u h = rw (is_utf8-from_IsUtf8 a u, no-text b h) refl

  pub matched : IsUtf8 a → IsUtf8 b → (y : Bool) → (IsTrue y ↔ IsCompatibilityMatch (chars a) (chars b)) → y ≡ alike a b
  unfolding alike
  matched u v true h = rw (is_utf8-from_IsUtf8 a u, is_utf8-from_IsUtf8 b v) (sym (same-yes _ _ (h.0 (search rules))))
  matched u v false h = rw (is_utf8-from_IsUtf8 a u, is_utf8-from_IsUtf8 b v) (sym (same-no _ _ (λ e. let bad : false ≡ true = h.1 e in cc)))

  pub if_matched : IsUtf8 a → IsUtf8 b → (r : Result Bool AllocError)
      → IfOk r (λ y. IsTrue y ↔ IsCompatibilityMatch (chars a) (chars b)) → IfOk r (λ y. y ≡ alike a b)
  if_matched u v (Ok y) h = matched u v y h
  if_matched u v (Err e) h = tt

module _ (n : Bytes) where
  pub unseen_no_text : (IsUtf8 n → ⊥) → false ≡ hasUnseen n
  unfolding hasUnseen
  unseen_no_text h = rw (no-text n h) refl

  pub unseen_in : IsUtf8 n → list_any isUnseen (chars n) ≡ hasUnseen n
  unfolding hasUnseen
  unseen_in u = rw (is_utf8-from_IsUtf8 n u) refl
