-- What is told of a name, and that the code's lesser is the rules'.
use mathlib.Core.Path.{◌≡◌, refl, ap, ◌∙◌}
use mathlib.Core.List.{List}
use Prim.Native.Nat.{ℕ}
use lib.ListN.{length}
use Rattle.std.proofs.lemmas.List.Edits.{sets}
use Rattle.rules.specs.Base.{Got, got, refused}
use Rattle.rules.specs.Names.{Bytes, nameAsked, part_of, start_in, table_of, partFrom, partAsked}
use Rattle.laws.proofs.Lists.{got≢refused, clash, same-number}
use Rattle.names.specs.Told.{refusalOf}
use Rattle.calls_defined.specs.Dispatch.{shown, nameAs, naming}
use Rattle.calls_defined.specs.Saying.{saidAs, refusedAs}
use Rattle.calls_defined.specs.declared.told.Told.{Told}

part-bytes : (start : ℕ) (g : Got Bytes) → (partFrom start g).bytes ≡ part_of g
unfolding partFrom
part-bytes start (got name) = refl
part-bytes start (refused n) = refl

told-held : (g : Got Bytes) (name : List ℕ) → got tt ≡ refusalOf g → name ≡ part_of g → saidAs 0 0 (length name) ≡ nameAs g
told-held (got n) name h e = ap (λ (b : List ℕ). saidAs 0 0 (length b)) e
told-held (refused k) name h e = absurd (got≢refused h)

told-none : (g : Got Bytes) (k : ℕ) → refused k ≡ refusalOf g → refusedAs k 0 0 ≡ nameAs g
told-none (got n) k h = clash h
told-none (refused j) k h = ap (λ n. refusedAs n 0 0) (same-number h)

module _ (pool table : List ℕ) (x : ℕ) (res res' name : List ℕ) (b : name ≡ (partAsked pool table x).bytes) (w : res' ≡ sets res 0 name) where
  bytes-are : name ≡ part_of (nameAsked pool table x)
  unfolding partAsked
  bytes-are = b ∙ part-bytes (start_in (table_of pool table) x) (nameAsked pool table x)

  shows : {t : Told} → t ≡ nameAs (nameAsked pool table x) → shown t res' ≡ naming pool table x res
  unfolding naming
  shows {t} e = rw (e, w, bytes-are)

  pub named-held : {t : Told} → got tt ≡ refusalOf (nameAsked pool table x) → t ≡ saidAs 0 0 (length name) → shown t res' ≡ naming pool table x res
  named-held h e = shows (e ∙ told-held (nameAsked pool table x) name h bytes-are)

  pub named-none : {t : Told} (k : ℕ) → refused k ≡ refusalOf (nameAsked pool table x) → t ≡ refusedAs k 0 0 → shown t res' ≡ naming pool table x res
  named-none k h e = shows (e ∙ told-none (nameAsked pool table x) k h)
