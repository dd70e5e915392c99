-- Why no byte of a text is taken for markup.
use Rattle.std.specs.Prelude.{◌≡◌, refl, Bool, true, false, not, ◌&&◌, ◌||◌, ℕ, ◌+◌, ◌/◌, ◌%◌, ◌<◌, eqb, leb, ltb}
use Rattle.std.proofs.Common.{ap, inl, inr, arith, ne_eqb, le-ltb, ltb-true}
use Rattle.std.proofs.lemmas.Bool.{leb-false}
use mathlib.Core.List.{[], ◌∷◌, ◌++◌, map, Memᴰ}
use Rattle.rules.specs.Base.{all, collect}
use Rattle.rules.specs.Grammar.{ascii}
use Rattle.rules.specs.Names.{Bytes}
use Rattle.rules.specs.TextWriting.{hexDigit}
use Rattle.laws.specs.Lists.{Every, and_left, and_right}
use Rattle.laws.proofs.Lists.{every_append}
use Rattle.edition_html.specs.Pages.{plainBy, orElse, isControl, pageByte, harmless, IsPiece, AreBytes, IsAscii, NoMarkup}

-- ══ Hex digits ══

hex-harmless : (d : ℕ) → d < 16 → harmless (hexDigit d) ≡ true
unfolding hexDigit
hex-harmless d l = go (ltb d 10) refl
  where
    go : (t : Bool) → ltb d 10 ≡ t → harmless (hexDigit d) ≡ true
    go true e =
        let k = ltb-true d 10 e in
        rw (
          e,
          le-ltb (d + 48) 32 (omega arith),
          ne_eqb (d + 48) 127 (λ z. omega (arith, z, k)),
          ne_eqb (d + 48) 34 (λ z. omega (arith, z)),
          ne_eqb (d + 48) 38 (λ z. omega (arith, z)),
          ne_eqb (d + 48) 39 (λ z. omega (arith, z)),
          ne_eqb (d + 48) 60 (λ z. omega (arith, z, k)),
          ne_eqb (d + 48) 62 (λ z. omega (arith, z, k)),
        ) refl
    go false e = rw (
      e,
      le-ltb (d + 87) 32 (omega arith),
      ne_eqb (d + 87) 127 (λ z. omega (arith, z, l)),
      ne_eqb (d + 87) 34 (λ z. omega (arith, z)),
      ne_eqb (d + 87) 38 (λ z. omega (arith, z)),
      ne_eqb (d + 87) 39 (λ z. omega (arith, z)),
      ne_eqb (d + 87) 60 (λ z. omega (arith, z)),
      ne_eqb (d + 87) 62 (λ z. omega (arith, z)),
    ) refl

hex-ascii : (d : ℕ) → d < 16 → hexDigit d < 128
unfolding hexDigit
hex-ascii d l = go (ltb d 10) refl
  where
    go : (t : Bool) → ltb d 10 ≡ t → hexDigit d < 128
    go true e = rw e (let k = ltb-true d 10 e in omega (arith, k))
    go false e = rw e (omega (arith, l))

-- ══ A byte ══

-- the first that fits, and what doesn't fit where it is another
pick : (P : Bytes → Type 0) (t : Bool) {bs cs : Bytes} → P bs → (t ≡ false → P cs) → P (orElse t bs cs)
pick P true p f = p
pick P false p f = f refl

module _ (whole : Bool) (b : ℕ) (l : b < 256) where
  abbrev other : Bool
  other = isControl b || (not whole && leb 128 b)

  byte-piece : IsPiece (pageByte whole b)
  unfolding pageByte all
  byte-piece =
      pick IsPiece (eqb b 38) (inl (Memᴰ.head refl)) (λ n₁.
      pick IsPiece (eqb b 60) (inl (Memᴰ.tail (Memᴰ.head refl))) (λ n₂.
      pick IsPiece (eqb b 62) (inl (Memᴰ.tail (Memᴰ.tail (Memᴰ.head refl)))) (λ n₃.
      pick IsPiece (eqb b 34) (inl (Memᴰ.tail (Memᴰ.tail (Memᴰ.tail (Memᴰ.head refl))))) (λ n₄.
      pick IsPiece (eqb b 39) (inl (Memᴰ.tail (Memᴰ.tail (Memᴰ.tail (Memᴰ.tail (Memᴰ.head refl)))))) (λ n₅.
      go n₁ n₂ n₃ n₄ n₅ (isControl b) refl)))))
    where
      escape : all harmless (plainBy false b) ≡ true
      escape = rw (hex-harmless (b / 16) (omega (arith, l)), hex-harmless (b % 16) (omega arith)) refl

      go : eqb b 38 ≡ false → eqb b 60 ≡ false → eqb b 62 ≡ false → eqb b 34 ≡ false → eqb b 39 ≡ false → (t : Bool) → isControl b ≡ t
          → IsPiece (plainBy (not (t || (not whole && leb 128 b))) b)
      go n₁ n₂ n₃ n₄ n₅ true e = inr escape
      go n₁ n₂ n₃ n₄ n₅ false e = inr (at (not (not whole && leb 128 b)))
        where
          at : (u : Bool) → all harmless (plainBy u b) ≡ true
          at true = rw (e, n₁, n₂, n₃, n₄, n₅) refl
          at false = escape

below : (bs : Bytes) → all (λ b. ltb b 128) bs ≡ true → IsAscii bs
unfolding all
below [] e = tt
below (b ∷ bs) e = (ltb-true b 128 (and_left (ltb b 128) _ e), below bs (and_right (ltb b 128) _ e))

-- a text that isn't whole
byte-ascii : (b : ℕ) → b < 256 → IsAscii (pageByte false b)
unfolding pageByte all
byte-ascii b l =
    pick IsAscii (eqb b 38) (below (ascii "&amp;") refl) (λ n₁.
    pick IsAscii (eqb b 60) (below (ascii "&lt;") refl) (λ n₂.
    pick IsAscii (eqb b 62) (below (ascii "&gt;") refl) (λ n₃.
    pick IsAscii (eqb b 34) (below (ascii "&quot;") refl) (λ n₄.
    pick IsAscii (eqb b 39) (below (ascii "&#39;") refl) (λ n₅.
    go (isControl b) (leb 128 b) refl)))))
  where
    escape : IsAscii (plainBy false b)
    escape = (omega arith, (hex-ascii (b / 16) (omega (arith, l)), (hex-ascii (b % 16) (omega arith), tt)))

    go : (t u : Bool) → leb 128 b ≡ u → IsAscii (plainBy (not (t || u)) b)
    go true u e = escape
    go false true e = escape
    go false false e = (leb-false 128 b e, tt)

-- ══ A text ══

pieces-are : (f : ℕ → Bytes) (t : Bytes) → collect f t ≡ collect (λ p. p) (map f t)
unfolding collect
pieces-are f [] = refl
pieces-are f (b ∷ t) = ap (f b ++◌) (pieces-are f t)

each-piece : (whole : Bool) (t : Bytes) → AreBytes t → Every IsPiece (map (pageByte whole) t)
each-piece whole [] h = tt
each-piece whole (b ∷ t) h = (byte-piece whole b h.0, each-piece whole t h.1)

all-ascii : (t : Bytes) → AreBytes t → IsAscii (collect (pageByte false) t)
unfolding collect
all-ascii [] h = tt
all-ascii (b ∷ t) h = every_append (λ b. b < 128) (pageByte false b) (collect (pageByte false) t) (byte-ascii b h.0) (all-ascii t h.1)

pub text-harmless : NoMarkup
text-harmless = record {
  put = λ whole t h. record { pieces = map (pageByte whole) t; is = pieces-are (pageByte whole) t; each = each-piece whole t h };
  ascii_alone = all-ascii;
}
