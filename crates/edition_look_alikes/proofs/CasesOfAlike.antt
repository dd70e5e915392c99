-- Names that look alike, and names with characters that are not seen, by computation: small names, byte by byte.
use Rattle.std.specs.Prelude.{◌≡◌, refl, true, false, List, [], ◌∷◌}
use Rattle.std.specs.Char.{encode_utf8}
use Rattle.std.specs.Str.{chars, is_utf8}
use Rattle.caseless.proofs.Computing.{caseless}
use Rattle.unicode_normalization.proofs.Computing.{unicode_normalization}
use Rattle.ucd_category.proofs.Computing.{ucd_category}
use Rattle.ucd_derived.proofs.Computing.{ucd_derived}
use Rattle.rules.specs.Names.{Bytes, sameBytes}
use Rattle.rules.specs.Rules.{rules}
use Rattle.edition_look_alikes.specs.declared.Pair.{Pair}
use Rattle.edition_look_alikes.specs.Alike.{alike, isUnseen, hasUnseen, alikeTo, alikePairs, withUnseen}

-- größe: ö as one character, and as o with a mark above it
abbrev composed : Bytes
composed = 103 ∷ 114 ∷ 195 ∷ 182 ∷ 195 ∷ 159 ∷ 101 ∷ []

abbrev decomposed : Bytes
decomposed = 103 ∷ 114 ∷ 111 ∷ 204 ∷ 136 ∷ 195 ∷ 159 ∷ 101 ∷ []

one-or-two : alike composed decomposed ≡ true
unfolding alike is_utf8 chars encode_utf8 caseless unicode_normalization rules
one-or-two = refl

-- fine with a ligature, and Fine
ligature : alike (239 ∷ 172 ∷ 129 ∷ 110 ∷ 101 ∷ []) (70 ∷ 105 ∷ 110 ∷ 101 ∷ []) ≡ true
unfolding alike is_utf8 chars encode_utf8 caseless unicode_normalization rules
ligature = refl

-- a of Latin and of Cyrillic
scripts : alike (97 ∷ []) (208 ∷ 176 ∷ []) ≡ false
unfolding alike is_utf8 chars encode_utf8 caseless unicode_normalization rules
scripts = refl

-- what isn't UTF-8 is like nothing, not even itself
no-text : alike (255 ∷ []) (255 ∷ []) ≡ false
unfolding alike is_utf8 chars encode_utf8 caseless unicode_normalization rules
no-text = refl

-- a, b with a zero-width space between them; a soft hyphen; a no-break space; a variation selector; the braille blank; ö has none
between : hasUnseen (97 ∷ 226 ∷ 128 ∷ 139 ∷ 98 ∷ []) ≡ true
unfolding hasUnseen isUnseen is_utf8 chars encode_utf8 ucd_category ucd_derived
between = refl

hyphen : hasUnseen (194 ∷ 173 ∷ []) ≡ true
unfolding hasUnseen isUnseen is_utf8 chars encode_utf8 ucd_category ucd_derived
hyphen = refl

no-break : hasUnseen (97 ∷ 194 ∷ 160 ∷ []) ≡ true
unfolding hasUnseen isUnseen is_utf8 chars encode_utf8 ucd_category ucd_derived
no-break = refl

selector : hasUnseen (97 ∷ 239 ∷ 184 ∷ 143 ∷ []) ≡ true
unfolding hasUnseen isUnseen is_utf8 chars encode_utf8 ucd_category ucd_derived
selector = refl

braille : hasUnseen (226 ∷ 160 ∷ 128 ∷ []) ≡ true
unfolding hasUnseen isUnseen is_utf8 chars encode_utf8 ucd_category ucd_derived
braille = refl

none : hasUnseen composed ≡ false
unfolding hasUnseen isUnseen is_utf8 chars encode_utf8 ucd_category ucd_derived
none = refl

-- of three names the first and the last
pair : alikePairs 0 ((97 ∷ []) ∷ (98 ∷ []) ∷ (65 ∷ []) ∷ []) ≡ record { first = 0; second = 2 } ∷ []
unfolding alikePairs alikeTo alike is_utf8 chars encode_utf8 caseless unicode_normalization rules
pair = refl
