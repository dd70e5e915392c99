-- Names of files as they are shown: the characters of a name, U+FFFD where its bytes are none, and "?" for a control character.
use Rattle.std.specs.Prelude.{ℕ, List, if◌then◌else◌, chars}
use Rattle.std.specs.Char.{is_control, encode_utf8}
use Rattle.std.specs.List.{flat_map}
use Rattle.std.specs.Str.Lossy.{utf8_lossy}

-- the bytes that show a character
abbrev pub shownChar : ℕ → List ℕ
shownChar c = encode_utf8 (if is_control c then 63 else c)

abbrev pub shownName : List ℕ → List ℕ
shownName name = flat_map shownChar (chars (utf8_lossy name))
