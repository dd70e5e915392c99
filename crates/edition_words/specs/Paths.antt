-- By which words of a command line a file can be opened.
use Rattle.std.specs.Prelude.{Bool, not, ◌||◌, ◌&&◌, ◌==◌, ℕ, List, map, filter}
use Rattle.std.specs.List.{list_any, after_first}
use Rattle.std.specs.Str.{bytes_eq}
use Rattle.std.specs.Str.Lossy.{utf8_lossy}

-- what isn't UTF-8 is held with marks of replacement, so as another word
abbrev pub isReplaced : List ℕ → Bool
isReplaced word = not (bytes_eq (utf8_lossy word) word)

-- of the words that were given those that are held as others, as they are held
abbrev pub replacedOf : List (List ℕ) → List (List ℕ)
replacedOf words = map utf8_lossy (filter isReplaced words)

-- a word is this path, or has it behind its first '='
unfoldable pub isOrSets : List ℕ → List ℕ → Bool
isOrSets path word = bytes_eq word path || (list_any (λ b. b == 61) word && bytes_eq (after_first (λ b. b == 61) word) path)
