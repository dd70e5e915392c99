-- What open names become: a table of places, a word for each name, before a list of words in which the types stand.
use Rattle.std.specs.Prelude.{◌≡◌, Bool, ◌&&◌, eqb, cond, List, ℕ, ◌+◌, ◌≤◌, ltb, get_or}
use Rattle.std.proofs.Math.Option.{Option, none, some}
use Rattle.rules.specs.Replacing.{Look}
use Rattle.rules.specs.Trees.{Open, var, quant, par, Ty, size}
use Rattle.laws.specs.Lists.{Every}
use Rattle.records.specs.Holds.{Holds}

-- the word of a variable or a parameter; a number past the last name has none, which counts as 0
abbrev pub nameWord : List ℕ → ℕ → ℕ → ℕ
nameWord places first x = cond (ltb x 256) (get_or places (first + x) 0) 0

-- variables from 0 on, parameters from 256 on, quantified variables from 512 on
abbrev pub word_of : List ℕ → Open ℕ → ℕ
word_of places (var x) = nameWord places 0 x
word_of places (quant i) = get_or places (512 + i) 0
word_of places (par x) = nameWord places 256 x

-- the number of an open name; these names all have the number x
abbrev pub number_of : Open ℕ → ℕ
number_of (var x) = x
number_of (quant i) = i
number_of (par x) = x

abbrev pub Called : ℕ → List (Open ℕ) → Type 0
Called x os = Every (λ o. number_of o ≡ x) os

-- no open name of the number x has a word
unfoldable pub unsaid : List ℕ → ℕ → Bool
unsaid places x = eqb (word_of places (var x)) 0 && (eqb (word_of places (par x)) 0 && eqb (word_of places (quant x)) 0)

-- the word w is one more than the place of a type
pub record BoundAt (v : List ℕ) (w : ℕ) (t : Ty ℕ) : Type 0 where
  pub at : ℕ
  pub word : w ≡ at + 1
  pub held : Holds v t at

-- 0: the name stays; another word: its type stands there
abbrev pub SaysAt : List ℕ → ℕ → Option (Ty ℕ) → Type 0
SaysAt v w none = w ≡ 0
SaysAt v w (some t) = BoundAt v w t

-- each name becomes what its word says, of at most 2,048 records
pub record Tabled (places v : List ℕ) (look : Look ℕ) : Type 0 where
  pub says : (o : Open ℕ) → SaysAt v (word_of places o) (look o)
  pub few : (o : Open ℕ) (t : Ty ℕ) → look o ≡ some t → size t ≤ 2048
