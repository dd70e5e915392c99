-- A name that was read, and entered where it stands.
use Rattle.std.specs.Prelude.{◌≡◌, List, [], ℕ, ◌+◌, ◌<◌, Result, Ok, Err, length, get_or}
use Rattle.std.proofs.lemmas.List.Edits.{sets}
use Rattle.rules.specs.Names.{Bytes}
use Rattle.rules.specs.Writing.{Rec}
use Rattle.rules.specs.TextReading.{newIn}
use Rattle.rules.specs.declared.Refusal.{Refusal}
use Rattle.rules.specs.declared.Was.{Was}
use Rattle.text_names.specs.Stands.{Stand}
use Rattle.text_names.specs.Stands as stand

-- what entering a name answers
abbrev pub Answer : Type 0
Answer = Result (ℕ × Was) Refusal

abbrev pub standAfter : ℕ → ℕ → ℕ → Answer → Stand
standAfter at k n (Ok a) = stand.Going (k + newIn a.1) n
standAfter at k n (Err why) = stand.Refused why at

abbrev pub numberTold : Answer → ℕ
numberTold (Ok a) = a.0
numberTold (Err why) = 0

-- the number i is told: it is held, and nothing is written
pub record NumberTold (table : List ℕ) (i x : ℕ) (rs : List Rec) : Type 0 where
  pub is : x ≡ i
  pub held : x < get_or table 0 0
  pub none : rs ≡ []

-- ══ The bytes of a name ══

-- a name's length, and its bytes at the front of a buffer of 48
pub record Front (d : List ℕ) (long : ℕ) (n : Bytes) : Type 0 where
  pub count : long ≡ length n
  pub before : List ℕ
  pub size : length before ≡ 48
  pub is : d ≡ sets before 0 n
