-- The type of a variable once the set was solved and judged, and what each answer of the code makes of it.
use Rattle.std.specs.Prelude.{◌≡◌, List, ℕ, ◌≤◌, Result}
use Rattle.std.proofs.Math.Option.{get_or}
use Rattle.std.proofs.lemmas.List.Edits.{sets}
use Rattle.rules.specs.Base.{Got, got, ◌>>=◌, ◌>>◌, bounded}
use Rattle.rules.specs.Trees.{var, Ty, opened, Con, Binding, size}
use Rattle.rules.specs.Replacing.{Look, replaceTy, bindings}
use Rattle.rules.specs.Judging.{judge}
use Rattle.rules.specs.Writing.{Rec, words, writeTy}
use Rattle.rules.specs.Lines.{its, agreed, agreedSet}
use Rattle.rules.specs.declared.Refusal.{Refusal}
use Rattle.records.specs.Good.{numbers}
use Rattle.replace.specs.Runs.{found}
use Rattle.records_buffers.specs.Told.{Made}
use Rattle.judge.specs.Found.{FoundThere}
use Rattle.lines.specs.Standing.{SetStands}

-- ══ The type of a variable ══

-- its records were written to the front of d
pub record Typed (look : Look ℕ) (v : ℕ) (d d' : List ℕ) (n : ℕ) : Type 0 where
  pub type : Ty ℕ
  pub is : get_or (look (var v)) (opened (var v)) ≡ type
  pub few : size type ≤ 2048
  pub many : n ≡ size type
  pub buffer : d' ≡ sets d 0 (words (writeTy type))

-- ══ Answers ══

module _ (pool table : List ℕ) where
  -- the type of v with the bindings put in, as records
  abbrev pub typeRecs : List (Binding ℕ) → ℕ → Got (List Rec)
  typeRecs bs v = replaceTy (numbers pool table) bounded (bindings (numbers pool table) bs) (its v) >>= λ ty. got (writeTy ty)

  -- after the judge's verdict on what was found
  abbrev pub judgedType : List (Con ℕ) → List (Binding ℕ) → List ℕ → ℕ → Got (List Rec)
  judgedType cs bs ns v = agreed (judge (numbers pool table) bounded bs ns cs) >> typeRecs bs v

  -- after solving and judging
  abbrev pub setType : List (Con ℕ) → ℕ → Got (List Rec)
  setType cs v = agreedSet (numbers pool table) cs >>= λ bs. typeRecs bs v

  -- what an answer makes of bindings up to b, and n bounds behind them, that were found for a set
  abbrev pub Confirmed : List ℕ → List ℕ → ℕ → ℕ → ℕ → List ℕ → Result ℕ Refusal → Type 0
  Confirmed set found b n v w r =
      (cs : List (Con ℕ)) (bs : List (Binding ℕ)) (ns : List ℕ) → SetStands pool table set cs → FoundThere pool table found b n bs ns
      → Made (judgedType cs bs ns v) w r
