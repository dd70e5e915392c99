-- A sheet read line after line: how far it is read, and how it ends.
use Rattle.std.specs.Prelude.{◌≡◌, ℕ, ◌≤◌, drop}
use mathlib.Core.List.{List, ◌++◌}
use Rattle.std.proofs.Math.ListN.{length}
use Rattle.std.proofs.lemmas.List.Edits.{sets}
use Rattle.rules.specs.Base.{collect}
use Rattle.rules.specs.Names.{Bytes}
use Rattle.rules.specs.Trees.{Con}
use Rattle.rules.specs.Writing.{words, writeCon}
use Rattle.rules.specs.Grammar.{lines_of}
use Rattle.rules.specs.TextReading.{Sofar, sheet, lines_read, unread, sheetRead}

module _ (pool table text dst : List ℕ) where
  -- m lines are read, up to the place at: c constraints, whose records stand at the front of d
  pub record Upto (at m c : ℕ) (s : Sofar) (d : List ℕ) : Type 0 where
    pub lines : List Bytes
    pub cons : List (Con ℕ)
    pub cut : lines_of text ≡ lines ++ lines_of (drop at text)
    pub read : lines_read 1 lines (unread pool table) ≡ sheet cons s
    pub passed : m ≡ length lines
    pub many : c ≡ length cons
    pub records : s.records ≡ length (collect writeCon cons)
    pub written : d ≡ sets dst 0 (words (collect writeCon cons))
    pub within : at ≤ length text
    pub few : m ≤ at

  -- all lines are read
  pub record Whole (c : ℕ) (s : Sofar) (d : List ℕ) : Type 0 where
    pub cons : List (Con ℕ)
    pub is : sheetRead pool table text ≡ sheet cons s
    pub many : c ≡ length cons
    pub records : s.records ≡ length (collect writeCon cons)
    pub written : d ≡ sets dst 0 (words (collect writeCon cons))
