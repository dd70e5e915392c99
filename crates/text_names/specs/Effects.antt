-- What a step of a sheet's meaning did to all that is lent, and steps in turn.
use Rattle.std.specs.Prelude.{◌≡◌, refl, List, ◌++◌, ℕ, suc, ◌+◌, ◌*◌, ◌≤◌, length, drop, get_or, Err}
use Rattle.std.specs.Prelude.{Ok}
use Rattle.std.proofs.Common.{ap, ◌∙◌, append_assoc, arith}
use Rattle.std.proofs.lemmas.List.Edits.{sets}
use Rattle.rules.specs.Names.{Bytes, table_of, names_of}
use Rattle.rules.specs.Refusals.{number_of}
use Rattle.rules.specs.Grammar.{Rule}
use Rattle.rules.specs.Writing.{Rec, words}
use Rattle.rules.specs.TextReading.{Sofar, told, refusedAt, Step}
use Rattle.rules.specs.declared.Refusal.{Refusal}
use Rattle.laws.specs.NameTable.{Good}
use Rattle.text_grammar.specs.declared.inner.Point.TheVariants as point
use Rattle.text_grammar.specs.declared.inner.Point.{Point}
use Rattle.text_grammar.specs.Points.{Reads, PointIn}
use Rattle.text_names.specs.Stands.{Stand, not-both}
use Rattle.text_names.specs.Stands as stand

-- ══ What is lent, and how the sheet stands ══

pub record Lent : Type 0 where
  pub pool : List ℕ
  pub table : List ℕ
  pub dst : List ℕ
  pub stand : Stand

abbrev pub lent : List ℕ → List ℕ → List ℕ → Stand → Lent
lent p t d s = record { pool = p; table = t; dst = d; stand = s }

abbrev pub sofar : Lent → ℕ → ℕ → Sofar
sofar x k n = record { pool = x.pool; table = x.table; fresh = k; records = n }

-- new names are names that are held, and records are at most 2,048
pub record Room (table : List ℕ) (k n : ℕ) : Type 0 where
  pub names : k ≤ get_or table 0 0
  pub records : n ≤ 2048

abbrev pub Roomy : List ℕ → Stand → Type 0
Roomy table s = (k n : ℕ) → s ≡ stand.Going k n → Room table k n

-- behind a type nested 65 deep a sheet is refused
abbrev pub Halted : Point → Stand → Type 0
Halted p s = (k n : ℕ) → p ≡ point.Deep → s ≡ stand.Going k n → ⊥

-- what every function asks
pub record Ready (line : Bytes) (p : Point) (pool table : List ℕ) (s : Stand) : Type 0 where
  pub within : PointIn line p
  pub good : Good pool table
  pub room : Roomy table s
  pub halted : Halted p s

-- what every function keeps: the table well formed with its names in their order, all lengths, what lies behind, a refusal, and what was counted
pub record Kept (x y : Lent) : Type 0 where
  pub good : Good y.pool y.table
  pub more : List Bytes
  pub names : names_of (table_of y.pool y.table) ≡ names_of (table_of x.pool x.table) ++ more
  pub held : get_or x.table 0 0 ≤ get_or y.table 0 0
  pub pool-long : length y.pool ≡ length x.pool
  pub table-long : length y.table ≡ length x.table
  pub dst-long : length y.dst ≡ length x.dst
  pub pool-behind : drop 8192 y.pool ≡ drop 8192 x.pool
  pub table-behind : drop 257 y.table ≡ drop 257 x.table
  pub refused : (r : Refusal) (c : ℕ) → x.stand ≡ stand.Refused r c → y.stand ≡ stand.Refused r c
  pub above : (k n k' n' : ℕ) → x.stand ≡ stand.Going k n → y.stand ≡ stand.Going k' n' → n ≤ n'
  pub room : Roomy y.table y.stand

-- ══ What a step did ══

-- a step that was done: its value b and its records rs, of which the code tells T b rs
pub record Did {B : Type 0} (m : Step B) (T : B → List Rec → Type 0) (x y : Lent) (k n k' n' : ℕ) : Type 0 where
  pub value : B
  pub records : List Rec
  pub is : m (sofar x k n) ≡ told value (sofar y k' n')
  pub tells : T value records
  pub written : y.dst ≡ sets x.dst (n * 4) (words records)
  pub grown : n' ≡ n + length records

-- a step that was done or refused; of what happens to a sheet that was refused before, `Kept` speaks
pub record Effect {B : Type 0} (m : Step B) (T : B → List Rec → Type 0) (x y : Lent) : Type 0 where
  pub does : (k n k' n' : ℕ) → x.stand ≡ stand.Going k n → y.stand ≡ stand.Going k' n' → Did m T x y k n k' n'
  pub refuses : (k n c : ℕ) (r : Refusal) → x.stand ≡ stand.Going k n → y.stand ≡ stand.Refused r c → m (sofar x k n) ≡ refusedAt (number_of r) (suc c)

-- what is written for a value
abbrev pub Writes : {B : Type 0} → (B → List Rec) → B → List Rec → Type 0
Writes w b rs = rs ≡ w b

pub kept_then : {x y z : Lent} → Kept x y → Kept y z → Kept x z
kept_then {x} {y} {z} a b = record {
  good = b.good;
  more = a.more ++ b.more;
  names = b.names ∙ ap (λ (ns : List Bytes). ns ++ b.more) a.names ∙ append_assoc (names_of (table_of x.pool x.table)) a.more b.more;
  held = omega (arith, a.held, b.held);
  pool-long = b.pool-long ∙ a.pool-long;
  table-long = b.table-long ∙ a.table-long;
  dst-long = b.dst-long ∙ a.dst-long;
  pool-behind = b.pool-behind ∙ a.pool-behind;
  table-behind = b.table-behind ∙ a.table-behind;
  refused = λ r c e. b.refused r c (a.refused r c e);
  above = λ k n k' n' p q. go k n k' n' p q y.stand refl;
  room = b.room;
}
  where
    go : (k n k' n' : ℕ) → x.stand ≡ stand.Going k n → z.stand ≡ stand.Going k' n' → (s : Stand) → y.stand ≡ s → n ≤ n'
    go k n k' n' p q (Err stop) h = absurd (not-both (b.refused stop.why stop.at h) q)
    go k n k' n' p q (Ok tally) h = omega (arith, a.above k n tally.names tally.records p h, b.above tally.names tally.records k' n' h q)

-- ══ From point to point ══

abbrev pub NotBad : Point → Type 0
NotBad (point.At i) = Unit {0}
NotBad point.Deep = Unit {0}
NotBad (point.Bad q) = ⊥

-- a rule R goes from p to r, and what it reads is done as f says, unless nothing fits
pub record Done {A B : Type 0} (line : Bytes) (R : Rule A) (f : A → Step B) (T : B → List Rec → Type 0) (p : Point) (x : Lent) (r : Point)
    (y : Lent) : Type 0 where
  pub reads : Reads line p R (λ a. NotBad r → Effect (f a) T x y) r
  pub kept : Kept x y
  pub halted : Halted r y.stand
