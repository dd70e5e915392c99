-- The answers of the code as values of the rules.
use Rattle.std.specs.Prelude.{Result, List, [], ◌≡◌, get_or}
use Prim.Native.Nat.{ℕ, ◌+◌, Ordering}
use Rattle.std.specs.Borrow.{Bor}
use Rattle.rules.specs.Base.{Got, got, refused}
use Rattle.rules.specs.Refusals.{told}
use Rattle.rules.specs.declared.Refusal.{Refusal}
use Rattle.rules.specs.Names.{Bytes, PoolPart, Entered, table_of, names_of}
use Rattle.laws.specs.NameTable.{start_at}
use Rattle.rules.specs.declared.Was.{Was}
use Rattle.std.specs.declared.cmp.Ordering as std
use Rattle.std.specs.declared.cmp.Ordering.TheVariants.{Less, Equal, Greater}

abbrev pub toldOrder : std.Ordering → Ordering
toldOrder Less = Ordering.lt
toldOrder Equal = Ordering.eq
toldOrder Greater = Ordering.gt

-- an answer, with what pool and table hold afterwards
abbrev pub entered : Result (ℕ × Was) Refusal → List ℕ → List ℕ → Entered
entered a pool table = record { answer = told a; pool = pool; table = table }

abbrev pub refusalOf : Got Bytes → Got (Unit {0})
refusalOf (got n) = got tt
refusalOf (refused k) = refused k

-- a slice is this part of another: it points to where the part starts in that slice, and holds the part's bytes
pub record IsPart (whole part : Bor (List ℕ)) (p : PoolPart) : Type 0 where
  pub place : part.ref_ptr ≡ (whole.ref_ptr.0, p.start + whole.ref_ptr.1)
  pub bytes : part.now ≡ p.bytes

-- the part of the pool that a held number stands for
abbrev pub heldPart : List ℕ → List ℕ → ℕ → PoolPart
heldPart pool table k = record { start = start_at table k; bytes = get_or (names_of (table_of pool table)) k [] }

-- of a value only that there is one
abbrev pub unit_of : {A : Type 0} → A → Unit {0}
unit_of a = tt
