-- A number that is held has its name where the table says; of any other nothing is said.
use Rattle.std.proofs.Math.Path.{◌≡◌, refl}
use Rattle.std.proofs.Common.{sym, ap, ◌∙◌}
use Rattle.std.specs.Prelude.{List, ℕ, zero, suc, length}
use Rattle.std.proofs.Math.ListN.{get_or}
use Rattle.rules.specs.Base.{Got, got, refused}
use Rattle.rules.specs.Names.{Bytes, PoolPart, table_of, nameAsked, start_in, partFrom, partAsked}
use Rattle.rules.specs.Numbers.{refusalIn}
use Rattle.laws.proofs.Lists.{clash, same-number}
use Rattle.laws.specs.NameTable.{start_at}
use Rattle.laws.proofs.NameTable.{name-asked, start-in, good-laid}
use Rattle.names.proofs.Asked.{passed-held}
use Rattle.names.specs.Told.{refusalOf}
use Rattle.calls_defined.specs.Saying.{word, saidAs, refusedAs}
use Rattle.library_words.specs.Words.{placeAs}

-- the end of the name before
pub later : (table : List ℕ) (k : ℕ) → (k ≡ 0 → ⊥) → get_or table k 0 ≡ start_at table k
later table zero h = absurd (h refl)
later table (suc k) h = refl

number_is : (g : Got Bytes) {x : Got (Unit {0})} → x ≡ refusalOf g → refusalIn x ≡ refusalIn g
unfolding refusalIn
number_is (got n) e = ap refusalIn e
number_is (refused k) e = ap refusalIn e

said-as : (x : Got Bytes) (v m : ℕ) (q : PoolPart) → refusalIn x ≡ refusalIn {A = Unit {0}} (got tt) → v ≡ q.start → m ≡ word (length q.bytes)
    → saidAs v m 0 ≡ placeAs x q
unfolding refusalIn
said-as x v m q h e f = rw (h, ← e, ← f) (refl)

none_said : (start : ℕ) (x : Got Bytes) (k : ℕ) → refused k ≡ refusalOf x → refusedAs k 0 0 ≡ placeAs x (partFrom start x)
unfolding partFrom refusalIn
none_said start (got n) k h = clash h
none_said start (refused j) k h = rw (same-number h) refl

module _ (p t : List ℕ) (i : ℕ) where
  start_is : got tt ≡ refusalOf (nameAsked p t i) → start_at t i ≡ (partAsked p t i).start
  unfolding partAsked partFrom
  start_is h = let g = passed-held p t i h in rw (name-asked g.0 i g.1, start-in (good-laid g.0) i g.1)

  -- what is said of a number that is held, and of one that isn't
  pub placed-held : (v m : ℕ) → got tt ≡ refusalOf (nameAsked p t i) → v ≡ start_at t i → m ≡ word (length (partAsked p t i).bytes)
      → saidAs v m 0 ≡ placeAs (nameAsked p t i) (partAsked p t i)
  placed-held v m h e f = said-as _ v m (partAsked p t i) (sym (number_is (nameAsked p t i) h)) (e ∙ start_is h) f

  pub placed-nowhere : (k : ℕ) → refused k ≡ refusalOf (nameAsked p t i) → refusedAs k 0 0 ≡ placeAs (nameAsked p t i) (partAsked p t i)
  unfolding partAsked
  placed-nowhere k h = none_said (start_in (table_of p t) i) (nameAsked p t i) k h
