-- A name read letter by letter, and its bytes at the front of a buffer.
use Rattle.std.specs.Prelude.{◌≡◌, List, ℕ, suc, ◌≤◌, Result, Ok, Err, length}
use Rattle.std.proofs.lemmas.List.Edits.{sets}
use Rattle.rules.specs.Names.{Bytes}
use Rattle.rules.specs.Grammar.{read, bad}
use Rattle.text_scan.specs.Scanned.{place_in, nameIn}
use Rattle.text_scan.specs.declared.inner.Name.{Name}

-- the whole name, its length, and the buffer
pub record NameRead (line : Bytes) (at i k : ℕ) (d d' : List ℕ) : Type 0 where
  pub within : i ≤ length line
  pub behind : at ≤ i
  pub bytes : Bytes
  pub is : nameIn line at ≡ read bytes (place_in line i)
  pub count : k ≡ length bytes
  pub buffer : d' ≡ sets d 0 bytes

abbrev pub NameScanned : Bytes → ℕ → List ℕ → List ℕ → Result Name ℕ → Type 0
NameScanned line at d d' (Ok n) = NameRead line at n.end n.size d d'
NameScanned line at d d' (Err p) = nameIn line at ≡ bad (suc p)
