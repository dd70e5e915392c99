-- How a sheet stands: records counted, and a record written before its parts.
use Rattle.text_grammar.specs.declared.inner.Point.TheVariants as point
use Rattle.text_grammar.specs.declared.inner.Point.{Point}
use Rattle.std.specs.Prelude.{◌≡◌, Bool, true, false, List, [], ◌∷◌, ℕ, ◌+◌, ◌-◌, ◌*◌, ◌≤◌, leb, Result, Err, Ok}
use Rattle.std.proofs.lemmas.List.Edits.{sets}
use Rattle.rules.specs.Writing.{words}
use Rattle.rules.specs.declared.Refusal.{Refusal}
use Rattle.rules.specs.declared.Refusal.TheVariants.{TooLarge}
use Rattle.records.specs.Views.{recOf}
use Rattle.records.specs.declared.View.{View}
use Rattle.text_names.specs.declared.inner.At.{At}
use Rattle.text_names.specs.declared.inner.Tally.{Tally}

-- how a sheet stands: what was counted so far, or why it is refused and at which place
abbrev pub Stand : Type 0
Stand = Result Tally At

abbrev pub Going : ℕ → ℕ → Stand
Going k n = Ok (record { names = k; records = n })

abbrev pub Refused : Refusal → ℕ → Stand
Refused r c = Err (record { why = r; at = c })

pub not-both : {s : Stand} {r : Refusal} {c k n : ℕ} → s ≡ Refused r c → s ≡ Going k n → ⊥
not-both e f = cc

abbrev pub place_of : Point → ℕ
place_of (point.At i) = i
place_of point.Deep = 0
place_of (point.Bad q) = 0

-- at most 2,048 records so far
abbrev pub Few : Stand → Type 0
Few s = (k n : ℕ) → s ≡ Going k n → n ≤ 2048

abbrev pub countIf : Bool → ℕ → ℕ → ℕ → Stand
countIf true at f n = Going f n
countIf false at f n = Refused TooLarge at

-- k records more
abbrev pub countOf : ℕ → ℕ → Stand → Stand
countOf k at (Ok tally) = countIf (leb (tally.records + k) 2048) at tally.names (tally.records + k)
countOf k at (Err stop) = Refused stop.why stop.at

-- r has at least the records of s, and not too many
abbrev pub Above : Stand → Stand → Type 0
Above s r = (k n i m : ℕ) → s ≡ Going k n → r ≡ Going i m → (n ≤ m) × (m ≤ 2048)

-- the record v at the place that s counted, as long as all that was written up to r
abbrev pub headPut : View → Stand → Stand → List ℕ → List ℕ
headPut v (Ok tally) (Ok tally') d = sets d (tally.records * 4) (words (recOf v (tally'.records - tally.records) ∷ []))
headPut v (Ok tally) (Err stop) d = d
headPut v (Err stop) s d = d
