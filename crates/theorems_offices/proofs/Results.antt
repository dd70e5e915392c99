-- What stands at the front of a result buffer after a call.
use Rattle.std.specs.Prelude.{◌≡◌, List, [], ◌∷◌, ◌++◌, map, ℕ, zero, suc, ◌*◌, ◌<◌, take, drop}
use Rattle.std.proofs.Math.Path.{refl, ap, sym}
use Rattle.std.proofs.Common.{ap₂, ◌∙◌, arith}
use Rattle.std.proofs.Math.ListN.{length, length-map}
use Rattle.rules.specs.Base.{Got, got, refused}
use Rattle.rules.specs.Names.{Table}
use Rattle.rules.specs.Writing.{Rec, words}
use Rattle.rules.specs.Calls.{over, resultAfter, writing, listing}
use Rattle.rules.specs.Offices.{Word, nameNo, readBack, ReadAlike, WrittenAlike, ListedAlike}
use Rattle.laws.proofs.Size.{words-length}
use Rattle.laws.proofs.Alike.{both, neither}
use Rattle.theorems_offices.proofs.Both.{Both}
use Rattle.theorems_offices.proofs.Reading.{same_length, seen}
use Rattle.theorems_offices.proofs.Writing.{words-alike}

pub take-front : (ws rest : List ℕ) → take (length ws) (ws ++ rest) ≡ ws
take-front [] rest = refl
take-front (w ∷ ws) rest = ap (λ (l : List ℕ). w ∷ l) (take-front ws rest)

-- what was written stands at the front
pub front-over : (ws buffer : List ℕ) → take (length ws) (over ws buffer) ≡ ws
unfolding over
front-over ws buffer = take-front ws (drop (length ws) buffer)

pub records-front : (rs : List Rec) (buffer : List ℕ) → take (length rs * 4) (over (words rs) buffer) ≡ words rs
records-front rs buffer = ap (λ (n : ℕ). take n (over (words rs) buffer)) (sym (words-length rs)) ∙ front-over (words rs) buffer

-- whole records in front of others are read back by themselves
back-append : (t : Table) (n : ℕ) (xs ys : List ℕ) → length xs ≡ n * 4 → readBack t (xs ++ ys) ≡ readBack t xs ++ readBack t ys
unfolding readBack
back-append t n [] ys e = refl
back-append t n (k ∷ []) ys e = absurd (omega arith)
back-append t n (k ∷ a ∷ []) ys e = absurd (omega arith)
back-append t n (k ∷ a ∷ b ∷ []) ys e = absurd (omega arith)
back-append t zero (k ∷ a ∷ b ∷ c ∷ xs) ys e = absurd (omega arith)
back-append t (suc n) (k ∷ a ∷ b ∷ c ∷ xs) ys e = rw (back-append t n xs ys (omega arith))

pub joined-alike : (t t' : Table) (n : ℕ) (xs xs' ys ys' : List ℕ) → length xs ≡ n * 4 → length xs' ≡ n * 4 → ReadAlike t t' xs xs'
    → ReadAlike t t' ys ys' → ReadAlike t t' (xs ++ ys) (xs' ++ ys')
joined-alike t t' n xs xs' ys ys' h h' e f =
    record { words = back-append t n xs ys h ∙ ap₂ (λ (a b : List Word). a ++ b) e.words f.words ∙ sym (back-append t' n xs' ys' h') }

-- words that are no whole record stay as they are
pub rest-alike : (t t' : Table) (ws : List ℕ) → length ws < 4 → ReadAlike t t' ws ws
unfolding readBack
rest-alike t t' [] h = record { words = refl }
rest-alike t t' (k ∷ []) h = record { words = refl }
rest-alike t t' (k ∷ a ∷ []) h = record { words = refl }
rest-alike t t' (k ∷ a ∷ b ∷ []) h = record { words = refl }
rest-alike t t' (k ∷ a ∷ b ∷ c ∷ ws) h = absurd (omega arith)

module _ (t t' : Table) where
  -- nothing reads as nothing
  pub nothing : ReadAlike t t' [] []
  unfolding readBack
  nothing = record { words = refl }

  pub fronts : (rs rs' : List Rec) (n n' : ℕ) (b b' : List ℕ) → length rs ≡ n → length rs' ≡ n' → map (seen t) rs ≡ map (seen t') rs'
      → ReadAlike t t' (take (n * 4) (over (words rs) b)) (take (n' * 4) (over (words rs') b'))
  fronts rs rs' n n' b b' i i' e = rw (← i, ← i', records-front rs b, records-front rs' b') (words-alike t t' rs rs' e)

  pub writing-alike : (room : Got (Unit {0})) (m m' : Got (List Rec)) (result result' work work' : List ℕ) → Both (map (seen t)) (map (seen t')) m m'
      → WrittenAlike t t' (writing room m result work) (writing room m' result' work')
  unfolding writing resultAfter
  writing-alike (refused n) m m' result result' work work' b = record { answer = refl; records = nothing }
  writing-alike (got u) m m' result result' work work' neither = record { answer = refl; records = nothing }
  writing-alike (got u) m m' result result' work work' (both {a = rs} {b = rs'} e) = record {
    answer = ap got (same_length t t' rs rs' e);
    records = fronts rs rs' (length rs) (length rs') result result' refl refl e;
  }

  pub listing-alike : (m m' : Got (List ℕ)) (result result' : List ℕ) → Both (map (nameNo t)) (map (nameNo t')) m m'
      → ListedAlike t t' (listing m result) (listing m' result')
  unfolding listing resultAfter
  listing-alike m m' result result' neither = record { answer = refl; numbers = record { names = refl } }
  listing-alike m m' result result' (both {a = ns} {b = ns'} e) = record {
    answer = ap got (sym (length-map ns (nameNo t)) ∙ ap length e ∙ length-map ns' (nameNo t'));
    numbers = record { names = ap (map (nameNo t)) (front-over ns result) ∙ e ∙ sym (ap (map (nameNo t')) (front-over ns' result')) };
  }
