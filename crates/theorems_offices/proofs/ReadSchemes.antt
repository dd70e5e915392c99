-- Schemes that read alike are read as schemes that are alike once numbers are replaced by names; or neither is read.
use Rattle.std.specs.Prelude.{◌≡◌, Bool, true, false, ℕ, suc, eqb, length}
use Rattle.std.proofs.Math.Path.{refl}
use Rattle.std.proofs.Common.{ap, sym}
use Rattle.std.proofs.Math.Option.{Option, none, some}
use mathlib.Core.List.{List, [], ◌∷◌, map}
use Rattle.rules.specs.Base.{any, and_then}
use Rattle.rules.specs.Trees.{Open}
use Rattle.rules.specs.Names.{Table}
use Rattle.rules.specs.Schemes.{Scheme, concrete, scheme}
use Rattle.rules.specs.Writing.{Rec, rec, kindIn, lengthIn}
use Rattle.rules.specs.Reading
use Rattle.rules.specs.Reading.{Reader, give, unused, pick, ifSo, readTy, readBound, read_all, schemeOf}
use Rattle.rules.specs.Offices.{nameNo, namesOne, wordIf, mapOpen, mapScheme, mapOption}
use Rattle.theorems_offices.proofs.Reading.{same_length, Alike, SameWord, Agree, Tables, end, row, Cases, neither, both}
use Rattle.theorems_offices.proofs.Reading.{
  cases,
  give-agree,
  unused-agree,
  pick-agree,
  then-agree,
  number_at,
  ty-agree,
  bound-agree,
  all-agree,
  unlike,
  head,
  tail,
  plain,
}

-- ══ Reading a scheme, in steps ══

-- a scheme's first record and its type
abbrev formTable : ℕ → List (ℕ × Reader (Scheme ℕ))
formTable n = (0, Reading.◌>>=◌ (readTy 64) (λ t. give (scheme n t []))) ∷ (1, unused (n ∷ []) (Reading.◌>>=◌ (readTy 64) (λ t. give (concrete t)))) ∷ []

abbrev headTable : ℕ → ℕ → ℕ → List (ℕ × Reader (Scheme ℕ))
headTable n b c = (26, unused (c ∷ []) (pick b (formTable n))) ∷ []

-- its bounds
abbrev ends : Scheme ℕ → List (Open ℕ) → Option (Scheme ℕ)
ends (scheme n t os) bs = some (scheme n t bs)
ends (concrete t) [] = some (concrete t)
ends (concrete t) (o ∷ os) = none

abbrev ended : Scheme ℕ × List Rec → Option (Scheme ℕ)
ended r = and_then (read_all readBound (length r.1) r.1) (λ bs. ends r.0 bs)

-- a scheme of m records that says to be n long
abbrev whole : ℕ → ℕ → Option (Scheme ℕ × List Rec) → Option (Scheme ℕ)
whole n m o = ifSo (eqb n m) (and_then o ended)

-- ══ The steps, over two tables ══

module _ (t t' : Table) where
  form-rows : (b n n' : ℕ) → n ≡ n' → Tables t t' (mapScheme (nameNo t)) (mapScheme (nameNo t')) b (formTable n) (formTable n')
  unfolding mapScheme
  form-rows b n n' i =
      row t t' _ _ (λ e. rw i (then-agree t t' (ty-agree t t' 64) (λ u u' j. give-agree t t' _ _ (rw j))))
      (row t t' _ _ (λ e. rw i (unused-agree t t' _ _ (n' ∷ []) (then-agree t t' (ty-agree t t' 64) (λ u u' j. give-agree t t' _ _ (rw j))))) end)

  head_rows : (k b c n n' : ℕ) → SameWord t t' k b n n' → Tables t t' (mapScheme (nameNo t)) (mapScheme (nameNo t')) k (headTable n b c) (headTable n' b c)
  unfolding namesOne any
  head_rows k b c n n' w = row t t' _ _ (λ e. unused-agree t t' _ _ (c ∷ [])
      (pick-agree t t' _ _ b (formTable n) (formTable n') (form-rows b n n' (number_at t t' k b n n' 26 e refl w)))) end

  ends-alike : (s s' : Scheme ℕ) (bs bs' : List (Open ℕ)) → mapScheme (nameNo t) s ≡ mapScheme (nameNo t') s'
      → map (mapOpen (nameNo t)) bs ≡ map (mapOpen (nameNo t')) bs'
      → mapOption (mapScheme (nameNo t)) (ends s bs) ≡ mapOption (mapScheme (nameNo t')) (ends s' bs')
  unfolding mapScheme
  ends-alike (scheme n u os) (scheme n' u' os') bs bs' e f = cc
  ends-alike (scheme n u os) (concrete u') bs bs' e f = cc
  ends-alike (concrete u) (scheme n' u' os') bs bs' e f = cc
  ends-alike (concrete u) (concrete u') [] [] e f = cc
  ends-alike (concrete u) (concrete u') [] (b ∷ bs') e f = cc
  ends-alike (concrete u) (concrete u') (b ∷ bs) [] e f = cc
  ends-alike (concrete u) (concrete u') (b ∷ bs) (b' ∷ bs') e f = refl

  ended-alike : (v v' : Scheme ℕ × List Rec) → mapScheme (nameNo t) v.0 ≡ mapScheme (nameNo t') v'.0 → Alike t t' v.1 v'.1
      → mapOption (mapScheme (nameNo t)) (ended v) ≡ mapOption (mapScheme (nameNo t')) (ended v')
  ended-alike v v' e f = rw (same_length t t' v.1 v'.1 f)
      (go (read_all readBound (length v'.1) v.1) (read_all readBound (length v'.1) v'.1)
      (all-agree t t' readBound (bound-agree t t') (length v'.1) v.1 v'.1 f))
    where
      go : (o o' : Option (List (Open ℕ))) → mapOption (map (mapOpen (nameNo t))) o ≡ mapOption (map (mapOpen (nameNo t'))) o'
          → mapOption (mapScheme (nameNo t)) (and_then o (λ bs. ends v.0 bs)) ≡ mapOption (mapScheme (nameNo t')) (and_then o' (λ bs. ends v'.0 bs))
      go none none h = refl
      go none (some bs') h = cc
      go (some bs) none h = cc
      go (some bs) (some bs') h = ends-alike v.0 v'.0 bs bs' e (cc)

  one-scheme : (k k' n n' b b' c c' : ℕ) (rs rs' : List Rec) → k ≡ k' → b ≡ b' → c ≡ c' → wordIf (namesOne k b) t n ≡ wordIf (namesOne k' b') t' n'
      → Alike t t' rs rs'
      → Agree t t' (mapScheme (nameNo t)) (mapScheme (nameNo t')) (pick k (headTable n b c) rs) (pick k' (headTable n' b' c') rs')
  one-scheme k k' n n' b b' c c' rs rs' ek eb ec w h = rw (← ek, ← eb, ← ec)
      ((pick-agree t t' _ _ k (headTable n b c) (headTable n' b c) (head_rows k b c n n' (rw (← ek, ← eb) at w))).agree rs rs' h)

  whole-alike : (n m : ℕ) {o o' : Option (Scheme ℕ × List Rec)} → Cases t t' (mapScheme (nameNo t)) (mapScheme (nameNo t')) o o'
      → mapOption (mapScheme (nameNo t)) (whole n m o) ≡ mapOption (mapScheme (nameNo t')) (whole n m o')
  whole-alike n m neither = go (eqb n m)
    where
      go : (b : Bool) → mapOption (mapScheme (nameNo t)) (ifSo b none) ≡ mapOption (mapScheme (nameNo t')) (ifSo b none)
      go true = refl
      go false = refl
  whole-alike n m (both v v' i j) = go (eqb n m)
    where
      go : (b : Bool) → mapOption (mapScheme (nameNo t)) (ifSo b (ended v)) ≡ mapOption (mapScheme (nameNo t')) (ifSo b (ended v'))
      go true = ended-alike v v' i j
      go false = refl

  pub scheme-alike : (rs rs' : List Rec) → Alike t t' rs rs' → mapOption (mapScheme (nameNo t)) (schemeOf rs) ≡ mapOption (mapScheme (nameNo t')) (schemeOf rs')
  unfolding schemeOf
  scheme-alike [] [] e = refl
  scheme-alike [] (x ∷ rs') e = absurd (unlike e)
  scheme-alike (x ∷ rs) [] e = absurd (unlike (sym e))
  scheme-alike (rec w n b c ∷ rs) (rec w' n' b' c' ∷ rs') e =
      let x = head e in
      let i : w ≡ w' = plain (ap (λ r. r.0) x) in
      rw (ap lengthIn i, same_length t t' rs rs' (tail e))
      (whole-alike (lengthIn w') (suc (length rs')) (cases t t' _ _ (pick (kindIn w) (headTable n b c) rs) (pick (kindIn w') (headTable n' b' c') rs')
      (one-scheme (kindIn w) (kindIn w') n n' b b' c c' rs rs' (ap kindIn i) (plain (ap (λ r. r.2) x)) (plain (ap (λ r. r.3) x)) (ap (λ r. r.1) x)
      (tail e)).is))
