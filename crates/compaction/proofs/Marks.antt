-- Marks at the names that occur, and what is done by them: record by record.
use Rattle.std.specs.Prelude.{
  ◌≡◌,
  refl,
  Bool,
  true,
  false,
  ◌&&◌,
  ◌||◌,
  List,
  [],
  ◌∷◌,
  ◌++◌,
  ℕ,
  zero,
  suc,
  ◌+◌,
  ◌-◌,
  ◌≤◌,
  ◌<◌,
  eqb,
  ltb,
  length,
  take,
  drop,
  get_or,
  set,
}
use Rattle.std.proofs.Common.{
  sym,
  ap,
  ap₂,
  ◌∙◌,
  append_assoc,
  arith,
  lt-ltb,
  le-ltb,
  eqb-true,
  add-zero,
  zero-add,
  suc-add,
  add-one,
  length-set,
  length-drop,
  take-append-drop,
  get_or-set_same,
  get_or-set_other,
  drop-cons,
  drop-set-lt,
  take-add,
}
use Rattle.std.proofs.Math.Bool.{or-true, or-false}
use Rattle.std.proofs.lemmas.Bool.{eqb-false}
use Rattle.std.proofs.Math.Numerals.{add-two, add-three}
use Rattle.std.proofs.Math.ListN.{get_or-eq_default}
use Rattle.std.proofs.lemmas.List.{take-set-le, drop-set-add}
use Rattle.rules.specs.Offices.{namesOne}
use Rattle.rules.specs.Writing.{kindIn}
use Rattle.compaction.specs.Told.{marks, Noted, Numbered}
use Rattle.rules.specs.Base.{oneIf}
use Rattle.rules.specs.Compaction.{occurs, keeps, newNumber, renumberIf, renumbered}

-- ══ The next record ══

pub next-four : (s : List ℕ) (j : ℕ) → 4 ≤ length s - j
    → drop j s ≡ get_or s j 0 ∷ get_or s (j + 1) 0 ∷ get_or s (j + 2) 0 ∷ get_or s (j + 3) 0 ∷ drop (j + 4) s
next-four s j h =
    let e : j + 4 ≡ suc (suc (suc (suc j))) = omega arith in
    rw (add-one j, add-two j, add-three j, e)
    (drop-cons s j 0 (omega arith)
    ∙ ap (λ (t : List ℕ). get_or s j 0 ∷ t) (drop-cons s (suc j) 0 (omega arith)
    ∙ ap (λ (t : List ℕ). get_or s (suc j) 0 ∷ t) (drop-cons s (suc (suc j)) 0 (omega arith)
    ∙ ap (λ (t : List ℕ). get_or s (suc (suc j)) 0 ∷ t) (drop-cons s (suc (suc (suc j))) 0 (omega arith)))))

-- ══ Marking ══

spread : (x t y o : Bool) → ((x || (t && y)) || (t && o)) ≡ (x || (t && (y || o)))
spread true t y o = refl
spread false true y o = refl
spread false false y o = refl

none_here : (x t : Bool) → (x || (t && false)) ≡ x
none_here true t = refl
none_here false true = refl
none_here false false = refl

module _ (m : List Bool) (n : ℕ) where
  pub note-none : (a : ℕ) → Noted m m n false a
  note-none a = record { long = refl; is = λ i. sym (none_here (marks m i) (ltb i n)) }

  pub note-past : (a : ℕ) → n ≤ a → Noted m m n true a
  note-past a h = record { long = refl; is = λ i. go i (eqb a i) refl }
    where
      go : (i : ℕ) (b : Bool) → eqb a i ≡ b → marks m i ≡ (marks m i || (ltb i n && (true && eqb a i)))
      go i true e = rw (e, le-ltb i n (omega (arith, eqb-true a i e))) (sym (or-false (marks m i)))
      go i false e = rw e (sym (none_here (marks m i) (ltb i n)))

  pub note-put : (a : ℕ) → a < n → a < length m → Noted m (set m a true) n true a
  note-put a h k = record { long = length-set m a true; is = λ i. go i (eqb a i) refl }
    where
      go : (i : ℕ) (b : Bool) → eqb a i ≡ b → marks (set m a true) i ≡ (marks m i || (ltb i n && (true && eqb a i)))
      go i true e =
          let q : a ≡ i = eqb-true a i e in
          rw (e, lt-ltb i n (omega arith))
          (ap (λ (z : ℕ). get_or (set m a true) z false) (sym q) ∙ get_or-set_same m a true false k ∙ sym (or-true (marks m i)))
      go i false e = rw e (get_or-set_other m a i true false (λ q. eqb-false a i e (sym q)) ∙ sym (none_here (marks m i) (ltb i n)))

pub mark-step : (s : List ℕ) (n j : ℕ) (m m' : List Bool) → 4 ≤ length s - j → (named : Bool)
    → named ≡ namesOne (kindIn (get_or s j 0)) (get_or s (j + 2) 0) → Noted m m' n named (get_or s (j + 1) 0)
    → (i : ℕ) → (marks m' i || keeps n (drop (j + 4) s) i) ≡ (marks m i || keeps n (drop j s) i)
unfolding keeps occurs
mark-step s n j m m' h named e r i =
    ap (λ (b : Bool). b || (ltb i n && occurs (drop (j + 4) s) i)) (r.is i)
    ∙ spread (marks m i) (ltb i n) (named && eqb (get_or s (j + 1) 0) i) (occurs (drop (j + 4) s) i)
    ∙ ap (λ (b : Bool). marks m i || (ltb i n && ((b && eqb (get_or s (j + 1) 0) i) || occurs (drop (j + 4) s) i))) e
    ∙ sym (ap (λ (ws : List ℕ). marks m i || (ltb i n && occurs ws i)) (next-four s j h))

occurs-short : (ws : List ℕ) (i : ℕ) → length ws < 4 → occurs ws i ≡ false
unfolding occurs
occurs-short [] i h = refl
occurs-short (w ∷ []) i h = refl
occurs-short (w ∷ a ∷ []) i h = refl
occurs-short (w ∷ a ∷ b ∷ []) i h = refl
occurs-short (w ∷ a ∷ b ∷ c ∷ ws) i h = absurd (omega arith)

pub mark-end : (s : List ℕ) (n j : ℕ) (m : List Bool) → length s - j < 4 → (i : ℕ) → (marks m i || keeps n (drop j s) i) ≡ marks m i
unfolding keeps
mark-end s n j m h i = ap (λ (b : Bool). marks m i || (ltb i n && b)) (occurs-short (drop j s) i (omega (arith, length-drop j s)))
    ∙ none_here (marks m i) (ltb i n)

-- ══ New numbers ══

pub number-next : (p : ℕ → Bool) (i : ℕ) → newNumber p (i + 1) ≡ newNumber p i + oneIf (p i)
unfolding newNumber
number-next p i = rw (add-one i)

number-still : (m : List Bool) (i d : ℕ) → length m ≤ i → newNumber (marks m) (d + i) ≡ newNumber (marks m) i
unfolding newNumber
number-still m i zero h = rw (zero-add i)
number-still m i (suc d) h = rw (suc-add d i, get_or-eq_default m false {n = d + i} (omega arith), number-still m i d h) (add-zero (newNumber (marks m) i))

pub number_past : (m : List Bool) (i a : ℕ) → length m ≤ i → i ≤ a → newNumber (marks m) i ≡ newNumber (marks m) a
number_past m i a h l = let e : a ≡ (a - i) + i = omega arith in sym (ap (newNumber (marks m)) e ∙ number-still m i (a - i) h)

pub renumber-step : (p : ℕ → Bool) (s : List ℕ) (j v : ℕ) → 4 ≤ length s - j
    → v ≡ renumberIf (namesOne (kindIn (get_or s j 0)) (get_or s (j + 2) 0)) p (get_or s (j + 1) 0)
    → take (j + 4) (set s (j + 1) v) ++ renumbered p (drop (j + 4) (set s (j + 1) v)) ≡ take j s ++ renumbered p (drop j s)
unfolding renumbered
renumber-step p s j v h e =
    let s' = set s (j + 1) v in
    let four : drop j s' ≡ get_or s j 0 ∷ v ∷ get_or s (j + 2) 0 ∷ get_or s (j + 3) 0 ∷ drop (j + 4) s = drop-set-add j s 1 v
    ∙ ap (λ (t : List ℕ). set t 1 v) (next-four s j h) in
    let front : take (j + 4) s' ≡ take j s ++ (get_or s j 0 ∷ v ∷ get_or s (j + 2) 0 ∷ get_or s (j + 3) 0 ∷ []) =
    take-add j 4 s' ∙ ap₂ (λ (a b : List ℕ). a ++ b) (take-set-le j s (j + 1) v (omega arith)) (ap (take 4) four) in
    ap₂ (λ (a b : List ℕ). a ++ renumbered p b) front (drop-set-lt (j + 4) s (j + 1) v (omega arith))
    ∙ append_assoc (take j s) (get_or s j 0 ∷ v ∷ get_or s (j + 2) 0 ∷ get_or s (j + 3) 0 ∷ []) (renumbered p (drop (j + 4) s))
    ∙ ap (λ (a : ℕ). take j s ++ (get_or s j 0 ∷ a ∷ get_or s (j + 2) 0 ∷ get_or s (j + 3) 0 ∷ renumbered p (drop (j + 4) s))) e
    ∙ sym (ap (λ (t : List ℕ). take j s ++ renumbered p t) (next-four s j h))

renumbered-short : (p : ℕ → Bool) (ws : List ℕ) → length ws < 4 → renumbered p ws ≡ ws
unfolding renumbered
renumbered-short p [] h = refl
renumbered-short p (w ∷ []) h = refl
renumbered-short p (w ∷ a ∷ []) h = refl
renumbered-short p (w ∷ a ∷ b ∷ []) h = refl
renumbered-short p (w ∷ a ∷ b ∷ c ∷ ws) h = absurd (omega arith)

pub renumber-end : (p : ℕ → Bool) (s : List ℕ) (j : ℕ) → length s - j < 4 → take j s ++ renumbered p (drop j s) ≡ s
renumber-end p s j h = ap (take j s ++◌) (renumbered-short p (drop j s) (omega (arith, length-drop j s))) ∙ take-append-drop j s

pub number-none : (p : ℕ → Bool) → 0 ≡ newNumber p 0
unfolding newNumber
number-none p = refl

lt_of : (i n : ℕ) → i < n + 1 → (i ≡ n → ⊥) → i < n
lt_of i n l y = omega arith

pub numbered-none : (p : ℕ → Bool) (to : List ℕ) → length to ≡ 256 → Numbered p to 0
numbered-none p to h = record { long = h; is = λ i l. absurd (omega arith) }

pub numbered_more : (p : ℕ → Bool) (to : List ℕ) (n k v : ℕ) → k ≡ n → n < 256 → Numbered p to n → v ≡ newNumber p n → Numbered p (set to k v) (n + 1)
numbered_more p to n k v q h d e = record { long = length-set to k v ∙ d.long; is = λ i l. go i l (eqb i n) refl }
  where
    go : (i : ℕ) → i < n + 1 → (b : Bool) → eqb i n ≡ b → get_or (set to k v) i 0 ≡ newNumber p i
    go i l true z = let y : i ≡ n = eqb-true i n z in rw (q, y) (get_or-set_same to n v 0 (omega (arith, d.long)) ∙ e)
    go i l false z = rw q (get_or-set_other to n i v 0 (eqb-false i n z) ∙ d.is i (let y = eqb-false i n z in lt_of i n l y))

pub numbered-all : (p : ℕ → Bool) (to : List ℕ) (n : ℕ) → 256 ≤ n → Numbered p to n → Numbered p to 256
numbered-all p to n h d = record { long = d.long; is = λ i l. d.is i (omega arith) }
