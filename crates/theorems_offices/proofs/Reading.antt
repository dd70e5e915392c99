-- Lists that read alike are read as trees that are alike once numbers are replaced by names; or neither is read.
use Rattle.std.specs.Prelude.{◌≡◌, Bool, true, false, eqb, length}
use Rattle.std.proofs.Math.Path.{refl, ap}
use Rattle.std.proofs.Common.{sym, ◌∙◌, eqb-true}
use Rattle.std.proofs.Math.Option.{Option, none, some}
use mathlib.Core.List.{List, [], ◌∷◌, map}
use Prim.Native.Nat.{ℕ, zero, suc, ◌+◌}
use Rattle.std.proofs.lemmas.List.{length-map}
use Rattle.rules.specs.Base.{all, any, and_then}
use Rattle.rules.specs.Trees.{Ty}
use Rattle.rules.specs.Names.{Table}
use Rattle.rules.specs.Writing.{Rec, rec, kindIn, lengthIn}
use Rattle.rules.specs.Reading
use Rattle.rules.specs.Reading.{
  Reader,
  pass,
  give,
  unused,
  pick,
  ifSo,
  lasting,
  next,
  factorTable,
  factorKinds,
  readFactors,
  readTys,
  fieldTable,
  fieldKinds,
  readFields,
  typeTable,
  typeKinds,
  readTy,
}
use Rattle.rules.specs.Reading.{
  scalarTable,
  scalarKinds,
  conTable,
  conKinds,
  readCon,
  bindingTable,
  bindingKinds,
  readBinding,
  boundTable,
  boundKinds,
  readBound,
  read_all,
  records,
}
use Rattle.rules.specs.Offices.{
  Word,
  number,
  name,
  Name,
  nameNo,
  namesOne,
  wordIf,
  readBack,
  ReadAlike,
  mapOpen,
  mapFactor,
  mapTy,
  map_tys,
  mapFields,
  mapCon,
  mapBinding,
  mapOption,
}
use Rattle.laws.proofs.Lists.{some≢none}

-- a record with a name in place of its number
abbrev pub Seen : Type 0
Seen = Word × Word × Word × Word

abbrev pub seen : Table → Rec → Seen
seen t (rec w a b c) = (number w, wordIf (namesOne (kindIn w) b) t a, number b, number c)

pub unlike : {x : Seen} {xs : List Seen} → [] ≡ x ∷ xs → ⊥
unlike e = cc

pub tail : {x y : Seen} {xs ys : List Seen} → x ∷ xs ≡ y ∷ ys → xs ≡ ys
tail e = cc

pub head : {x y : Seen} {xs ys : List Seen} → x ∷ xs ≡ y ∷ ys → x ≡ y
head e = cc

pub plain : {m n : ℕ} → number m ≡ number n → m ≡ n
plain e = cc

-- a field alone
abbrev mapField : Table → ℕ × Ty ℕ → Name × Ty Name
mapField t f = (nameNo t f.0, mapTy (nameNo t) f.1)

-- ══ Words as records ══

abbrev before : {A : Type 0} → A → Option (List A) → Option (List A)
before a none = none
before a (some as') = some (a ∷ as')

grouped : List Word → Option (List Seen)
grouped [] = some []
grouped (k ∷ []) = none
grouped (k ∷ a ∷ []) = none
grouped (k ∷ a ∷ b ∷ []) = none
grouped (k ∷ a ∷ b ∷ c ∷ ws) = before (k, a, b, c) (grouped ws)

records-seen : (t : Table) (ws : List ℕ) → mapOption (map (seen t)) (records ws) ≡ grouped (readBack t ws)
unfolding records grouped readBack
records-seen t [] = refl
records-seen t (k ∷ []) = refl
records-seen t (k ∷ a ∷ []) = refl
records-seen t (k ∷ a ∷ b ∷ []) = refl
records-seen t (k ∷ a ∷ b ∷ c ∷ ws) = go (records ws) refl (records-seen t ws)
  where
    go : (o : Option (List Rec)) → records ws ≡ o → mapOption (map (seen t)) (records ws) ≡ grouped (readBack t ws)
        → mapOption (map (seen t)) (records (k ∷ a ∷ b ∷ c ∷ ws)) ≡ before (seen t (rec k a b c)) (grouped (readBack t ws))
    go none e h = rw (← h, records, e)
    go (some rs) e h = rw (← h, records, e)

module _ (t t' : Table) where
  pub records-alike : (ws ws' : List ℕ) → ReadAlike t t' ws ws' → mapOption (map (seen t)) (records ws) ≡ mapOption (map (seen t')) (records ws')
  records-alike ws ws' e = records-seen t ws ∙ ap grouped e.words ∙ sym (records-seen t' ws')

  -- ══ What two readers make of records that are seen alike ══

  abbrev pub Alike : List Rec → List Rec → Type 0
  Alike rs rs' = map (seen t) rs ≡ map (seen t') rs'

  pub same_length : (rs rs' : List Rec) → Alike rs rs' → length rs ≡ length rs'
  same_length rs rs' e = sym (length-map rs (seen t)) ∙ ap length e ∙ length-map rs' (seen t')

  -- two words that hold the same name, or the same number
  abbrev pub SameWord : ℕ → ℕ → ℕ → ℕ → Type 0
  SameWord k b a a' = wordIf (namesOne k b) t a ≡ wordIf (namesOne k b) t' a'

  module _ {A B : Type 0} (g g' : A → B) where
    abbrev told : A × List Rec → B × List Seen
    told v = (g v.0, map (seen t) v.1)

    abbrev told' : A × List Rec → B × List Seen
    told' v = (g' v.0, map (seen t') v.1)

    pub record Agree (x x' : Option (A × List Rec)) : Type 0 where
      pub is : mapOption told x ≡ mapOption told' x'

    pub record Readers (m m' : Reader A) : Type 0 where
      pub agree : (rs rs' : List Rec) → Alike rs rs' → Agree (m rs) (m' rs')

    -- both read nothing, or both read something
    pub data Cases : Option (A × List Rec) → Option (A × List Rec) → Type 0 where
      neither : Cases none none
      both : (v v' : A × List Rec) → g v.0 ≡ g' v'.0 → Alike v.1 v'.1 → Cases (some v) (some v')

    pub cases : (x x' : Option (A × List Rec)) → mapOption told x ≡ mapOption told' x' → Cases x x'
    cases none none e = neither
    cases none (some v) e = absurd (some≢none (sym e))
    cases (some v) none e = absurd (some≢none e)
    cases (some v) (some v') e = both v v' (ap (λ r. r.0) (inside e)) (ap (λ r. r.1) (inside e))
      where
        inside : {a b : B × List Seen} → some a ≡ some b → a ≡ b
        inside e = cc

    pub give-agree : {a a' : A} → g a ≡ g' a' → Readers (give a) (give a')
    give-agree {a} {a'} e = record { agree = λ rs rs' h. record { is = rw (e, h) } }

    pub unused-agree : (ws : List ℕ) {m m' : Reader A} → Readers m m' → Readers (unused ws m) (unused ws m')
    unused-agree ws {m} {m'} r = record { agree = λ rs rs' h. go rs rs' (all (λ w. eqb w 0) ws) refl (r.agree rs rs' h) }
      where
        go : (rs rs' : List Rec) (b : Bool) → all (λ w. eqb w 0) ws ≡ b → Agree (m rs) (m' rs') → Agree (unused ws m rs) (unused ws m' rs')
        go rs rs' true e a = rw (unused, e) a
        go rs rs' false e a = rw (unused, e) (record { is = refl })

    -- tables of kinds, row by row
    pub data Tables (k : ℕ) : List (ℕ × Reader A) → List (ℕ × Reader A) → Type 0 where
      end : Tables k [] []
      more : {j : ℕ} {m m' : Reader A} {xs xs' : List (ℕ × Reader A)} → (k ≡ j → Readers m m') → Tables k xs xs' → Tables k ((j, m) ∷ xs) ((j, m') ∷ xs')

    pub row : {k j : ℕ} {m m' : Reader A} {xs xs' : List (ℕ × Reader A)} → (k ≡ j → Readers m m') → Tables k xs xs' → Tables k ((j, m) ∷ xs) ((j, m') ∷ xs')
    row here there = more here there

    pub pick-agree : (k : ℕ) (xs xs' : List (ℕ × Reader A)) → Tables k xs xs' → Readers (pick k xs) (pick k xs')
    pick-agree k xs xs' end = record { agree = λ rs rs' h. record { is = refl } }
    pick-agree k ys ys' (more {j = j} {m = m} {m' = m'} {xs = xs} {xs' = xs'} here there) = go (eqb k j) refl (pick-agree k xs xs' there)
      where
        go : (b : Bool) → eqb k j ≡ b → Readers (pick k xs) (pick k xs') → Readers (pick k ((j, m) ∷ xs)) (pick k ((j, m') ∷ xs'))
        go true e r = rw (pick, e) (here (eqb-true k j e))
        go false e r = rw (pick, e) r

    one-record : (f : ℕ → ℕ → ℕ → ℕ → Reader A) → ((k a a' b c : ℕ) → SameWord k b a a' → Readers (f k a b c) (f k a' b c))
        → (k k' a a' b b' c c' : ℕ) (rs rs' : List Rec) → k ≡ k' → b ≡ b'
        → c ≡ c' → wordIf (namesOne k b) t a ≡ wordIf (namesOne k' b') t' a' → Alike rs rs' → Agree (f k a b c rs) (f k' a' b' c' rs')
    one-record f s k k' a a' b b' c c' rs rs' ek eb ec w h = rw (← ek, ← eb, ← ec) ((s k a a' b c (rw (← ek, ← eb) at w)).agree rs rs' h)

    -- what was read lasts as long as it says in both, or in neither
    lasting-agree : (n n' m m' : ℕ) (x x' : Option (A × List Rec)) → n ≡ n' → m ≡ m' → Agree x x' → Agree (lasting n m x) (lasting n' m' x')
    lasting-agree n n' m m' x x' en em h = go (cases x x' h.is)
      where
        by : (b : Bool) (v v' : A × List Rec) → g v.0 ≡ g' v'.0 → Alike v.1 v'.1 → Agree (ifSo b (some v)) (ifSo b (some v'))
        by true v v' i f = record { is = rw (i, f) }
        by false v v' i f = record { is = refl }

        go : {x x' : Option (A × List Rec)} → Cases x x' → Agree (lasting n m x) (lasting n' m' x')
        go neither = record { is = refl }
        go (both v v' i f) = rw (en, em, same_length v.1 v'.1 f) (by (eqb (n' + length v'.1) m') v v' i f)

    pub next_agree : (f : ℕ → ℕ → ℕ → ℕ → Reader A) → ((k a a' b c : ℕ) → SameWord k b a a' → Readers (f k a b c) (f k a' b c)) → Readers (next f) (next f)
    next_agree f s = record { agree = go }
      where
        go : (rs rs' : List Rec) → Alike rs rs' → Agree (next f rs) (next f rs')
        go [] [] e = record { is = refl }
        go [] (rec w a b c ∷ rs) e = absurd (unlike e)
        go (rec w a b c ∷ rs) [] e = absurd (unlike (sym e))
        go (rec w a b c ∷ rs) (rec w' a' b' c' ∷ rs') e =
            let x = head e in
            let i : w ≡ w' = plain (ap (λ r. r.0) x) in
            lasting-agree (lengthIn w) (lengthIn w') (suc (length rs)) (suc (length rs')) (f (kindIn w) a b c rs) (f (kindIn w') a' b' c' rs')
            (ap lengthIn i) (ap suc (same_length rs rs' (tail e)))
            (one-record f s (kindIn w) (kindIn w') a a' b b' c c' rs rs' (ap kindIn i) (plain (ap (λ r. r.2) x)) (plain (ap (λ r. r.3) x))
            (ap (λ r. r.1) x) (tail e))

  module _ {A B C D : Type 0} {g g' : A → B} {h h' : C → D} where
    pub then-agree : {m m' : Reader A} {k k' : A → Reader C} → Readers g g' m m' → ((a a' : A) → g a ≡ g' a' → Readers h h' (k a) (k' a'))
        → Readers h h' (Reading.◌>>=◌ m k) (Reading.◌>>=◌ m' k')
    then-agree {m} {m'} {k} {k'} r s = record { agree = λ rs rs' e. go (cases g g' (m rs) (m' rs') (r.agree rs rs' e).is) }
      where
        go : {x x' : Option (A × List Rec)} → Cases g g' x x' → Agree h h' (pass x k) (pass x' k')
        go neither = record { is = refl }
        go (both v v' e f) = (s v.0 v'.0 e).agree v.1 v'.1 f

  -- ══ Trees ══

  pub name-at : (k b a a' j : ℕ) → k ≡ j → namesOne j b ≡ true → SameWord k b a a' → nameNo t a ≡ nameNo t' a'
  name-at k b a a' j e y w = inside (rw (e, y) at w)
    where
      inside : {m n : Name} → name m ≡ name n → m ≡ n
      inside e = cc

  pub number_at : (k b a a' j : ℕ) → k ≡ j → namesOne j b ≡ false → SameWord k b a a' → a ≡ a'
  number_at k b a a' j e y w = plain (rw (e, y) at w)

  factor-rows : (k a a' b c : ℕ) → SameWord k b a a' → Tables (mapFactor (nameNo t)) (mapFactor (nameNo t')) k (factorTable a b c) (factorTable a' b c)
  unfolding namesOne any
  factor-rows k a a' b c w =
      row _ _ (λ e. give-agree _ _ (rw (name-at k b a a' 11 e refl w)))
      (row _ _ (λ e. give-agree _ _ (rw (name-at k b a a' 12 e refl w)))
      (row _ _ (λ e. give-agree _ _ (rw (name-at k b a a' 13 e refl w)))
      (row _ _ (λ e. give-agree _ _ (rw (number_at k b a a' 15 e refl w))) end)))

  factor-agree : Readers (mapFactor (nameNo t)) (mapFactor (nameNo t')) (next factorKinds) (next factorKinds)
  factor-agree = next_agree _ _ factorKinds (λ k a a' b c w. pick-agree _ _ k (factorTable a b c) (factorTable a' b c) (factor-rows k a a' b c w))

  factors-agree : (n : ℕ) → Readers (map (mapFactor (nameNo t))) (map (mapFactor (nameNo t'))) (readFactors n) (readFactors n)
  unfolding readFactors
  factors-agree zero = give-agree _ _ refl
  factors-agree (suc n) = then-agree factor-agree (λ f f' i. then-agree (factors-agree n) (λ p p' j. give-agree _ _ (rw (i, j))))

  module _ (ty : Reader (Ty ℕ)) (reads : Readers (mapTy (nameNo t)) (mapTy (nameNo t')) ty ty) where
    tys-agree : (n : ℕ) → Readers (map_tys (nameNo t)) (map_tys (nameNo t')) (readTys ty n) (readTys ty n)
    unfolding readTys mapTy
    tys-agree zero = give-agree _ _ refl
    tys-agree (suc n) = then-agree reads (λ u u' i. then-agree (tys-agree n) (λ us us' j. give-agree _ _ (rw (i, j))))

    field-rows : (k a a' b c : ℕ) → SameWord k b a a' → Tables (mapField t) (mapField t') k (fieldTable ty a b c) (fieldTable ty a' b c)
    unfolding namesOne any
    field-rows k a a' b c w = row _ _ (λ e. unused-agree _ _ (b ∷ c ∷ [])
        (then-agree reads (λ u u' i. give-agree _ _ (rw (name-at k b a a' 9 e refl w, i))))) end

    field-agree : Readers (mapField t) (mapField t') (next (fieldKinds ty)) (next (fieldKinds ty))
    field-agree = next_agree _ _ (fieldKinds ty) (λ k a a' b c w. pick-agree _ _ k (fieldTable ty a b c) (fieldTable ty a' b c) (field-rows k a a' b c w))

    fields-agree : (n : ℕ) → Readers (mapFields (nameNo t)) (mapFields (nameNo t')) (readFields ty n) (readFields ty n)
    unfolding readFields mapTy
    fields-agree zero = give-agree _ _ refl
    fields-agree (suc n) = then-agree field-agree
        (λ f f' i. then-agree (fields-agree n) (λ us us' l. give-agree _ _ (rw (ap (λ r. r.0) i, ap (λ r. r.1) i, l))))

    type-rows : (k a a' b c : ℕ) → SameWord k b a a' → Tables (mapTy (nameNo t)) (mapTy (nameNo t')) k (typeTable ty a b c) (typeTable ty a' b c)
    unfolding namesOne any mapTy
    type-rows k a a' b c w =
        row _ _ (λ e. unused-agree _ _ (b ∷ c ∷ []) (give-agree _ _ (rw (name-at k b a a' 1 e refl w))))
        (row _ _ (λ e. unused-agree _ _ (b ∷ c ∷ []) (give-agree _ _ (rw (name-at k b a a' 2 e refl w))))
        (row _ _ (λ e. unused-agree _ _ (b ∷ c ∷ []) (give-agree _ _ (rw (number_at k b a a' 14 e refl w))))
        (row _ _ (λ e. unused-agree _ _ (b ∷ c ∷ []) (rw (number_at k b a a' 3 e refl w) (then-agree (factors-agree a') (λ p p' i. give-agree _ _ (rw i)))))
        (row _ _ (λ e. rw (number_at k b a a' 4 e refl w) (unused-agree _ _ (a' ∷ b ∷ c ∷ []) (give-agree _ _ refl)))
        (row _ _ (λ e. rw (number_at k b a a' 5 e refl w) (unused-agree _ _ (a' ∷ b ∷ c ∷ []) (give-agree _ _ refl)))
        (row _ _ (λ e. rw (number_at k b a a' 6 e refl w) (unused-agree _ _ (a' ∷ b ∷ c ∷ []) (give-agree _ _ refl)))
        (row _ _ (λ e. unused-agree _ _ (b ∷ c ∷ [])
        (rw (number_at k b a a' 7 e refl w) (then-agree (tys-agree a') (λ us us' i. then-agree reads (λ u u' j. give-agree _ _ (rw (i, j)))))))
        (row _ _ (λ e. then-agree (tys-agree b) (λ us us' i. then-agree (fields-agree c) (λ fs fs' j. give-agree _ _ (rw (name-at k b a a' 8 e refl w, i, j)))))
        (row _ _ (λ e. rw (number_at k b a a' 10 e refl w) (unused-agree _ _ (a' ∷ b ∷ c ∷ []) (then-agree reads (λ u u' i. give-agree _ _ (rw i)))))
        end)))))))))

    types-agree : Readers (mapTy (nameNo t)) (mapTy (nameNo t')) (next (typeKinds ty)) (next (typeKinds ty))
    types-agree = next_agree _ _ (typeKinds ty) (λ k a a' b c w. pick-agree _ _ k (typeTable ty a b c) (typeTable ty a' b c) (type-rows k a a' b c w))

  pub ty-agree : (d : ℕ) → Readers (mapTy (nameNo t)) (mapTy (nameNo t')) (readTy d) (readTy d)
  unfolding readTy
  ty-agree zero = record { agree = λ rs rs' h. record { is = refl } }
  ty-agree (suc d) = types-agree (readTy d) (ty-agree d)

  scalar-rows : (k a a' b c : ℕ) → SameWord k b a a' → Tables (mapCon (nameNo t)) (mapCon (nameNo t')) k (scalarTable a b c) (scalarTable a' b c)
  unfolding namesOne any mapCon
  scalar-rows k a a' b c w = row _ _ (λ e. unused-agree _ _ (b ∷ c ∷ [])
      (rw (number_at k b a a' 3 e refl w) (then-agree (factors-agree a') (λ p p' i. give-agree _ _ (rw i))))) end

  scalar-agree : Readers (mapCon (nameNo t)) (mapCon (nameNo t')) (next scalarKinds) (next scalarKinds)
  scalar-agree = next_agree _ _ scalarKinds (λ k a a' b c w. pick-agree _ _ k (scalarTable a b c) (scalarTable a' b c) (scalar-rows k a a' b c w))

  con-rows : (k a a' b c : ℕ) → SameWord k b a a' → Tables (mapCon (nameNo t)) (mapCon (nameNo t')) k (conTable (readTy 64) a b c) (conTable (readTy 64) a' b c)
  unfolding namesOne any mapCon
  con-rows k a a' b c w =
      row _ _ (λ e. rw (number_at k b a a' 20 e refl w)
      (unused-agree _ _ (a' ∷ b ∷ c ∷ []) (then-agree (ty-agree 64) (λ u u' i. then-agree (ty-agree 64) (λ v v' j. give-agree _ _ (rw (i, j)))))))
      (row _ _ (λ e. rw (number_at k b a a' 21 e refl w) (unused-agree _ _ (a' ∷ b ∷ c ∷ []) (then-agree (ty-agree 64) (λ u u' i. give-agree _ _ (rw i)))))
      (row _ _ (λ e. rw (number_at k b a a' 22 e refl w) (unused-agree _ _ (a' ∷ b ∷ c ∷ []) scalar-agree))
      (row _ _ (λ e. unused-agree _ _ (b ∷ c ∷ [])
      (then-agree (ty-agree 64) (λ u u' i. then-agree (ty-agree 64) (λ v v' j. give-agree _ _ (rw (name-at k b a a' 23 e refl w, i, j)))))) end)))

  pub con-agree : Readers (mapCon (nameNo t)) (mapCon (nameNo t')) readCon readCon
  unfolding readCon
  con-agree = next_agree _ _ (conKinds (readTy 64))
      (λ k a a' b c w. pick-agree _ _ k (conTable (readTy 64) a b c) (conTable (readTy 64) a' b c) (con-rows k a a' b c w))

  binding-rows : (k a a' b c : ℕ) → SameWord k b a a' → Tables (mapBinding (nameNo t)) (mapBinding (nameNo t')) k (bindingTable a b c) (bindingTable a' b c)
  unfolding namesOne any mapBinding
  binding-rows k a a' b c w =
      row _ _ (λ e. unused-agree _ _ (b ∷ c ∷ []) (then-agree (ty-agree 64) (λ u u' i. give-agree _ _ (rw (name-at k b a a' 24 e refl w, i))))) end

  pub binding-agree : Readers (mapBinding (nameNo t)) (mapBinding (nameNo t')) readBinding readBinding
  unfolding readBinding
  binding-agree = next_agree _ _ bindingKinds (λ k a a' b c w. pick-agree _ _ k (bindingTable a b c) (bindingTable a' b c) (binding-rows k a a' b c w))

  bound-names : (b : ℕ) → b ≡ 0 → namesOne 25 b ≡ true
  unfolding namesOne any
  bound-names b f = rw f

  bound-indexes : (b : ℕ) → b ≡ 1 → namesOne 25 b ≡ false
  unfolding namesOne any
  bound-indexes b f = rw f

  bound-kinds : (k a a' b c : ℕ) → k ≡ 25 → SameWord k b a a' → Tables (mapOpen (nameNo t)) (mapOpen (nameNo t')) b (boundTable a c) (boundTable a' c)
  bound-kinds k a a' b c e w =
      row _ _ (λ f. unused-agree _ _ (c ∷ []) (give-agree _ _ (rw (name-at k b a a' 25 e (bound-names b f) w))))
      (row _ _ (λ f. unused-agree _ _ (c ∷ []) (give-agree _ _ (rw (number_at k b a a' 25 e (bound-indexes b f) w)))) end)

  bound-rows : (k a a' b c : ℕ) → SameWord k b a a'
      → Tables (mapOpen (nameNo t)) (mapOpen (nameNo t')) k ((25, pick b (boundTable a c)) ∷ []) ((25, pick b (boundTable a' c)) ∷ [])
  bound-rows k a a' b c w = row _ _ (λ e. pick-agree _ _ b (boundTable a c) (boundTable a' c) (bound-kinds k a a' b c e w)) end

  pub bound-agree : Readers (mapOpen (nameNo t)) (mapOpen (nameNo t')) readBound readBound
  unfolding readBound
  bound-agree = next_agree _ _ boundKinds
      (λ k a a' b c w. pick-agree _ _ k ((25, pick b (boundTable a c)) ∷ []) ((25, pick b (boundTable a' c)) ∷ []) (bound-rows k a a' b c w))

  -- ══ Whole lists ══

  module _ {A B : Type 0} {g g' : A → B} (r : Reader A) (reads : Readers g g' r r) where
    before-alike : (a a' : A) (o o' : Option (List A)) → g a ≡ g' a' → mapOption (map g) o ≡ mapOption (map g') o'
        → mapOption (map g) (before a o) ≡ mapOption (map g') (before a' o')
    before-alike a a' o o' e h = mapped g a o ∙ ap (before (g a)) h ∙ ap (λ b. before b (mapOption (map g') o')) e ∙ sym (mapped g' a' o')
      where
        mapped : (f : A → B) (a : A) (o : Option (List A)) → mapOption (map f) (before a o) ≡ before (f a) (mapOption (map f) o)
        mapped f a none = refl
        mapped f a (some as') = refl

    read_step : (n : ℕ) (x : Rec) (xs : List Rec) → read_all r (suc n) (x ∷ xs) ≡ and_then (r (x ∷ xs)) (λ v. before v.0 (read_all r n v.1))
    unfolding read_all
    read_step n x xs = go (r (x ∷ xs)) refl
      where
        inner : (v : A × List Rec) (o : Option (List A)) → read_all r n v.1 ≡ o
            → elim (read_all r n v.1) [ none ↦ none | some vs ↦ some (v.0 ∷ vs) ] ≡ before v.0 (read_all r n v.1)
        inner v none e = rw e
        inner v (some vs) e = rw e

        go : (o : Option (A × List Rec)) → r (x ∷ xs) ≡ o → read_all r (suc n) (x ∷ xs) ≡ and_then (r (x ∷ xs)) (λ v. before v.0 (read_all r n v.1))
        go none e = rw (read_all, e)
        go (some v) e = rw (read_all, e) (inner v (read_all r n v.1) refl)

    pub all-agree : (n : ℕ) (rs rs' : List Rec) → Alike rs rs' → mapOption (map g) (read_all r n rs) ≡ mapOption (map g') (read_all r n rs')
    unfolding read_all
    all-agree zero [] [] e = refl
    all-agree zero [] (x ∷ rs) e = absurd (unlike e)
    all-agree zero (x ∷ rs) [] e = absurd (unlike (sym e))
    all-agree zero (x ∷ rs) (y ∷ rs') e = refl
    all-agree (suc n) [] [] e = refl
    all-agree (suc n) [] (x ∷ rs) e = absurd (unlike e)
    all-agree (suc n) (x ∷ rs) [] e = absurd (unlike (sym e))
    all-agree (suc n) (x ∷ rs) (y ∷ rs') e = rw (read_step n x rs, read_step n y rs')
        (go (cases g g' (r (x ∷ rs)) (r (y ∷ rs')) (reads.agree (x ∷ rs) (y ∷ rs') e).is) (all-agree n))
      where
        go : {o o' : Option (A × List Rec)} → Cases g g' o o'
            → ((rs rs' : List Rec) → Alike rs rs' → mapOption (map g) (read_all r n rs) ≡ mapOption (map g') (read_all r n rs'))
            → mapOption (map g) (and_then o (λ v. before v.0 (read_all r n v.1))) ≡ mapOption (map g') (and_then o' (λ v. before v.0 (read_all r n v.1)))
        go neither h = refl
        go (both v v' i j) h = before-alike v.0 v'.0 (read_all r n v.1) (read_all r n v'.1) i (h v.1 v'.1 j)
