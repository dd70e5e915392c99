-- A row of checks: lists that are short, the table, a first list, bounds, handed numbers, and what is asked of the first; and then what is made.
use Rattle.std.specs.Prelude.{Result, Err, ◌≡◌, refl, Bool, true, false, ◌&&◌, List, [], ◌∷◌, ℕ, ◌≤◌, ◌<◌, leb, length}
use Rattle.std.proofs.Common.{sym, ap, ◌∙◌, le-leb}
use Rattle.std.proofs.lemmas.Bool.{lt-leb}
use Rattle.rules.specs.Base.{Got, got, refused, ◌>>=◌, ◌>>◌, need, all}
use Rattle.rules.specs.Calls.{shortLists, shortNumbers}
use Rattle.rules.specs.Refusals.{number_of}
use Rattle.rules.specs.Writing.{Rec}
use Rattle.rules.specs.declared.Refusal.{Refusal}
use Rattle.laws.proofs.Checks.{first-passed, next-passed, list-short}
use Rattle.records_buffers.proofs.Handed.{made-refused, made-as}
use Rattle.records_buffers.specs.Told.{Made}
use Rattle.schemes.specs.Entry.{short}

-- all of a call
pub record IsRow {A B C : Type 0} (f : A → Got (Unit {0})) (g : A → B → Got C) (ws bounds numbers : List ℕ) (k : Got (Unit {0}))
    (m : Got A) (b : Got B) (n : Got (Unit {0})) (all : Got C) : Type 0 where
  pub is : all ≡ (short ws bounds numbers >> (k >> (m >>= λ a. b >>= λ c. n >> (f a >> g a c))))

-- ══ Lists that are short ══

-- two lists, where each is
two-short : (a b : Bool) → need (a && (b && true)) 8 ≡ (need (a && true) 8 >> need (b && true) 8)
two-short true true = refl
two-short true false = refl
two-short false b = refl

module _ (ws bounds numbers : List ℕ) where
  each-short : short ws bounds numbers ≡ ((shortLists (ws ∷ []) >> shortLists (bounds ∷ [])) >> shortNumbers numbers)
  unfolding shortLists all
  each-short = ap (λ (l : Got (Unit {0})). l >> shortNumbers numbers) (two-short (leb (length ws) 8192) (leb (length bounds) 8192))

  pub words-long : {k : ℕ} → refused k ≡ shortLists (ws ∷ []) → refused k ≡ short ws bounds numbers
  words-long h = sym (rw (each-short, ← h))

  module _ (w : got tt ≡ shortLists (ws ∷ [])) where
    pub bounds-long : {k : ℕ} → refused k ≡ shortLists (bounds ∷ []) → refused k ≡ short ws bounds numbers
    bounds-long h = sym (rw (each-short, ← w, ← h))

    module _ (b : got tt ≡ shortLists (bounds ∷ [])) where
      pub numbers-long : 2048 < length numbers → refused 8 ≡ short ws bounds numbers
      unfolding shortNumbers
      numbers-long h = sym (rw (each-short, ← w, ← b, lt-leb (length numbers) 2048 h))

      pub all_short : length numbers ≤ 2048 → got tt ≡ short ws bounds numbers
      unfolding shortNumbers
      all_short h = sym (rw (each-short, ← w, ← b, le-leb (length numbers) 2048 h))

  module _ (e : got tt ≡ short ws bounds numbers) where
    both : (shortLists (ws ∷ []) >> shortLists (bounds ∷ [])) ≡ got tt
    both = first-passed (shortNumbers numbers) tt (shortLists (ws ∷ []) >> shortLists (bounds ∷ [])) (sym (e ∙ each-short))

    words-alone : shortLists (ws ∷ []) ≡ got tt
    words-alone = first-passed (shortLists (bounds ∷ [])) tt (shortLists (ws ∷ [])) both

    pub words-short : length ws ≤ 8192
    words-short = list-short ws words-alone

    numbers-few : shortNumbers numbers ≡ got tt
    numbers-few = next-passed (shortNumbers numbers) tt (shortLists (ws ∷ []) >> shortLists (bounds ∷ [])) (sym (e ∙ each-short))

    -- so a list by itself is what it holds
    module _ {A : Type 0} (m : Got A) where
      pub first-alone : {r : Got A} → r ≡ (shortLists (ws ∷ []) >> m) → m ≡ r
      first-alone i = sym (i ∙ rw words-alone)

      pub bounds-alone : {r : Got A} → r ≡ (shortLists (bounds ∷ []) >> m) → m ≡ r
      bounds-alone i = sym (i ∙ rw (next-passed (shortLists (bounds ∷ [])) tt (shortLists (ws ∷ [])) both))

      numbers-alone : {r : Got A} → r ≡ (shortNumbers numbers >> m) → m ≡ r
      numbers-alone i = sym (i ∙ rw numbers-few)

-- where a call has no bounds, or no numbers
pub no-bounds : {A : Type 0} → ◌≡◌ {A = Got (List A)} (got []) (shortLists ([] ∷ []) >> got [])
unfolding shortLists all
no-bounds = refl

pub no-numbers : got tt ≡ (shortNumbers {A = ℕ} [] >> got (tt {0}))
unfolding shortNumbers
no-numbers = refl

-- ══ What is made ══

module _ {A B : Type 0} {f : A → Got (Unit {0})} {g : A → B → Got (List Rec)} {k n : Got (Unit {0})} {m : Got A} {b : Got B} {all : Got (List Rec)}
    {ws bounds numbers : List ℕ} (r : IsRow f g ws bounds numbers k m b n all) (e : got tt ≡ short ws bounds numbers) (h : k ≡ got tt) where
  -- the first of them that is refused, as each list tells it
  pub first-refused : {w : List ℕ} (why : Refusal) → refused (number_of why) ≡ (shortLists (ws ∷ []) >> m) → Made all w (Err why)
  first-refused why i = made-refused why (r.is ∙ rw (sym e, h, first-alone ws bounds numbers e m i))

  module _ {a : A} (i : got a ≡ (shortLists (ws ∷ []) >> m)) where
    pub bounds-refused : {w : List ℕ} (why : Refusal) → refused (number_of why) ≡ (shortLists (bounds ∷ []) >> b) → Made all w (Err why)
    bounds-refused why l = made-refused why (r.is ∙ rw (sym e, h, first-alone ws bounds numbers e m i, bounds-alone ws bounds numbers e b l))

    module _ {c : B} (l : got c ≡ (shortLists (bounds ∷ []) >> b)) where
      past-bounds : all ≡ (n >> (f a >> g a c))
      past-bounds = r.is ∙ rw (sym e, h, first-alone ws bounds numbers e m i, bounds-alone ws bounds numbers e b l)

      pub numbers-refused : {w : List ℕ} (why : Refusal) → refused (number_of why) ≡ (shortNumbers numbers >> n) → Made all w (Err why)
      numbers-refused why o = made-refused why (past-bounds ∙ rw (numbers-alone ws bounds numbers e n o))

      module _ (o : got tt ≡ (shortNumbers numbers >> n)) where
        pub mixed-refused : {w : List ℕ} (why : Refusal) → f a ≡ refused (number_of why) → Made all w (Err why)
        mixed-refused why p = made-refused why (past-bounds ∙ rw (numbers-alone ws bounds numbers e n o, p))

        -- where none is, what is made
        pub met : f a ≡ got tt → {w : List ℕ} {x : Result ℕ Refusal} → Made (g a c) w x → Made all w x
        met p q = made-as (past-bounds ∙ rw (numbers-alone ws bounds numbers e n o, p)) q
