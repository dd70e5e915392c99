-- The whole call: its checks, then what adding does.
use Rattle.std.specs.Prelude.{◌≡◌, Bool, List, [], ◌∷◌, ℕ, zero, suc, ◌+◌, ◌*◌, ◌/◌, ◌%◌, ◌≤◌, ◌<◌, ltb, leb, take, get_or}
use Rattle.std.proofs.Math.Path.{refl, sym}
use Rattle.std.proofs.Common.{◌∙◌, arith, get_or-take}
use Rattle.std.proofs.Math.Bool.{true, false}
use borrow.Author.Tests.{ltb-true, ltb-false, leb-true, eqb-true, eqb-false}
use Rattle.std.proofs.Math.Dec.{eqb}
use Rattle.std.proofs.Math.ListN.{length}
use Rattle.std.proofs.Math.Seq.{length-take-le}
use Rattle.rules.specs.Adding.{Added, add}
use Rattle.rules.specs.Base.{Got, got, refused, ◌>>=◌, ◌>>◌, need, all, sum_of}
use Rattle.rules.specs.Calls.{shortLists, tableKept, setGiven, bufferAfter, addedTo, addCall}
use Rattle.rules.specs.Names.{table_of}
use Rattle.rules.specs.Reading.{readCon}
use Rattle.rules.specs.Trees.{Con, sizeCon}
use Rattle.laws.proofs.Checks.{need-passed, first-passed, next-passed}
use Rattle.laws.specs.Lists.{and_left}
use Rattle.laws.proofs.Lists.{clash}
use Rattle.records.specs.Found.{Words32}
use Rattle.records.proofs.Given.{list-broken, con-reader, one-is}
use Rattle.records.specs.Good.{Chain, GoodCon, goodCon, numbers}
use Rattle.records.proofs.Whole.{set_is}
use Rattle.solve_add.specs.Entry.{passing, lentBuffer, oneGiven, checks}
use Rattle.solve_add.proofs.Checked.{room}
use Rattle.solve_add.specs.Stored.{Ready, addedWith}

-- ══ A part of the words ══

past-take : (n : ℕ) (l : List ℕ) (i : ℕ) → n ≤ i → get_or (take n l) i 0 ≡ 0
past-take zero l i h = refl
past-take (suc n) [] i h = refl
past-take (suc n) (x ∷ l) zero h = absurd (omega arith)
past-take (suc n) (x ∷ l) (suc i) h = past-take n l i (omega arith)

part-words : (n : ℕ) (l : List ℕ) → Words32 l → Words32 (take n l)
part-words n l w = record { word = λ i. go i (ltb i n) refl }
  where
    go : (i : ℕ) (b : Bool) → ltb i n ≡ b → get_or (take n l) i 0 < 4_294_967_296
    go i true e = rw (get_or-take n l i 0 (ltb-true i n e)) (w.word i)
    go i false e = rw (past-take n l i (ltb-false i n e)) (omega arith)

-- ══ A row of checks, and what comes after ══

module _ {A B C : Type 0} (l s k : Got (Unit {0})) (m : Got A) (o : Got B) (f : A → B → Got C) where
  abbrev row : Got B
  row = l >> (s >> (k >> (passing m >> o)))

  abbrev all' : Got C
  all' = l >>= λ _. s >>= λ _. k >>= λ _. m >>= λ a. o >>= λ b. f a b

  record Met (b : B) : Type 0 where
    pub first : A
    pub lent : l ≡ got tt
    pub short : s ≡ got tt
    pub one : m ≡ got first
    pub two : o ≡ got b
    pub is : all' ≡ f first b

stops : {A B C : Type 0} (l s k : Got (Unit {0})) (m : Got A) (o : Got B) (f : A → B → Got C) (n : ℕ) → row l s k m o f ≡ refused n
    → all' l s k m o f ≡ refused n
stops (got u) (got v) (got w) (got a) (got b) f n e = clash (sym e)
stops (got u) (got v) (got w) (got a) (refused j) f n e = cc
stops (got u) (got v) (got w) (refused j) o f n e = cc
stops (got u) (got v) (refused j) m o f n e = cc
stops (got u) (refused j) k m o f n e = cc
stops (refused j) s k m o f n e = cc

met : {A B C : Type 0} (l s k : Got (Unit {0})) (m : Got A) (o : Got B) (f : A → B → Got C) (b : B) → row l s k m o f ≡ got b → Met l s k m o f b
met (got u) (got v) (got w) (got a) o f b e = record { first = a; lent = refl; short = refl; one = refl; two = e; is = rw e }
met (got u) (got v) (got w) (refused j) o f b e = clash e
met (got u) (got v) (refused j) m o f b e = clash e
met (got u) (refused j) k m o f b e = clash e
met (refused j) s k m o f b e = clash e

-- ══ The call ══

module _ (pool table : List ℕ) where
  -- a set has as many records as its constraints
  chain-sum : (s : List ℕ) (n : ℕ) (cs : List (Con ℕ)) (at : ℕ) → Chain (GoodCon pool table 0 s) n cs at → at + sum_of sizeCon cs ≡ n
  chain-sum s n [] at h = omega arith
  chain-sum s n (c ∷ cs) at h = omega (arith, h.1.0.past, chain-sum s n cs h.0 h.1.1)

  module _ (con : List ℕ) (w : Words32 con) (c : Con ℕ) (e : oneGiven pool table con ≡ got c) where
    one-held : GoodCon pool table 0 con 0 c (length con / 4)
    unfolding setGiven
    one-held = one-is con readCon (goodCon pool table 0) (GoodCon pool table 0 con) (con-reader pool table con w) c e

    one-whole : length con % 4 ≡ 0
    unfolding setGiven
    one-whole = go (eqb (length con % 4) 0) refl
      where
        go : (b : Bool) → eqb (length con % 4) 0 ≡ b → length con % 4 ≡ 0
        go true q = eqb-true (length con % 4) 0 q
        go false q = clash {n = 1} (sym (rw
            (list-broken con readCon (goodCon pool table 0) (GoodCon pool table 0 con) (con-reader pool table con w)
            (eqb-false (length con % 4) 0 q))) ∙ e)

  module _ (buffer : List ℕ) (count : ℕ) (con : List ℕ) where
    abbrev made : List (Con ℕ) → Con ℕ → Got (Added × ℕ)
    made cs c = add (numbers pool table) cs c >>= λ r. got (r.0, sum_of sizeCon r.1)

    lists-short : (need (leb count 2048) 8 >> shortLists (con ∷ [])) ≡ got tt → (count ≤ 2048) × (length con ≤ 8192)
    unfolding shortLists all
    lists-short e = (
      leb-true count 2048 (need-passed (leb count 2048) 8 (first-passed (shortLists (con ∷ [])) tt (need (leb count 2048) 8) e)),
      leb-true (length con) 8192 (and_left (leb (length con) 8192) true (need-passed _ 8 (next-passed (shortLists (con ∷ [])) tt (need (leb count 2048) 8) e))),
    )

    module _ (c : Con ℕ) (e : checks pool table buffer count con ≡ got c) where
      checks-met : Met (lentBuffer pool table buffer) (need (leb count 2048) 8 >> shortLists (con ∷ [])) (tableKept (table_of pool table))
          (setGiven (table_of pool table) (take (count * 4) buffer)) (oneGiven pool table con) made c
      unfolding checks
      checks-met = met (lentBuffer pool table buffer) (need (leb count 2048) 8 >> shortLists (con ∷ [])) (tableKept (table_of pool table))
          (setGiven (table_of pool table) (take (count * 4) buffer)) (oneGiven pool table con) made c e

      -- the set that was given
      pub given : List (Con ℕ)
      given = checks-met.first

      pub ready : Words32 buffer → Words32 con → Ready buffer count con given c
      unfolding given
      ready v w =
          let x = checks-met in
          let (few, short) = lists-short x.short in
          let long = room pool table buffer x.lent in
          let n : length (take (count * 4) buffer) ≡ count * 4 = length-take-le (count * 4) buffer (omega arith) in
          let t = chain-sum (take (count * 4) buffer) (length (take (count * 4) buffer) / 4) x.first 0
          (set_is pool table (take (count * 4) buffer) (part-words (count * 4) buffer v) x.first x.one) in
          let g = one-held con w c x.two in
          record {
            few = few;
            room = long;
            many = omega (arith, t, n);
            whole = omega (arith, g.past, one-whole con w c x.two);
            short = short;
          }

      pub called : addedWith (numbers pool table) buffer count con given c ≡ addCall pool table buffer count con
      unfolding addCall addedTo given checks-met
      called = sym (rw checks-met.is refl)

    pub refusing : (n : ℕ) → refused n ≡ checks pool table buffer count con
        → record { answer = refused n; buffer = buffer } ≡ addCall pool table buffer count con
    unfolding addCall addedTo bufferAfter checks
    refusing n e = sym (rw (stops (lentBuffer pool table buffer) (need (leb count 2048) 8 >> shortLists (con ∷ [])) (tableKept (table_of pool table))
        (setGiven (table_of pool table) (take (count * 4) buffer)) (oneGiven pool table con) made n (sym e)) refl)
