-- What was made, handed over: its records in the result buffer, and the work buffer all zero.
use Rattle.std.specs.Prelude.{Result, Ok, Err, ◌≡◌, refl, List, ◌++◌, ℕ, ◌+◌, ◌*◌, ◌≤◌, length, take, drop, replicate}
use Rattle.std.proofs.Common.{sym, ap, subst, ◌∙◌, zero-add, arith, take_at}
use Rattle.std.proofs.lemmas.List.Edits.{sets, sets-eq}
use Rattle.std.proofs.Math.Seq.{slice, length-sets}
use Rattle.rules.specs.Base.{Got, got, refused, ◌>>=◌}
use Rattle.rules.specs.Calls.{over, resultAfter, writing, workAfter}
use Rattle.rules.specs.Refusals.{number_of}
use Rattle.rules.specs.Writing.{Rec, words}
use Rattle.rules.specs.declared.Refusal.{Refusal}
use Rattle.laws.proofs.Lists.{clash, refused-before}
use Rattle.laws.proofs.Size.{words-length}
use Rattle.records_buffers.specs.Told.{writtenAs, handed, Front, Made}

counted : (m : Got (List Rec)) (n : ℕ) → got n ≡ (m >>= λ rs. got (length rs)) → (rs : List Rec) × ((m ≡ got rs) × (n ≡ length rs))
counted (got rs) n e = let z : n ≡ length rs = cc in (rs, (refl, z))
counted (refused k) n e = clash (sym e)

-- made: a refusal
pub made-refused : {m : Got (List Rec)} {w : List ℕ} (k : Refusal) → m ≡ refused (number_of k) → Made m w (Err k)
made-refused k e = record { answer = sym (rw e); front = λ rs i. clash (sym e ∙ i) }

pub made-as : {m k : Got (List Rec)} {w : List ℕ} {r : Result ℕ Refusal} → m ≡ k → Made k w r → Made m w r
made-as {w = w} {r = r} e h = subst (λ (x : Got (List Rec)). Made x w r) (sym e) h

-- made: these records, written from the start
pub made-records : (m : Got (List Rec)) (rs : List Rec) (d d' : List ℕ) (n : ℕ) → m ≡ got rs → 16384 ≤ length d → d' ≡ sets d 0 (words rs)
    → n ≡ length rs → n ≤ 2048 → Made m d' (Ok n)
made-records m rs d d' n i room e q le =
    let k = words-length rs in
    let z : d' ≡ words rs ++ drop (0 + length (words rs)) d = e ∙ sets-eq (words rs) d 0 (omega arith) in
    let f : Front rs d' = record {
      few = omega (arith, q);
      room = omega (arith, ap length e ∙ length-sets d 0 (words rs));
      there = ap (take (length rs * 4)) z ∙ take_at (words rs) (drop (0 + length (words rs)) d) (length rs * 4) k;
    } in
    record { answer = rw (i, q); front = λ ss h. let same : rs ≡ ss = let z : got rs ≡ got ss = sym i ∙ h in cc in rw (sym same) f }

-- the records that stand at the front
module _ (m : Got (List Rec)) (w : List ℕ) where
  pub record Stood (n : ℕ) : Type 0 where
    pub records : List Rec
    pub is : m ≡ got records
    pub many : n ≡ length records
    pub front : Front records w

  pub stood : {r : Result ℕ Refusal} (n : ℕ) → r ≡ Ok n → Made m w r → Stood n
  stood n i h =
      let x = subst (λ (a : Result ℕ Refusal). Made m w a) i h in
      let (rs, (e, q)) = counted m n x.answer in
      record { records = rs; is = e; many = q; front = x.front rs e }

  module _ (result : List ℕ) where
    put : (n : ℕ) (rs : List Rec) (d' z : List ℕ) → m ≡ got rs → n ≡ length rs → d' ≡ words rs ++ drop (length (words rs)) result
        → z ≡ replicate (length w) 0 → writtenAs (Ok n) d' z ≡ handed m result w
    unfolding resultAfter over
    put n rs d' z e q y k = rw (e, q, y, k)

    pub copied : {r : Result ℕ Refusal} (n : ℕ) (d' z : List ℕ) → r ≡ Ok n → Made m w r → 8192 ≤ length result
        → d' ≡ sets result 0 (slice 0 (n * 4) w) → z ≡ replicate (length w) 0 → writtenAs (Ok n) d' z ≡ handed m result w
    copied n d' z i h room c k =
        let s = stood n i h in
        let rs = s.records in
        let f : slice 0 (n * 4) w ≡ words rs = ap (λ (j : ℕ). slice 0 (j * 4) w) s.many ∙ s.front.there in
        let a = words-length rs in
        let le = s.front.few in
        let y : d' ≡ words rs ++ drop (length (words rs)) result = c ∙ ap (sets result 0) f ∙ sets-eq (words rs) result 0 (omega arith)
        ∙ ap (λ (j : ℕ). words rs ++ drop j result) (zero-add (length (words rs))) in
        put n rs d' z s.is s.many y k

    pub left : {r : Result ℕ Refusal} (k : Refusal) (z : List ℕ) → r ≡ Err k → Made m w r → z ≡ replicate (length w) 0
        → writtenAs (Err k) result z ≡ handed m result w
    unfolding resultAfter
    left k z i h c = let e = refused-before m length (number_of k) (subst (λ (a : Result ℕ Refusal). Made m w a) i h).answer in rw (e, c)

-- a call whose buffers are long enough, as the rules put it together; and one whose buffers are not
module _ (room : Got (Unit {0})) (m : Got (List Rec)) (result work : List ℕ) where
  pub as_written : room ≡ got tt → handed m result work ≡ writing room m result work
  unfolding writing workAfter
  as_written e = rw e

  pub unwritten : room ≡ refused 10 → record { answer = refused 10; result = result; work = work } ≡ writing room m result work
  unfolding writing resultAfter workAfter
  unwritten e = rw e
