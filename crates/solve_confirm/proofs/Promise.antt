-- What is answered is true, and comes just where solving accepts and the judge says yes.
use Rattle.std.specs.Prelude.{◌≡◌, refl, Bool, true, false, List, ◌++◌, ℕ, length}
use Rattle.std.proofs.Common.{sym, ap, ap₂, ◌∙◌}
use Rattle.rules.specs.Base.{Got, got, refused, ◌>>◌, bounded, collect, sum_of}
use Rattle.rules.specs.Calls as calls
use Rattle.rules.specs.Calls.{
  lentResult,
  lentWork,
  lent,
  shortLists,
  shortNumbers,
  tableKept,
  setGiven,
  apart,
  opensBinding,
  resultAfter,
  Solved,
  solved,
  unsolved,
}
use Rattle.rules.specs.Calls.{refusedAfter, solvedOf, solvedWords, solvedSet, solveCall, Entry, entriesGiven, risingBounds, judgedSet, judgeCall}
use Rattle.rules.specs.Confirming.{ruled, confirmed, confirmedSet, confirmCall}
use Rattle.rules.specs.Contents.{unmixed}
use Rattle.rules.specs.Judging.{judge}
use Rattle.rules.specs.Names.{Table, table_of, numbersOf, is_held, lentTable}
use Rattle.rules.specs.Solving.{Answer, accepted, remaining, stopped}
use Rattle.rules.specs.Trees.{Names, Con, Binding, opensCon, sizeBinding}
use Rattle.laws.proofs.Lists.{bound-step}
use Rattle.theorems_soundness.specs.Claims.{Proposes, SoundAnswer}
use Rattle.theorems_soundness.proofs.Form.{final, solved-form}
use Rattle.theorems_soundness.proofs.Judged.{yes-solves}
use Rattle.theorems_soundness.proofs.Runs.{answer-apart}
use Rattle.theorems_soundness.proofs.Soundness.{solve-call, own-proposed}
use Rattle.theorems_soundness.proofs.Words.{numbers-ordered}
use Rattle.solve_confirm.proofs.Own.{Passed, passed}
use Rattle.solve_confirm.specs.Theorems.{ConfirmedAnswer, judgedInPlace, ConfirmedIsTrue, ConfirmsJustWhere}
use Rattle.solve_confirm.specs.Told.{ruledBy}
use Rattle.solve_confirm.proofs.Ruled.{by-verdict, read_of, confirmed-of, refused-of}

-- ══ What an answer comes from ══

module _ (ν : Names ℕ) (cs : List (Con ℕ)) where
  -- an accepted answer was accepted by solving, and the judge said yes
  pub record Both (a : Answer ℕ) (bs : List (Binding ℕ)) (ns : List ℕ) (k : ℕ) : Type 0 where
    pub is : a ≡ accepted bs ns k
    pub yes : judge ν bounded bs ns cs ≡ got true

  pub from-confirmed : (a : Answer ℕ) (bs : List (Binding ℕ)) (ns : List ℕ) (k : ℕ) → confirmed ν cs a ≡ accepted bs ns k → Both a bs ns k
  unfolding confirmed ruled
  from-confirmed (accepted bs' ns' k') bs ns k e = go (judge ν bounded bs' ns' cs) refl
    where
      go : (v : Got Bool) → judge ν bounded bs' ns' cs ≡ v → Both (accepted bs' ns' k') bs ns k
      go (got true) i =
          let f : accepted bs' ns' k' ≡ accepted bs ns k = rw i at e in
          let b : bs' ≡ bs = cc in
          let n : ns' ≡ ns = cc in
          record { is = f; yes = rw (b, n) at i }
      go (got false) i = let f : ◌≡◌ {A = Answer ℕ} (stopped 11 k') (accepted bs ns k) = rw i at e in absurd (cc)
      go (refused j) i = let f : ◌≡◌ {A = Answer ℕ} (stopped j k') (accepted bs ns k) = rw i at e in absurd (cc)
  from-confirmed (remaining ds k') bs ns k e = absurd (cc)
  from-confirmed (stopped i k') bs ns k e = absurd (cc)

module _ (pool table set : List ℕ) where
  abbrev t : Table
  t = table_of pool table

  -- ══ The judge on what is proposed ══

  -- past its checks the judge's call says what the judge says
  proposed : lentTable pool table ≡ got tt → (bs : List (Binding ℕ)) (ns : List ℕ) (k : ℕ) (p : Passed pool table set bs ns k)
      → (entries : List Entry) (types bounds work : List ℕ) → Proposes pool table set bs ns entries types bounds work
      → (judgeCall pool table set entries types bounds work).answer ≡ judge (numbersOf t) bounded bs ns p.cs
  unfolding judgeCall judgedSet apart
  proposed h bs ns k p entries types bounds work r =
      let o = numbers-ordered pool table p.good in
      let m : unmixed (numbersOf t) (collect opensCon p.cs ++ collect opensBinding bs) ≡ true =
      answer-apart (numbersOf t) (is_held t) o p.cs bs ns p.given (final (numbersOf t) (is_held t) o p.cs p.given bs ns k p.accepts) in
      rw (h, r.lent, r.short, p.kept, p.read, r.entries-read, r.bounds-read, m) refl

  module _ (result work : List ℕ) where
    abbrev room : Got (Unit {0})
    room = lent pool table result work

    -- with long enough buffers
    pub record Lent : Type 0 where
      pub all : room ≡ got tt
      pub tables : lentTable pool table ≡ got tt

    is-lent : (u : Unit {0}) → room ≡ got u → Lent
    unfolding lent
    is-lent u e =
        let c = bound-step (lentTable pool table >> lentResult result) _ u e in
        let d = bound-step (lentTable pool table) _ c.0 c.1 in
        record { all = e; tables = d.1 }

    -- the whole outcome is that of solving where the answers are the same
    alike : (room >> confirmedSet t set) ≡ (room >> solvedSet t set) → confirmCall pool table set result work ≡ solveCall pool table set result work
    unfolding confirmCall solveCall
    alike e = rw e refl

    -- ══ From an accepted answer of solving ══

    pub record Accepts (records bounds rounds : ℕ) : Type 0 where
      pub bs : List (Binding ℕ)
      pub ns : List ℕ
      pub room-met : Lent
      pub is : solvedSet t set ≡ got (accepted bs ns rounds)
      pub binding-records : sum_of sizeBinding bs ≡ records
      pub bound-records : length ns ≡ bounds

    accepts : (records bounds rounds : ℕ) → (solveCall pool table set result work).answer ≡ solved records bounds rounds → Accepts records bounds rounds
    unfolding solveCall solvedOf
    accepts r b k e = go (room >> solvedSet t set) refl
      where
        go : (m : Got (Answer ℕ)) → (room >> solvedSet t set) ≡ m → Accepts r b k
        go (refused i) f = let z : ◌≡◌ {A = Solved} (refusedAfter i 0) (solved r b k) = rw f at e in absurd (cc)
        go (got (remaining ds j)) f = let z : solvedOf (got (remaining ds j)) ≡ solved r b k = rw f at e in absurd (cc)
        go (got (stopped i j)) f = let z : ◌≡◌ {A = Solved} (refusedAfter i j) (solved r b k) = rw f at e in absurd (cc)
        go (got (accepted bs ns j)) f =
            let z : ◌≡◌ {A = Solved} (solved (sum_of sizeBinding bs) (length ns) j) (solved r b k) = rw f at e in
            let y : j ≡ k = cc in
            let a = bound-step room _ (accepted bs ns j) f in
            record {
              bs = bs;
              ns = ns;
              room-met = is-lent a.0 a.1;
              is = a.2 ∙ ap (λ (i : ℕ). got (accepted bs ns i)) y;
              binding-records = cc;
              bound-records = cc;
            }

    module _ (records bounds rounds : ℕ) (e : (solveCall pool table set result work).answer ≡ solved records bounds rounds) where
      abbrev here : Accepts records bounds rounds
      here = accepts records bounds rounds e

      abbrev sound : SoundAnswer pool table set result work records bounds rounds
      sound = solve-call pool table set result work records bounds rounds e

      abbrev p : Passed pool table set here.bs here.ns rounds
      p = passed pool table set here.room-met.tables here.bs here.ns rounds here.is

      abbrev verdict : Got Bool
      verdict = judge (numbersOf t) bounded here.bs here.ns p.cs

      same_answer : accepted sound.bs sound.ns rounds ≡ accepted here.bs here.ns rounds
      same_answer =
          let z : sound.cs ≡ p.cs = (let r = sound.read in let s = p.read in cc) in
          let r = rw z at sound.accepts in
          let s = p.accepts in
          cc

      judged-here : (buffer : List ℕ) → lentWork buffer ≡ got tt → judgedInPlace pool table set result work records bounds buffer ≡ verdict
      judged-here buffer l =
          let f : accepted sound.bs sound.ns rounds ≡ accepted here.bs here.ns rounds = same_answer in
          let b : sound.bs ≡ here.bs = cc in
          let n : sound.ns ≡ here.ns = cc in
          let r = own-proposed pool table set result work records bounds rounds e buffer l in
          proposed here.room-met.tables here.bs here.ns rounds p _ _ _ buffer (rw (b, n) at r)

      told-here : (confirmCall pool table set result work).answer ≡ ruledBy verdict (solved records bounds rounds)
      unfolding confirmCall confirmed
      told-here =
          let f = confirmed-of t set (accepted here.bs here.ns rounds) p.cs here.is p.read in
          let a : (confirmCall pool table set result work).answer ≡ solvedOf (got (ruled verdict here.bs here.ns rounds)) = rw (here.room-met.all, f) refl in
          a ∙ sym (by-verdict verdict here.bs here.ns rounds) ∙ ap₂ (λ (b n : ℕ). ruledBy verdict (solved b n rounds)) here.binding-records here.bound-records

      pub judged : (buffer : List ℕ) → lentWork buffer ≡ got tt
          → (confirmCall pool table set result work).answer
          ≡ ruledBy (judgedInPlace pool table set result work records bounds buffer) (solved records bounds rounds)
      judged buffer l = told-here ∙ ap (λ (v : Got Bool). ruledBy v (solved records bounds rounds)) (sym (judged-here buffer l))

    -- ══ From an answer that solving doesn't accept ══

    as-solving : (a : Solved) → ((records bounds rounds : ℕ) → solved records bounds rounds ≡ a → ⊥) → (solveCall pool table set result work).answer ≡ a
        → confirmCall pool table set result work ≡ solveCall pool table set result work
    unfolding solveCall solvedOf confirmed
    as-solving a other e = go room refl (solvedSet t set) refl
      where
        go : (l : Got (Unit {0})) → room ≡ l → (m : Got (Answer ℕ)) → solvedSet t set ≡ m
            → confirmCall pool table set result work ≡ solveCall pool table set result work
        go (refused i) f m g = alike (rw f refl)
        go (got u) f (refused i) g = alike (rw (f, g, refused-of t set i g) refl)
        go (got u) f (got (accepted bs ns j)) g = absurd (other (sum_of sizeBinding bs) (length ns) j (rw (f, g) at e))
        go (got u) f (got (remaining ds j)) g = let s = read_of t set (remaining ds j) g
            in alike (rw (f, g, confirmed-of t set (remaining ds j) s.0 g s.1) refl)
        go (got u) f (got (stopped i j)) g = let s = read_of t set (stopped i j) g in alike (rw (f, g, confirmed-of t set (stopped i j) s.0 g s.1) refl)

    pub remains : (records rounds : ℕ) → (solveCall pool table set result work).answer ≡ unsolved records rounds
        → confirmCall pool table set result work ≡ solveCall pool table set result work
    remains r k e = as-solving (unsolved r k) (λ records bounds rounds z. cc) e

    pub refuses : (i rounds : ℕ) → (solveCall pool table set result work).answer ≡ refusedAfter i rounds
        → confirmCall pool table set result work ≡ solveCall pool table set result work
    refuses i k e = as-solving (refusedAfter i k) (λ records bounds rounds z. cc) e

    -- ══ From an answer of the call ══

    pub record Confirms (records bounds rounds : ℕ) : Type 0 where
      pub cs : List (Con ℕ)
      pub bs : List (Binding ℕ)
      pub ns : List ℕ
      pub room-met : Lent
      pub is : solvedSet t set ≡ got (accepted bs ns rounds)
      pub read : setGiven t set ≡ got cs
      pub yes : judge (numbersOf t) bounded bs ns cs ≡ got true
      pub same : (room >> confirmedSet t set) ≡ (room >> solvedSet t set)
      pub binding-records : sum_of sizeBinding bs ≡ records
      pub bound-records : length ns ≡ bounds

    confirms : (records bounds rounds : ℕ) → (confirmCall pool table set result work).answer ≡ solved records bounds rounds → Confirms records bounds rounds
    unfolding confirmCall confirmedSet solvedOf
    confirms r b k e = go (room >> confirmedSet t set) refl
      where
        go : (m : Got (Answer ℕ)) → (room >> confirmedSet t set) ≡ m → Confirms r b k
        go (refused i) f = let z : ◌≡◌ {A = Solved} (refusedAfter i 0) (solved r b k) = rw f at e in absurd (cc)
        go (got (remaining ds j)) f = let z : solvedOf (got (remaining ds j)) ≡ solved r b k = rw f at e in absurd (cc)
        go (got (stopped i j)) f = let z : ◌≡◌ {A = Solved} (refusedAfter i j) (solved r b k) = rw f at e in absurd (cc)
        go (got (accepted bs ns j)) f =
            let z : ◌≡◌ {A = Solved} (solved (sum_of sizeBinding bs) (length ns) j) (solved r b k) = rw f at e in
            let y : j ≡ k = cc in
            let a = bound-step room _ (accepted bs ns j) f in
            let s = bound-step (solvedSet t set) _ (accepted bs ns j) a.2 in
            let c = bound-step (setGiven t set) _ (accepted bs ns j) s.2 in
            let d = from-confirmed (numbersOf t) c.0 s.0 bs ns j (cc c.2) in
            let i : solvedSet t set ≡ got (accepted bs ns j) = s.1 ∙ ap got d.is in
            record {
              cs = c.0;
              bs = bs;
              ns = ns;
              room-met = is-lent a.0 a.1;
              is = i ∙ ap (λ (i : ℕ). got (accepted bs ns i)) y;
              read = c.1;
              yes = d.yes;
              same = f ∙ sym (rw (a.1, i) refl);
              binding-records = cc;
              bound-records = cc;
            }

    module _ (records bounds rounds : ℕ) (e : (confirmCall pool table set result work).answer ≡ solved records bounds rounds) where
      abbrev found : Confirms records bounds rounds
      found = confirms records bounds rounds e

      solves-too : (solveCall pool table set result work).answer ≡ solved records bounds rounds
      solves-too = sym (ap (λ (s : calls.Solution). s.answer) (alike found.same)) ∙ e

      pub confirmed-true : ConfirmedAnswer pool table set result work records bounds
      unfolding confirmCall solvedWords resultAfter
      confirmed-true =
          let q = passed pool table set found.room-met.tables found.bs found.ns rounds found.is in
          let z : q.cs ≡ found.cs = (let r = q.read in let s = found.read in cc) in
          let i : (room >> confirmedSet t set) ≡ got (accepted found.bs found.ns rounds) = found.same ∙ rw (found.room-met.all, found.is) refl in
          record {
            cs = found.cs;
            bs = found.bs;
            ns = found.ns;
            read = found.read;
            written = rw i refl;
            binding-records = found.binding-records;
            bound-records = found.bound-records;
            form = solved-form (numbersOf t) (is_held t) (numbers-ordered pool table q.good) q.cs q.given found.bs found.ns rounds q.accepts;
            all-true = yes-solves (numbersOf t) found.bs found.ns found.cs found.yes;
          }

      yes-too : (buffer : List ℕ) → lentWork buffer ≡ got tt → judgedInPlace pool table set result work records bounds buffer ≡ got true
      yes-too buffer l =
          let x = accepts records bounds rounds solves-too in
          let q = passed pool table set x.room-met.tables x.bs x.ns rounds x.is in
          let f : ◌≡◌ {A = Got (Answer ℕ)} (got (accepted x.bs x.ns rounds)) (got (accepted found.bs found.ns rounds)) = sym x.is ∙ found.is in
          let b : x.bs ≡ found.bs = cc in
          let n : x.ns ≡ found.ns = cc in
          let z : q.cs ≡ found.cs = (let r = q.read in let s = found.read in cc) in
          let y : judge (numbersOf t) bounded x.bs x.ns q.cs ≡ judge (numbersOf t) bounded found.bs found.ns found.cs = cc in
          judged-here records bounds rounds solves-too buffer l ∙ y ∙ found.yes

      pub answers : ((solveCall pool table set result work).answer ≡ solved records bounds rounds)
          × (((buffer : List ℕ) → lentWork buffer ≡ got tt → judgedInPlace pool table set result work records bounds buffer ≡ got true)
          × (confirmCall pool table set result work ≡ solveCall pool table set result work))
      answers = (solves-too, (yes-too, alike found.same))

pub is-true : ConfirmedIsTrue
is-true pool table set result work records bounds rounds e = confirmed-true pool table set result work records bounds rounds e

pub just-where : ConfirmsJustWhere
just-where pool table set result work = record {
  judged = judged pool table set result work;
  answers = answers pool table set result work;
  remains = remains pool table set result work;
  refuses = refuses pool table set result work;
}
