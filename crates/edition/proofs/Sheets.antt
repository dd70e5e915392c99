-- What follows from the definitions of specs/Sheets: a sheet that is read: its records, and the names that it leaves.
use Rattle.std.specs.Prelude.{◌≡◌, refl, List, ℕ, ◌*◌, ◌≤◌, length, take, drop, Result, Ok, Err}
use Rattle.std.proofs.Common.{ap, ◌∙◌, le-leb, arith, length-append, take_at}
use Rattle.rules.specs.Base.{got, collect, sum_of}
use Rattle.rules.specs.Calls.{lent, lentResult, lentWork, tableKept, over, workAfter}
use Rattle.rules.specs.Refusals.{number_of}
use Rattle.rules.specs.TextReading.{Sheet, sheet, refusedIn, sheetRead, wasRead, notRead, TextRead, handed, sheetGiven, readTextCall}
use Rattle.rules.specs.Trees.{Con, sizeCon}
use Rattle.rules.specs.Writing.{words, writeCon}
use Rattle.laws.specs.NameTable.{Good}
use Rattle.laws.proofs.Size.{words-length, set-length}
use Rattle.text_sheet.specs.Given.{readAs}
use Rattle.text_sheet.specs.declared.Read.{Read}
use Rattle.text_sheet.specs.declared.NotRead.{NotRead}
use Rattle.edition.proofs.Pages.{lent-given}
use Rattle.edition.specs.Sheets.{ReadTo}

-- ══ What stands at the front of the result ══

err-ok : {A E : Type 0} {e : E} {a : A} → ◌≡◌ {A = Result A E} (Err e) (Ok a) → ⊥
err-ok e = cc

front : (cs : List (Con ℕ)) (result : List ℕ) (n : ℕ) → n ≡ sum_of sizeCon cs
    → take (n * 4) (over (words (collect writeCon cs)) result) ≡ words (collect writeCon cs)
unfolding over
front cs result n e =
    let w = words (collect writeCon cs) in
    take_at w (drop (length w) result) (n * 4) (omega (arith, e, words-length (collect writeCon cs), set-length cs))

front-fits : (cs : List (Con ℕ)) (result : List ℕ) (n : ℕ) → n ≡ sum_of sizeCon cs → n * 4 ≤ length (over (words (collect writeCon cs)) result)
unfolding over
front-fits cs result n e =
    let w = words (collect writeCon cs) in
    omega (arith, e, words-length (collect writeCon cs), set-length cs, length-append w (drop (length w) result))

-- ══ A sheet that is read ══

module _ {pool table : List ℕ} (good : Good pool table) (text result work : List ℕ) (r-long : length result ≡ 8192) (w-long : 16384 ≤ length work) where
  pub all-lent : lent pool table result work ≡ got tt
  unfolding lent lentResult lentWork
  all-lent = rw (lent-given good, le-leb 8192 (length result) (omega (arith, r-long)), le-leb 16384 (length work) w-long) refl

  reads-on : readTextCall pool table text result work ≡ handed pool table result (workAfter (lent pool table result work) work) (sheetRead pool table text)
  unfolding readTextCall sheetGiven tableKept
  reads-on = rw (all-lent, good.good) refl

  module _ (pool' table' result' work' : List ℕ) where
    pub was-read : (r : Result Read NotRead) → readAs r pool' table' result' work' ≡ readTextCall pool table text result work → (ws : List ℕ)
        → ((x : Read) → r ≡ Ok x → ws ≡ take (x.records * 4) result') → ReadTo pool table pool' table' ws r (sheetRead pool table text)
    was-read r e ws f = go r (sheetRead pool table text) (e ∙ reads-on) f
      where
        go : (r : Result Read NotRead) (m : Sheet)
            → readAs r pool' table' result' work' ≡ handed pool table result (workAfter (lent pool table result work) work) m
            → ((x : Read) → r ≡ Ok x → ws ≡ take (x.records * 4) result') → ReadTo pool table pool' table' ws r m
        go (Ok x) (sheet cs s) e f =
            let a : wasRead x.records x.constraints x.names ≡ wasRead (sum_of sizeCon cs) (length cs) s.fresh = ap (λ (t : TextRead). t.answer) e in
            let n : x.records ≡ sum_of sizeCon cs = cc in
            let i : result' ≡ over (words (collect writeCon cs)) result = ap (λ (t : TextRead). t.result) e in
            record {
              many = cc;
              new = cc;
              is = f x refl ∙ ap (take (x.records * 4)) i ∙ front cs result x.records n;
              pools = ap (λ (t : TextRead). t.pool) e;
              tables = ap (λ (t : TextRead). t.table) e;
            }
        go (Ok x) (refusedIn n l c) e f =
            let a : wasRead x.records x.constraints x.names ≡ notRead n l c = ap (λ (t : TextRead). t.answer) e in
            absurd (cc)
        go (Err x) (sheet cs s) e f =
            let a : notRead (number_of x.why) x.line x.column ≡ wasRead (sum_of sizeCon cs) (length cs) s.fresh = ap (λ (t : TextRead). t.answer) e in
            absurd (cc)
        go (Err x) (refusedIn n l c) e f =
            let a : notRead (number_of x.why) x.line x.column ≡ notRead n l c = ap (λ (t : TextRead). t.answer) e in
            record { why = cc; line = cc; column = cc; pools = ap (λ (t : TextRead). t.pool) e; tables = ap (λ (t : TextRead). t.table) e }

    pub was-ok : (x : Read) → readAs (Ok x) pool' table' result' work' ≡ readTextCall pool table text result work → (ws : List ℕ)
        → ws ≡ take (x.records * 4) result' → ReadTo pool table pool' table' ws (Ok x) (sheetRead pool table text)
    was-ok x e ws f = was-read (Ok x) e ws (λ y q. let z : x ≡ y = cc q in rw (← z) f)

    pub was-err : (x : NotRead) → readAs (Err x) pool' table' result' work' ≡ readTextCall pool table text result work → (ws : List ℕ)
        → ReadTo pool table pool' table' ws (Err x) (sheetRead pool table text)
    was-err x e ws = was-read (Err x) e ws (λ y q. absurd (err-ok q))

    -- its records stand at the front of the result
    pub read-fits : (x : Read) → readAs (Ok x) pool' table' result' work' ≡ readTextCall pool table text result work → x.records * 4 ≤ length result'
    read-fits x e = go (sheetRead pool table text) (e ∙ reads-on)
      where
        go : (m : Sheet) → readAs (Ok x) pool' table' result' work' ≡ handed pool table result (workAfter (lent pool table result work) work) m
            → x.records * 4 ≤ length result'
        go (sheet cs s) e =
            let a : wasRead x.records x.constraints x.names ≡ wasRead (sum_of sizeCon cs) (length cs) s.fresh = ap (λ (t : TextRead). t.answer) e in
            let n : x.records ≡ sum_of sizeCon cs = cc in
            let i : result' ≡ over (words (collect writeCon cs)) result = ap (λ (t : TextRead). t.result) e in
            rw i (front-fits cs result x.records n)
        go (refusedIn n l c) e =
            let a : wasRead x.records x.constraints x.names ≡ notRead n l c = ap (λ (t : TextRead). t.answer) e in
            absurd (cc)
