-- What follows from the definitions of specs/Given: a sheet whose buffers are long enough: what is answered, from what its parts did.
use Rattle.std.specs.Prelude.{◌≡◌, Bool, true, false, not, ℕ, Ok, Err, ◌+◌, ◌*◌, ◌≤◌, length, take, drop}
use Rattle.std.proofs.Common.{sym, ◌∙◌, zero-add, arith, take_at}
use Rattle.std.proofs.Math.Path.{ap}
use mathlib.Core.List.{List, ◌++◌}
use Rattle.std.proofs.Math.Seq.{sets, slice}
use Rattle.std.proofs.lemmas.List.Edits.{sets-eq}
use Rattle.rules.specs.Base.{collect}
use Rattle.rules.specs.Names.{table_of, tableGood}
use Rattle.rules.specs.Writing.{Rec, words, writeCon}
use Rattle.rules.specs.Calls.{tableKept, over}
use Rattle.rules.specs.declared.Refusal.{Refusal}
use Rattle.rules.specs.declared.Refusal.TheVariants.{Malformed}
use Rattle.std.proofs.lemmas.Bool.{not-true, not-false}
use Rattle.laws.specs.NameTable.{Good}
use Rattle.laws.proofs.Size.{words-length, set-length}
use Rattle.text_sheet.specs.Loop.{IsRead, IsUndone}
use Rattle.text_sheet.specs.Given.{Answers}

-- records written from the start stand at the front
front : (rs : List Rec) (w : List ℕ) → length rs * 4 ≤ length w → take (length rs * 4) (sets w 0 (words rs)) ≡ words rs
front rs w h =
    let n = words-length rs in
    ap (take (length rs * 4)) (sets-eq (words rs) w 0 (omega arith)) ∙ take_at (words rs) (drop (0 + length (words rs)) w) (length rs * 4) n

-- and are copied to the front of a result
copied : (rs : List Rec) (w b : List ℕ) → length rs * 4 ≤ length w → length rs * 4 ≤ length b
    → sets b 0 (take (length rs * 4) (sets w 0 (words rs))) ≡ over (words rs) b
unfolding over
copied rs w b h k =
    let n = words-length rs in
    ap (sets b 0) (front rs w h) ∙ sets-eq (words rs) b 0 (omega arith) ∙ ap (λ (i : ℕ). words rs ++ drop i b) (zero-add (length (words rs)))

module _ {pool table : List ℕ} (text result : List ℕ) (b : Bool) (is : b ≡ tableGood (table_of pool table)) where
  pub malformed : not b ≡ true → Answers pool table text result pool table result (Err (record { why = Malformed; line = 0; column = 0 }))
  unfolding tableKept
  malformed n = record { is = λ work. rw (sym is ∙ not-true b n) }

  module _ (yes : not b ≡ false) where
    pub good : 8192 ≤ length pool → 257 ≤ length table → Good pool table
    good p t = record { bytes = p; words = t; good = sym is ∙ not-false b yes }

    -- refused: nothing has changed
    pub refused-sheet : {work p t d : List ℕ} {r : Refusal} {l q : ℕ} → IsUndone text pool table work p t d r l q
        → Answers pool table text result p t result (Err (record { why = r; line = l; column = q }))
    unfolding tableKept
    refused-sheet x = record { is = λ work. rw (sym is ∙ not-false b yes, x.is, x.pools, x.tables) }

    -- read: the records are handed over
    pub read-sheet : {work p t d e : List ℕ} {n c k : ℕ} → 8192 ≤ length work → 8192 ≤ length result → IsRead text pool table work p t d n c k
        → e ≡ sets result 0 (slice 0 (n * 4) d)
        → Answers pool table text result p t e (Ok (record { records = n; constraints = c; names = k }))
    unfolding tableKept
    read-sheet {work} {p} {t} {d} {e} {n} {c} {k} f g x y =
        let w = x.whole in
        let rs = collect writeCon w.cons in
        let h : e ≡ over (words rs) result = y ∙ ap (λ (i : ℕ). sets result 0 (take (i * 4) d)) w.records
        ∙ ap (λ (l : List ℕ). sets result 0 (take (length rs * 4) l)) w.written
        ∙ copied rs work result (omega (arith, w.records, x.few)) (omega (arith, w.records, x.few)) in
        record { is = λ z. rw (sym is ∙ not-false b yes, w.is, h, w.records, set-length w.cons, w.many) }
