-- What is kept of a text that is read, and what is said from it.
use Rattle.std.specs.Prelude.{◌≡◌, ◌↔◌, refl, Bool, true, false, IsTrue, List, ℕ, replicate, Ok, Err, Vec}
use Rattle.std.proofs.Common.{sym, ap, ◌∙◌, arith}
use Rattle.std.proofs.lemmas.List.{length-replicate}
use Rattle.std.specs.declared.alloc.Global.{Global}
use Rattle.rules.specs.Base.{Got, got, refused}
use Rattle.sha2.specs.Sha256.{sha256}
use Rattle.rules.specs.Names.{Bytes, table_of, tableGood, lengthsGood, names_of, distinct, cut, sameBytes}
use Rattle.rules.specs.TextReading.{Sheet, sheet, refusedIn, sheetRead}
use Rattle.laws.specs.NameTable.{Good}
use Rattle.laws.proofs.NameTable.{same-no, same-is, same-yes}
use Rattle.laws.proofs.Lists.{true≢false}
use Rattle.records.specs.Found.{Words32}
use Rattle.text_columns.proofs.Left.{read-back, read-keeps-good}
use Rattle.text_sheet.specs.declared.Read.{Read}
use Rattle.text_sheet.specs.declared.NotRead.{NotRead}
use Rattle.edition.specs.Sheets.{ReadTo}
use Rattle.edition_certificates.specs.Certificates.{verified}
use Rattle.edition_certificates.proofs.Truth.{verified-true}
use Rattle.edition_certified.specs.Certified.{yes, changed, saidOf, linesSaid, textSaid, certified, said, noPool, noTable}
use Rattle.edition_certified.specs.Reading.{Kept}
use Rattle.edition_certified.specs.Truth.{Lines, LinesAreTrue, AllTrue, TextIsTrue, VerifiedIsTrue}
use Rattle.edition_certified.specs.declared.Verdict.{Verdict}
use Rattle.edition_certified.specs.declared.Verdict.TheVariants as verdict

-- ══ Reading ══

pub none-held : Good noPool noTable
unfolding noPool noTable tableGood table_of lengthsGood names_of distinct cut
none-held = record {
  bytes = omega (arith, length-replicate {A = ℕ} 8192 0);
  words = omega (arith, length-replicate {A = ℕ} 257 0);
  good = refl;
}

pub begins-good : Good (replicate 8192 0) (replicate 257 0)
unfolding noPool noTable
begins-good = none-held

pub no-pool : replicate 8192 0 ≡ noPool
unfolding noPool
no-pool = refl

pub no-table : replicate 257 0 ≡ noTable
unfolding noTable
no-table = refl

module _ {pool table : List ℕ} (good : Good pool table) (text p t : List ℕ) where
  pub was-kept : (x : Read) (v : Vec ℕ Global) → ReadTo pool table p t v.items (Ok x) (sheetRead pool table text) → Kept p t (Ok v) (sheetRead pool table text)
  was-kept x v h = go (sheetRead pool table text) refl h
    where
      go : (m : Sheet) → sheetRead pool table text ≡ m → ReadTo pool table p t v.items (Ok x) m → Kept p t (Ok v) m
      go (sheet cs s) q h = record { is = h.is; pools = h.pools; tables = h.tables; good = rw (h.pools, h.tables) (read-keeps-good pool table text good q).0 }
      go (refusedIn n l k) q h = absurd h

  pub was-stopped : (e : NotRead) (ws : List ℕ) → ReadTo pool table p t ws (Err e) (sheetRead pool table text) → Kept p t (Err e) (sheetRead pool table text)
  was-stopped e ws h = go (sheetRead pool table text) h
    where
      go : (m : Sheet) → ReadTo pool table p t ws (Err e) m → Kept p t (Err e) m
      go (sheet cs s) h = absurd h
      go (refusedIn n l k) h = record { why = h.why; line = h.line; column = h.column }

pub kept-good : (p t : List ℕ) (v : Vec ℕ Global) (m : Sheet) → Kept p t (Ok v) m → Good p t
kept-good p t v (sheet cs s) h = h.good
kept-good p t v (refusedIn n l c) h = absurd h

-- ══ Yes ══

was-yes : (g : Got Bool) → saidOf g ≡ yes → g ≡ got true
was-yes (got true) e = refl
was-yes (got false) e = absurd (cc)
was-yes (refused n) e = absurd (cc)

module _ (p t set : List ℕ) (v : Vec ℕ Global) where
  pub lines-true : Words32 v.items → (m : Sheet) → Kept p t (Ok v) m → (x : Verdict) → said x ≡ saidOf (verified p t set v.items) → LinesAreTrue set m x
  lines-true w (sheet ds s) h x e = λ i. record {
    ds = ds;
    ended = s;
    read = refl;
    proves = rw (h.is, h.pools, h.tables) at (verified-true p t set v.items w (was-yes (verified p t set v.items) (sym e ∙ ap said i)));
  }
  lines-true w (refusedIn n l c) h x e = absurd h

-- ══ The text ══

module _ (text lines p t : List ℕ) (v : Vec ℕ Global) where
  pub text-said : (m : Sheet) → Kept p t (Ok v) m → linesSaid v.items (sheetRead p t lines) ≡ textSaid lines m
  text-said (sheet cs s) h = rw (h.is, h.pools, h.tables) refl
  text-said (refusedIn n l c) h = absurd h

  pub text-true : Kept p t (Ok v) (sheetRead noPool noTable text) → (x : Verdict) → LinesAreTrue v.items (sheetRead p t lines) x → TextIsTrue text lines x
  text-true h x k = λ i. go (sheetRead noPool noTable text) refl h (k i)
    where
      go : (m : Sheet) → sheetRead noPool noTable text ≡ m → Kept p t (Ok v) m → Lines v.items (sheetRead p t lines) → AllTrue text lines
      go (sheet cs s) q h l =
          let proved = l.proves in
          let same-cs = read-back noPool noTable text q (table_of l.ended.pool l.ended.table) proved.cs (rw h.is at proved.read) in
          let same-ds = read-back p t lines l.read (table_of l.ended.pool l.ended.table) proved.ds proved.certified in
          record {
            cs = cs;
            ds = l.ds;
            behind = s;
            ended = l.ended;
            sheet-read = q;
            lines-read = rw (h.pools, h.tables) at l.read;
            solves = rw (same-cs, same-ds) at proved.solves;
          }
      go (refusedIn n l c) q h y = absurd h

pub text-stopped : (p t lines : List ℕ) (e : NotRead) (m : Sheet) → Kept p t (Err e) m → said (verdict.Unread e) ≡ textSaid lines m
text-stopped p t lines e (sheet cs s) h = absurd h
text-stopped p t lines e (refusedIn n l c) h = rw (h.why, h.line, h.column) refl

-- ══ The digest ══

-- a test that says whether two texts are one says what `sameBytes` does
pub same-as : (a b : Bytes) (r : Bool) → (IsTrue r ↔ (b ≡ a)) → sameBytes a b ≡ r
same-as a b true h = same-yes a b (sym (h.0 refl))
same-as a b false h = same-no a b (λ e. true≢false (sym (h.1 (sym e))))

pub verified-true-by : (d t l : Bytes) (r : Bool) → (IsTrue r ↔ (sha256 t ≡ d)) → r ≡ true → (x : Verdict) → TextIsTrue t l x → VerifiedIsTrue d t l x
verified-true-by d t l r h e x k = λ i. record { same-file = same-is d (sha256 t) (same-as d (sha256 t) r h ∙ e); true-by = k i }

pub not-same : (d t l : Bytes) (r : Bool) → (IsTrue r ↔ (sha256 t ≡ d)) → r ≡ false → changed ≡ certified d t l
not-same d t l r h e = sym (rw (same-as d (sha256 t) r h, e) refl)

pub same-said : (d t l : Bytes) (r : Bool) → (IsTrue r ↔ (sha256 t ≡ d)) → r ≡ true → textSaid l (sheetRead noPool noTable t) ≡ certified d t l
same-said d t l r h e = sym (rw (same-as d (sha256 t) r h, e) refl)
