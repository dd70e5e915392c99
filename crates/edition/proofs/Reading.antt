-- What follows from the definitions of specs/Reading: a file that is read: its page, and the names that are left.
use Rattle.std.specs.Prelude.{◌≡◌, refl, List, [], ℕ, Result, Ok, Err}
use Rattle.rules.specs.Names.{Bytes}
use Rattle.rules.specs.Reports.{Page, holding, refusing, lacking, page_of}
use Rattle.rules.specs.TextReading.{Sofar, Sheet, sheet, refusedIn, sheetRead}
use Rattle.rules.specs.Trees.{Con}
use Rattle.rules.specs.declared.Unseen.{Unseen}
use Rattle.laws.specs.NameTable.{Good}
use Rattle.text_columns.proofs.Left.{read-back, read-keeps-good}
use Rattle.text_sheet.specs.declared.Read.{Read}
use Rattle.text_sheet.specs.declared.NotRead as stop
use Rattle.edition.specs.Pages.{Holds, IsPage}
use Rattle.edition.specs.Files.{text_of, FileRead}
use Rattle.edition.specs.Sheets.{ReadTo}
use Rattle.edition.specs.declared.model.Content.TheVariants as content
use Rattle.edition.specs.declared.model.File.{File}
use Rattle.edition.specs.declared.model.Sheet as kept
use Rattle.edition.specs.Reading.{contentOf}

-- the page of a text that was read, or refused
module _ (pool table pool' table' : List ℕ) (name text : Bytes) (ws : List ℕ) where
  set-holds : (cs : List (Con ℕ)) (s : Sofar) → sheetRead pool table text ≡ sheet cs s → (r : Read) → ReadTo pool table pool' table' ws (Ok r) (sheet cs s)
      → Holds (content.Set r) ws (record { name = name; text = text; new = s.fresh; content = holding cs })
  set-holds cs s q r h = record {
    cs = cs;
    is-set = refl;
    kept = record { is = h.is; many = h.many; back = λ t ds e. read-back pool table text q t ds (rw h.is at e) };
    fresh = h.new;
  }

  pub read-page : (r : Result Read stop.NotRead) → ReadTo pool table pool' table' ws r (sheetRead pool table text)
      → (p : Page) × IsPage name text (contentOf r) ws p
  read-page r h = go (sheetRead pool table text) refl r h
    where
      go : (m : Sheet) → sheetRead pool table text ≡ m → (r : Result Read stop.NotRead) → ReadTo pool table pool' table' ws r m
          → (p : Page) × IsPage name text (contentOf r) ws p
      go (sheet cs s) q (Ok r) h = (_, record { named = refl; typed = refl; holds = set-holds cs s q r h })
      go (sheet cs s) q (Err e) h = absurd h
      go (refusedIn n l k) q (Ok r) h = absurd h
      go (refusedIn n l k) q (Err e) h = (
        record { name = name; text = text; new = 0; content = refusing n l k },
        record { named = refl; typed = refl; holds = rw (h.why, h.line, h.column) (refl, refl) },
      )

module _ {pool table : List ℕ} (good : Good pool table) (file : File) (pool' table' : List ℕ) (x : kept.Sheet) (named : x.name.now ≡ file.name.now) where
  pub set-read : (text : Bytes) → text_of file ≡ Ok text → x.text.now ≡ text → (r : Read) → x.content ≡ content.Set r
      → ReadTo pool table pool' table' x.records.items (Ok r) (sheetRead pool table text) → FileRead file pool table pool' table' x
  unfolding page_of
  set-read text given typed r c h = go (sheetRead pool table text) refl h
    where
      go : (m : Sheet) → sheetRead pool table text ≡ m → ReadTo pool table pool' table' x.records.items (Ok r) m → FileRead file pool table pool' table' x
      go (sheet cs s) q h = record {
        page = record { name = file.name.now; text = text; new = s.fresh; content = holding cs };
        is = record {
          named = named;
          typed = typed;
          holds = rw c (set-holds pool table pool' table' file.name.now text x.records.items cs s q r h);
        };
        after = λ f. rw (given, q, h.pools, h.tables) refl;
        good = rw (h.pools, h.tables) (read-keeps-good pool table text good q).0;
      }
      go (refusedIn n l k) q h = absurd h

  pub text-refused : (text : Bytes) → text_of file ≡ Ok text → x.text.now ≡ text → (e : stop.NotRead) → x.content ≡ content.Refused e
      → ReadTo pool table pool' table' x.records.items (Err e) (sheetRead pool table text) → FileRead file pool table pool' table' x
  unfolding page_of
  text-refused text given typed e c h = go (sheetRead pool table text) refl h
    where
      go : (m : Sheet) → sheetRead pool table text ≡ m → ReadTo pool table pool' table' x.records.items (Err e) m → FileRead file pool table pool' table' x
      go (sheet cs s) q h = absurd h
      go (refusedIn n l k) q h = record {
        page = record { name = file.name.now; text = text; new = 0; content = refusing n l k };
        is = record { named = named; typed = typed; holds = rw (c, h.why, h.line, h.column) (refl, refl) };
        after = λ f. rw (given, q, h.pools, h.tables) refl;
        good = rw (h.pools, h.tables) good;
      }

  pub file-unseen : (u : Unseen) → text_of file ≡ Err u → x.text.now ≡ [] → x.content ≡ content.Unseen u → pool' ≡ pool → table' ≡ table
      → FileRead file pool table pool' table' x
  file-unseen u given typed c p t = record {
    page = record { name = file.name.now; text = []; new = 0; content = lacking u };
    is = record { named = named; typed = typed; holds = rw c (refl, refl) };
    after = λ f. rw (given, p, t) refl;
    good = rw (p, t) good;
  }

  pub text-read : (text : Bytes) → text_of file ≡ Ok text → x.text.now ≡ text → (r : Result Read stop.NotRead) → x.content ≡ contentOf r
      → ReadTo pool table pool' table' x.records.items r (sheetRead pool table text) → FileRead file pool table pool' table' x
  text-read text given typed (Ok r) c h = set-read text given typed r c h
  text-read text given typed (Err e) c h = text-refused text given typed e c h
