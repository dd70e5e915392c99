-- Why the lines that are told conflict: they come from the call that finds them, over the table with all names.
use Rattle.std.specs.Prelude.{◌≡◌, refl, List, [], ◌∷◌, map, ℕ, zero, suc, length, take, drop, replicate, ◌≤◌}
use Rattle.std.proofs.Common.{sym, ap, subst, ◌∙◌, arith, inl, inr}
use Rattle.std.proofs.Math.Option.{Option, none, some}
use Rattle.std.proofs.lemmas.List.{length-map, length-replicate, take_at}
use Rattle.rules.specs.Base.{Got, got, collect}
use Rattle.rules.specs.Calls.{lent, over, resultAfter}
use Rattle.rules.specs.Conflicts.{Line, linesFrom, conflictOf, conflictCall}
use Rattle.rules.specs.Names.{Table, table_of}
use Rattle.rules.specs.Reports.{
  Finding,
  unseen,
  unread,
  agrees,
  denied,
  unjudged,
  remains,
  stops,
  findingOf,
  Content,
  holding,
  refusing,
  lacking,
  Page,
}
use Rattle.rules.specs.Trees.{Con}
use Rattle.rules.specs.Writing.{words, writeCon}
use Rattle.laws.specs.Lists.{Every}
use Rattle.laws.proofs.Lists.{every-as}
use Rattle.laws.specs.NameTable.{Good}
use Rattle.text_columns.proofs.Left.{read-back}
use Rattle.solve_conflict.specs.Theorems.{PartOf, ConflictTold}
use Rattle.solve_conflict.proofs.Worth.{conflicts-told}
use Rattle.edition_report.proofs.Placed.{lines-theirs}
use Rattle.edition.proofs.Sheets.{all-lent}
use Rattle.edition.specs.Why.{ifRemains, conflictOn, whyText, whyShown}
use Rattle.edition.specs.Theorems.{LinesTold, LinesToldOn, LinesConflict, ToldLinesConflict}
use Rattle.edition.proofs.Origins.{Origin, Rooted, RootedPage, on-pages}

-- nothing is found but where constraints remain
left-found : (f : Finding) (m : Got (Option (List (Line ℕ)))) (ls : List (Line ℕ)) → ifRemains f m ≡ got (some ls) → m ≡ got (some ls)
left-found (unseen u) m ls e = cc e
left-found (unread n l c) m ls e = cc e
left-found (agrees bs ns k) m ls e = cc e
left-found (denied i) m ls e = cc e
left-found (unjudged n) m ls e = cc e
left-found (remains ds k) m ls e = e
left-found (stops n k) m ls e = cc e

-- ══ Lines in their places ══

next : (whole : List (Con ℕ)) (k : ℕ) {c : Con ℕ} {cs : List (Con ℕ)} → drop k whole ≡ c ∷ cs → drop (suc k) whole ≡ cs
next [] zero e = let z : ◌≡◌ {A = ℕ} 0 1 = cc e in absurd (omega (arith, z))
next [] (suc k) e = let z : ◌≡◌ {A = ℕ} 0 1 = cc e in absurd (omega (arith, z))
next (x ∷ whole) zero e = cc e
next (x ∷ whole) (suc k) e = next whole k e

at-place : (whole : List (Con ℕ)) (ls : List (Line ℕ)) (k : ℕ) (cs : List (Con ℕ)) → drop k whole ≡ cs → PartOf ls (linesFrom k cs)
    → Every (λ l. drop l.0 whole ≡ l.1 ∷ drop (suc l.0) whole) ls
unfolding linesFrom
at-place whole [] k cs e h = tt
at-place whole (l ∷ ls) k [] e h = absurd h
at-place whole (l ∷ ls) k (c ∷ cs) e (inl h) = (rw h.0 (e ∙ ap (c ∷◌) (sym (next whole k e))), at-place whole ls (suc k) cs (next whole k e) h.1)
at-place whole (l ∷ ls) k (c ∷ cs) e (inr h) = at-place whole (l ∷ ls) (suc k) cs (next whole k e) h

-- ══ A set ══

-- over buffers that are long enough
module _ (pool table : List ℕ) (good : Good pool table) (result work : List ℕ) (long : length result ≡ 8192) (wide : 16384 ≤ length work) where
  abbrev t : Table
  t = table_of pool table

  room : lent pool table result work ≡ got tt
  room = all-lent good [] result work long wide

  module _ (set : List ℕ) (ls : List (Line ℕ)) (e : conflictOf t set ≡ got (some ls)) where
    call : ConflictTold pool table set result work (length ls)
    unfolding conflictCall
    call = conflicts-told pool table set result work (length ls) (rw (room, e) refl)

    buffer : (conflictCall pool table set result work).result ≡ over (map (λ l. l.0) ls) result
    unfolding conflictCall resultAfter
    buffer = rw (room, e) refl

    same : map (λ l. l.0) ls ≡ map (λ l. l.0) call.lines
    unfolding over
    same =
        let v = map (λ (l : Line ℕ). l.0) call.lines in
        let w = map (λ (l : Line ℕ). l.0) ls in
        let n : length w ≡ length v = length-map ls (λ (l : Line ℕ). l.0) ∙ sym (length-map call.lines (λ (l : Line ℕ). l.0) ∙ call.counted) in
        sym (take_at w (drop (length w) result) (length v) n) ∙ ap (take (length v)) (sym buffer ∙ call.written)
        ∙ take_at v (drop (length v) result) (length v) refl

  module _ (p : Page) (cs : List (Con ℕ)) (root : Origin p.text cs) (ls : List (Line ℕ)) where
    set-told : p.content ≡ holding cs → conflictOn t p.content ≡ got (some ls) → LinesTold t p cs
    unfolding conflictOn whyText
    set-told h e =
        let set = words (collect writeCon cs) in
        let found : conflictOf t set ≡ got (some ls) = left-found (findingOf t (holding cs)) (conflictOf t set) ls (rw h at e) in
        let x = call set ls found in
        let same-set : x.cs ≡ cs = read-back root.pool root.table p.text root.is t x.cs x.read in
        let part : PartOf x.lines (linesFrom 0 cs) = subst (λ (ds : List (Con ℕ)). PartOf x.lines (linesFrom 0 ds)) same-set x.part in
        record {
          lines = x.lines;
          told = ap (whyShown p.name p.text) e ∙ rw (same set ls found) refl;
          part = part;
          theirs = every-as (λ l d. lines-theirs root.pool root.table p.text cs root.after root.is l.0 l.1 d) x.lines (at-place cs x.lines 0 cs refl part);
          conflict = x.conflict;
        }

-- ══ An edition ══

enough : 16384 ≤ length {A = ℕ} (replicate 16384 0)
enough = subst (λ (n : ℕ). 16384 ≤ n) (sym (length-replicate {A = ℕ} 16384 0)) (omega arith)

page-told : (pool table : List ℕ) → Good pool table → (p : Page) → RootedPage p → LinesConflict (table_of pool table) p
unfolding conflictOn
page-told pool table g p root ls e = go p.content refl root
  where
    go : (c : Content) → p.content ≡ c → Rooted p.text c → LinesToldOn (table_of pool table) p c
    go (holding cs) h r = set-told pool table g (replicate 8192 0) (replicate 16384 0) (length-replicate {A = ℕ} 8192 0) enough p cs r ls h e
    go (refusing n l c) h r = cc (left-found (findingOf (table_of pool table) (refusing n l c)) (got none) ls (rw h at e))
    go (lacking u) h r = cc (left-found (findingOf (table_of pool table) (lacking u)) (got none) ls (rw h at e))

pub told-conflict : ToldLinesConflict
told-conflict = on-pages LinesConflict page-told
