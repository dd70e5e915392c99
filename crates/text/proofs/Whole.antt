-- What the call answers, from the lines that were put.
use Rattle.std.specs.Prelude.{◌≡◌, Bool, false, ◌&&◌, ℕ, ◌+◌, ◌/◌, ◌≤◌, ◌<◌, take, drop, Ok, Err}
use Rattle.std.proofs.Math.Path.{refl}
use Rattle.std.proofs.Common.{sym, ap, ◌∙◌, arith, take-append-drop}
use Rattle.std.proofs.lemmas.List.{length-take-le}
use Rattle.std.proofs.Math.Bool.{true}
use mathlib.Core.List.{List, [], ◌∷◌, ◌++◌}
use borrow.Author.Tests.{leb-true, lt-leb, le-leb}
use Rattle.std.proofs.Math.Dec.{leb}
use Rattle.std.proofs.Math.ListN.{length}
use Rattle.rules.specs.Base.{Got, got, refused, ◌>>=◌, ◌>>◌, need, all, sum_of}
use Rattle.rules.specs.Names.{Bytes, table_of, numbersOf, is_held, lentTable}
use Rattle.rules.specs.Trees.{Con, sizeCon}
use Rattle.rules.specs.WellFormed.{goodCon}
use Rattle.rules.specs.Calls.{listing, resultAfter, over, aloneGiven, shortLists, tableKept, setGiven, setCall}
use Rattle.laws.proofs.Checks.{passed, need-passed}
use Rattle.laws.specs.Lists.{and_left}
use Rattle.laws.proofs.Lists.{clash}
use Rattle.laws.specs.NameTable.{Good}
use Rattle.records.specs.Found.{Words32}
use Rattle.records.specs.Good.{Chain, GoodCon}
use Rattle.records.proofs.Whole.{entry-good, set_is}
use Rattle.text_laws.proofs.Lengths.{set-fits}
use Rattle.rules.specs.TextWriting.{setText, text_of, writeTextCall, namesIn}
use Rattle.text_write.specs.Rows.{LinesAt}
use Rattle.text_spell.specs.Sinks.{Place, Puts}

-- ══ A row of checks ══

same : (j n : ℕ) → ◌≡◌ {A = Got (Unit {0})} (refused j) (refused n) → j ≡ n
same j n q = cc

row-stopped : {A : Type 0} (l t s k : Got (Unit {0})) (m : Got A) (f : A → Bytes) (n : ℕ) → t ≡ got tt → (l >> s >> k >> m >> got (tt {0})) ≡ refused n
    → (l >>= λ _. t >>= λ _. s >>= λ _. k >>= λ _. m >>= λ x. got (f x)) ≡ refused n
row-stopped (refused j) t s k m f n e h = ap refused (same j n h)
row-stopped (got u) t (refused j) k m f n e h = rw e (ap refused (same j n h))
row-stopped (got u) t (got v) (refused j) m f n e h = rw e (ap refused (same j n h))
row-stopped (got u) t (got v) (got w) (refused j) f n e h = rw e (ap refused (same j n h))
row-stopped (got u) t (got v) (got w) (got x) f n e h = clash (sym h)

row-given : {A : Type 0} (l t s k : Got (Unit {0})) (m : Got A) (f : A → Bytes) (x : A) → t ≡ got tt → (l >> s >> k) ≡ got tt → m ≡ got x
    → (l >>= λ _. t >>= λ _. s >>= λ _. k >>= λ _. m >>= λ x. got (f x)) ≡ got (f x)
row-given (refused j) t s k m f x e h g = clash h
row-given (got u) t (refused j) k m f x e h g = clash h
row-given (got u) t (got v) (refused j) m f x e h g = clash h
row-given (got u) t (got v) (got w) m f x e h g = rw (e, g) refl

second : (l s k : Got (Unit {0})) → (l >> s >> k) ≡ got tt → s ≡ got tt
second (refused j) s k h = clash h
second (got u) (refused j) k h = clash h
second (got u) (got v) k h = refl

short_row : (b : Bool) (t : Got (Unit {0})) (m : Got Bytes) → t ≡ refused 10 → (need b 10 >>= λ _. t >>= λ _. m) ≡ refused 10
short_row true t m e = rw e refl
short_row false t m e = refl

-- ══ The call ══

module _ (pool table ws text : List ℕ) where
  abbrev conGood : Con ℕ → Bool
  conGood c = goodCon (numbersOf (table_of pool table)) (is_held (table_of pool table)) 0 c

  pub text-short : length text < 354304 → writeTextCall pool table ws text ≡ record { answer = refused 10; result = text }
  unfolding writeTextCall text_of listing resultAfter lentTable
  text-short h =
      let rest : Got Bytes =
      shortLists (ws ∷ []) >>= λ _. tableKept (table_of pool table) >>= λ _. setGiven (table_of pool table) ws
      >>= λ cs. got (setText (namesIn (table_of pool table)) cs) in
      rw (short_row (leb 8192 (length pool) && leb 257 (length table)) (need (leb 354304 (length text)) 10) rest (rw (lt-leb 354304 (length text) h) refl)) refl

  module _ (room : 354304 ≤ length text) where
    pub text-refused : (n : ℕ) → setCall pool table ws ≡ refused n → writeTextCall pool table ws text ≡ record { answer = refused n; result = text }
    unfolding writeTextCall text_of listing resultAfter setCall aloneGiven
    text-refused n h = rw (row-stopped (lentTable pool table) (need (leb 354304 (length text)) 10) (shortLists (ws ∷ []))
        (tableKept (table_of pool table)) (setGiven (table_of pool table) ws) (setText (namesIn (table_of pool table))) n
        (rw (le-leb 354304 (length text) room) refl) h) refl

    -- a well formed set, where it stands
    pub record Given (cs : List (Con ℕ)) : Type 0 where
      pub good : Good pool table
      pub given : text_of pool table ws text ≡ got (setText (namesIn (table_of pool table)) cs)
      pub lines : LinesAt pool table ws 0 cs
      pub few : length ws ≤ 8192

    pub set-in : Words32 ws → setCall pool table ws ≡ got tt → (cs : List (Con ℕ)) × Given cs
    unfolding text_of setCall aloneGiven shortLists all
    set-in w e =
        let (cs, (a, g)) = passed (aloneGiven pool table ws) (setGiven (table_of pool table) ws) e in
        let k = need-passed (leb (length ws) 8192 && true) 8
        (second (lentTable pool table) (need (leb (length ws) 8192 && true) 8) (tableKept (table_of pool table)) a) in
        let few = leb-true (length ws) 8192 (and_left (leb (length ws) 8192) true k) in (
          cs,
          record {
            good = entry-good pool table ws a;
            given = row-given (lentTable pool table) (need (leb 354304 (length text)) 10) (shortLists (ws ∷ [])) (tableKept (table_of pool table))
                (setGiven (table_of pool table) ws) (setText (namesIn (table_of pool table))) cs (rw (le-leb 354304 (length text) room) refl) a g;
            lines = record { chain = set_is pool table ws w cs g };
            few = few;
          },
        )

    chain-size : (cs : List (Con ℕ)) (at : ℕ) → Chain (GoodCon pool table 0 ws) (length ws / 4) cs at → at + sum_of sizeCon cs ≡ length ws / 4
    chain-size [] at h = omega (arith, h)
    chain-size (c ∷ cs) at h = omega (arith, chain-size cs h.0 h.1.1, h.1.0.past)

    chain-good : (cs : List (Con ℕ)) (at : ℕ) → Chain (GoodCon pool table 0 ws) (length ws / 4) cs at → all conGood cs ≡ true
    unfolding all
    chain-good [] at h = refl
    chain-good (c ∷ cs) at h = rw h.1.0.good (chain-good cs h.0 h.1.1)

    -- the lines have room
    pub text-fits : (cs : List (Con ℕ)) → Given cs → length (setText (namesIn (table_of pool table)) cs) ≤ length text
    text-fits cs x =
        let n = set-fits x.good cs (chain-good cs 0 x.lines.chain) in
        let m = chain-size cs 0 x.lines.chain in
        omega (arith, n, m, x.few, room)

    pub text-given : {E : Type 0} {d : List ℕ} {k loan after : ℕ} (cs : List (Con ℕ)) → Given cs → k ≤ length d
        → Puts {E = E} (record { held = []; room = text; loan = loan }) (setText (namesIn (table_of pool table)) cs) (Ok tt)
        (record { held = take k d; room = drop k d; loan = after })
        → record { answer = got k; result = d } ≡ writeTextCall pool table ws text
    unfolding writeTextCall listing resultAfter over
    text-given {E} {d} {k} {loan} {after} cs x le p =
        let lines : Bytes = setText (namesIn (table_of pool table)) cs in
        let a : k ≡ length lines = sym (length-take-le k d le) ∙ ap length p.puts in
        let b : d ≡ lines ++ drop (length lines) text = sym (take-append-drop k d) ∙ ap (λ (t : Bytes). t ++ drop k d) p.puts
        ∙ ap (λ (t : Bytes). lines ++ t) p.rest in
        rw (x.given, a, b) refl

-- no lines are refused where they have room
pub has-room : {E : Type 0} {text lines : Bytes} {loan : ℕ} {e : E} {after : Place} → length lines ≤ length text
    → Puts (record { held = []; room = text; loan = loan }) lines (Err e) after → ⊥
has-room le p = omega (arith, le, p.full)
