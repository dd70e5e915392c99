-- What follows from the definitions of specs/Upto: a sheet read line after line: how far it is read, and how it ends.
use Rattle.std.specs.Prelude.{◌≡◌, refl, ℕ, suc, ◌+◌, ◌*◌, ◌≤◌, ◌<◌, drop}
use Rattle.std.proofs.Common.{sym, ◌∙◌}
use Rattle.std.proofs.Math.Path.{ap}
use mathlib.Core.List.{List, [], ◌∷◌, ◌++◌, append_assoc, append-nil}
use native.Mathlib.Omega.{arith}
use Rattle.std.proofs.Math.ListN.{length, length-append}
use Rattle.std.proofs.lemmas.List.Edits.{sets}
use Rattle.rules.specs.Base.{collect}
use Rattle.rules.specs.Names.{Bytes}
use Rattle.rules.specs.Trees.{Con, equal, isDim, is_scalar, hasField}
use Rattle.rules.specs.Writing.{words, writeCon}
use Rattle.rules.specs.Grammar.{lines_of}
use Rattle.rules.specs.TextReading.{Sofar, Told, told, refusedAt, lineRead, sheet, refusedIn, with, nextLine, lines_read, unread, sheetRead}
use Rattle.laws.proofs.Contents.{collect-append}
use Rattle.laws.proofs.Size.{words_append, words-length}
use Rattle.records.proofs.Stores.{sets-append}
use Rattle.text_laws.proofs.Promise.{read-on}
use Rattle.text_columns.specs.Cut.{Cut, line_at}
use Rattle.text_columns.specs.Upto.{Upto, Whole}

-- ══ What a line adds ══

-- what a line did that is read: its constraints are told, and their records written behind those before
pub record LineAdds (l : Bytes) (s : Sofar) (d : List ℕ) (c : ℕ) (s' : Sofar) (d' : List ℕ) : Type 0 where
  pub cons : List (Con ℕ)
  pub is : lineRead l s ≡ told cons s'
  pub many : c ≡ length cons
  pub records : s'.records ≡ s.records + length (collect writeCon cons)
  pub written : d' ≡ sets d (s.records * 4) (words (collect writeCon cons))

-- each constraint has a record
one-record : (c : Con ℕ) → 1 ≤ length (writeCon c)
unfolding writeCon
one-record (equal l r) = omega arith
one-record (isDim t) = omega arith
one-record (is_scalar p) = omega arith
one-record (hasField n s t) = omega arith

records-each : (cs : List (Con ℕ)) → length cs ≤ length (collect writeCon cs)
unfolding collect
records-each [] = omega arith
records-each (c ∷ cs) = omega (arith, length-append (writeCon c) (collect writeCon cs), one-record c, records-each cs)

-- constraints behind constraints: their records, and where they are written
pub record Both (cs ds : List (Con ℕ)) (dst d' : List ℕ) : Type 0 where
  pub long : length (collect writeCon (cs ++ ds)) ≡ length (collect writeCon cs) + length (collect writeCon ds)
  pub there : d' ≡ sets dst 0 (words (collect writeCon (cs ++ ds)))

both : (cs ds : List (Con ℕ)) (dst d d' : List ℕ) (n : ℕ) → n ≡ length (collect writeCon cs) → d ≡ sets dst 0 (words (collect writeCon cs))
    → d' ≡ sets d (n * 4) (words (collect writeCon ds)) → Both cs ds dst d'
both cs ds dst d d' n e f g =
    let a = collect writeCon cs in
    let b = collect writeCon ds in
    let k : n * 4 ≡ 0 + length (words a) = omega (arith, words-length a) in
    record {
      long = ap length (collect-append writeCon cs ds) ∙ length-append a b;
      there = g ∙ rw (f, k) (sym (sets-append (words a) (words b) dst 0))
          ∙ ap (sets dst 0) (sym (words_append a b) ∙ sym (ap words (collect-append writeCon cs ds)));
    }

-- ══ A sheet, read so far ══

module _ (pool table text dst : List ℕ) where
  pub begins : Upto pool table text dst 0 0 0 (unread pool table) dst
  unfolding lines_read collect words
  begins = record {
    lines = [];
    cons = [];
    cut = refl;
    read = refl;
    passed = refl;
    many = refl;
    records = refl;
    written = refl;
    within = omega arith;
    few = omega arith;
  }

  -- one line more
  step : (l : Bytes) (ls : List Bytes) (cs ds : List (Con ℕ)) (s s' : Sofar) → lines_read 1 ls (unread pool table) ≡ sheet cs s → lineRead l s ≡ told ds s'
      → lines_read 1 (ls ++ (l ∷ [])) (unread pool table) ≡ sheet (cs ++ ds) s'
  unfolding lines_read
  step l ls cs ds s s' e h = read-on ls (l ∷ []) 1 (unread pool table) cs s e ∙ rw h (ap (λ (k : List (Con ℕ)). sheet (cs ++ k) s') (append-nil ds))

  module _ {at m c : ℕ} {s : Sofar} {d : List ℕ} (u : Upto pool table text dst at m c s d) {r : ℕ} (w : Cut text at r) where
    module _ {j : ℕ} {s' : Sofar} {d' : List ℕ} (x : LineAdds (line_at text at r) s d j s' d') where
      behind : Both u.cons x.cons dst d'
      behind = both u.cons x.cons dst d d' s.records u.records u.written x.written

      pub counts : c + j ≤ s'.records
      counts = omega (arith, u.many, x.many, u.records, x.records, behind.long, records-each u.cons, records-each x.cons)

      pub goes_on : r < length text → Upto pool table text dst (r + 1) (m + 1) (c + j) s' d'
      goes_on h = record {
        lines = u.lines ++ (line_at text at r ∷ []);
        cons = u.cons ++ x.cons;
        cut = u.cut ∙ ap (λ (ls : List Bytes). u.lines ++ ls) (w.is ∙ ap (λ (ls : List Bytes). line_at text at r ∷ ls) (w.more h))
            ∙ sym (append_assoc u.lines (line_at text at r ∷ []) (lines_of (drop (r + 1) text)));
        read = step (line_at text at r) u.lines u.cons x.cons s s' u.read x.is;
        passed = omega (arith, u.passed, length-append u.lines (line_at text at r ∷ []));
        many = omega (arith, u.many, x.many, length-append u.cons x.cons);
        records = omega (arith, u.records, x.records, behind.long);
        written = behind.there;
        within = omega arith;
        few = omega (arith, u.few, w.behind);
      }

      pub ends : r ≡ length text → Whole pool table text dst (c + j) s' d'
      unfolding sheetRead
      ends h = record {
        cons = u.cons ++ x.cons;
        is = ap (λ (ls : List Bytes). lines_read 1 ls (unread pool table))
            (u.cut ∙ ap (λ (ls : List Bytes). u.lines ++ ls) (w.is ∙ ap (λ (ls : List Bytes). line_at text at r ∷ ls) (w.last h)))
            ∙ step (line_at text at r) u.lines u.cons x.cons s s' u.read x.is;
        many = omega (arith, u.many, x.many, length-append u.cons x.cons);
        records = omega (arith, u.records, x.records, behind.long);
        written = behind.there;
      }

    -- whatever lines stand behind it
    pub refuses : (n q : ℕ) → lineRead (line_at text at r) s ≡ refusedAt n q → sheetRead pool table text ≡ refusedIn n (m + 1) q
    unfolding sheetRead lines_read
    refuses n q h =
        ap (λ (ls : List Bytes). lines_read 1 ls (unread pool table)) (u.cut ∙ ap (λ (ls : List Bytes). u.lines ++ ls) w.is)
        ∙ read-on u.lines (line_at text at r ∷ w.rest) 1 (unread pool table) u.cons s u.read
        ∙ ap (λ (t : Told (List (Con ℕ))). with u.cons (nextLine (1 + length u.lines) t (λ s'. lines_read (suc (1 + length u.lines)) w.rest s'))) h
        ∙ ap (λ (k : ℕ). refusedIn n k q) (omega (arith, u.passed))
