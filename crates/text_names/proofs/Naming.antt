-- What follows from the definitions of specs/Naming: a name that was read, and entered where it stands.
use Rattle.std.specs.Prelude.{◌≡◌, Bool, true, false, ◌&&◌, List, [], ◌++◌, ℕ, suc, ◌+◌, ◌≤◌, ◌<◌, Ok, Err, leb, length, take, drop}
use Rattle.std.proofs.Math.Path.{refl, ap}
use Rattle.std.proofs.Common.{sym, subst, ◌∙◌, arith, take_at}
use Rattle.std.proofs.lemmas.Bool.{lt-leb}
use Rattle.std.proofs.lemmas.List.Edits.{sets-eq}
use Rattle.std.proofs.Math.Bool.{and-false}
use Rattle.rules.specs.Base.{need}
use Rattle.rules.specs.Names.{Bytes, Entered, enterChecked}
use Rattle.rules.specs.Writing.{words}
use Rattle.rules.specs.Grammar.{NameAt, name}
use Rattle.rules.specs.TextReading.{newIn, enterName, named}
use Rattle.rules.specs.TextReading as TextReading
use Rattle.rules.specs.Refusals.{told}
use Rattle.rules.specs.declared.Refusal.TheVariants.{NameLength}
use Rattle.rules.specs.declared.Was.{Was}
use Rattle.rules.specs.declared.Was.TheVariants.{New, Known}
use Rattle.laws.specs.NameTable.{Good}
use Rattle.text_laws.proofs.Entry.{Entry, entry}
use Rattle.names.specs.Told.{entered}
use Rattle.text_scan.specs.Names.{NameRead}
use Rattle.text_names.specs.Effects.{lent, sofar, Room, Kept, Effect, Done}
use Rattle.text_names.proofs.Effects.{did, stops, not-past}
use Rattle.text_names.proofs.Stands.{same-going}
use Rattle.text_grammar.specs.declared.inner.Point.TheVariants as point
use Rattle.text_names.specs.Stands as stand
use Rattle.text_names.specs.Naming.{Answer, standAfter, numberTold, NumberTold, Front}

pub new-small : (w : Was) → newIn w ≤ 1
new-small New = omega arith
new-small Known = omega arith

module _ {a : Answer} (at k n : ℕ) where
  pub after-number : {j : ℕ} {p : ℕ × Was} → a ≡ Ok p → j ≡ k + newIn p.1 → stand.Going j n ≡ standAfter at k n a
  after-number e f = rw (e, f)

pub front-short : {d : List ℕ} {long : ℕ} {n : Bytes} → Front d long n → long ≤ 48 → take long d ≡ n
front-short {d} {long} {n} f h =
    let e : d ≡ n ++ drop (0 + length n) f.before = f.is ∙ sets-eq n f.before 0 (omega (arith, f.size, f.count)) in
    rw e (take_at n (drop (0 + length n) f.before) long (sym f.count))

-- a name that goes in is that part of the buffer
pub front-entered : {d : List ℕ} {long : ℕ} {n : Bytes} (pool table : List ℕ) → Front d long n → long ≤ 48 → (m : Bytes) → m ≡ take long d
    → enterChecked (need (leb 1 (length m) && leb (length m) 48) 2) pool table m ≡ enterName pool table n
unfolding enterName
front-entered pool table f h m e = rw (e, front-short f h)

pub front_of : {line : Bytes} {at i long : ℕ} {d d' : List ℕ} (r : NameRead line at i long d d') → length d ≡ 48 → Front d' long r.bytes
front_of {line} {at} {i} {long} {d} {d'} r h = record { count = r.count; before = d; size = h; is = r.buffer }

-- a name of over 48 bytes
pub too_long : (pool table : List ℕ) (n : Bytes) → 48 < length n → entered (Err NameLength) pool table ≡ enterName pool table n
unfolding enterName enterChecked
too_long pool table n h = rw (lt-leb (length n) 48 h, and-false (leb 1 (length n)))

-- ══ A name, read and entered ══

module _ {pool table pool' table' : List ℕ} (n : Bytes) (a : Answer) (e : entered a pool' table' ≡ enterName pool table n) (g : Good pool table) where
  entry-told : Entry pool table pool' table' (told a)
  entry-told = subst (λ (r : Entered). Entry pool table r.pool r.table r.answer) (sym e) (entry g n)

abbrev nameThere : ℕ → Bytes → NameAt
nameThere at n = record { column = suc at; bytes = n }

module _ (pool table pool' table' : List ℕ) (at k l : ℕ) (room : Room table k l) (dst : List ℕ) where
  named-kept : (a : Answer) → Entry pool table pool' table' (told a) → Kept (lent pool table dst (stand.Going k l))
      (lent pool' table' dst (standAfter at k l a))
  named-kept a t = record {
    good = t.good;
    more = t.more;
    names = t.names;
    held = t.held;
    pool-long = t.pool-long;
    table-long = t.table-long;
    dst-long = refl;
    pool-behind = t.pool-behind;
    table-behind = t.table-behind;
    refused = λ r c q. absurd (cc);
    above = λ i j i' j' p q. above a i j i' j' p q;
    room = roomy a t;
  }
    where
      above : (a : Answer) (i j i' j' : ℕ) → stand.Going k l ≡ stand.Going i j → standAfter at k l a ≡ stand.Going i' j' → j ≤ j'
      above (Ok x) i j i' j' p q = let u = same-going refl p in let v = same-going refl q in omega (arith, u.1, v.1)
      above (Err why) i j i' j' p q = absurd (cc)

      roomy : (a : Answer) → Entry pool table pool' table' (told a) → (i j : ℕ) → standAfter at k l a ≡ stand.Going i j → Room table' i j
      roomy (Ok x) t i j q =
          let v = same-going refl q in
          let h = t.number x.0 x.1 refl in
          record { names = omega (arith, h.1, room.names, v.0); records = omega (arith, room.records, v.1) }
      roomy (Err why) t i j q = absurd (cc)

  module _ (n : Bytes) where
    named-is : (a : Answer) → entered a pool' table' ≡ enterName pool table n
        → named (nameThere at n) (sofar (lent pool table dst (stand.Going k l)) k l) ≡ TextReading.entered (suc at)
        (sofar (lent pool table dst (stand.Going k l)) k l) (entered a pool' table') (told a)
    unfolding named
    named-is a e = ap (λ (r : Entered). TextReading.entered (suc at) (sofar (lent pool table dst (stand.Going k l)) k l) r r.answer) (sym e)

    named-effect : (a : Answer) → entered a pool' table' ≡ enterName pool table n → Entry pool table pool' table' (told a)
        → Effect (named (nameThere at n)) (NumberTold table' (numberTold a)) (lent pool table dst (stand.Going k l))
        (lent pool' table' dst (standAfter at k l a))
    unfolding words
    named-effect (Ok x) e t =
        did refl refl (record {
          value = x.0;
          records = [];
          is = named-is (Ok x) e;
          tells = record { is = refl; held = (t.number x.0 x.1 refl).0; none = refl };
          written = refl;
          grown = omega arith;
        })
    named-effect (Err why) e t = stops refl refl (named-is (Err why) e)

  pub named-done : {line : Bytes} {i long : ℕ} {d d' : List ℕ} → Good pool table → (r : NameRead line at i long d d') (a : Answer)
      → entered a pool' table' ≡ enterName pool table r.bytes
      → Done line name named (NumberTold table' (numberTold a)) (point.At at) (lent pool table dst (stand.Going k l)) (point.At i)
      (lent pool' table' dst (standAfter at k l a))
  unfolding name
  named-done {line} {i} g r a e =
      let t = entry-told r.bytes a e g in
      record {
        reads = record {
          within = r.within;
          onward = omega (arith, r.behind);
          value = nameThere at r.bytes;
          is = rw r.is;
          holds = λ h. named-effect r.bytes a e t;
        };
        kept = named-kept a t;
        halted = not-past;
      }
