-- What follows from the definitions of specs/Factors: names, factors and dimensions from point to point.
use Rattle.std.specs.Prelude.{◌≡◌, refl, Bool, true, false, leb, length, drop}
use Rattle.std.proofs.Common.{sym, ap, ◌∙◌, true≢false, arith, ne_eqb, leb-true, leb-false, drop_of_length-le, length-drop}
use mathlib.Core.List.{List, [], ◌∷◌}
use Prim.Native.Nat.{ℕ, suc, ◌-◌, ◌≤◌, ◌<◌}
use Prim.Native.Char.{Char, code}
use Rattle.rules.specs.Names.{Bytes}
use Rattle.rules.specs.Trees.{Atom, free, base, var, par}
use Rattle.rules.specs.Grammar.{Place, here, beyond, read, bad, Rule, skip, skipFrom, column, columnOf, left, pick, chosen}
use Rattle.rules.specs.Grammar.{NameAt, name, marks, markedWith}
use Rattle.rules.specs.Grammar.{◌>>◌}
use Rattle.text_scan.specs.Scanned.{place_in, nameIn}
use Rattle.text_scan.specs.Names.{NameRead}
use Rattle.text_grammar.specs.declared.inner.Point.TheVariants as point
use Rattle.text_grammar.specs.declared.inner.Point.{Point}
use Rattle.text_grammar.specs.Points.{Reads, PointIn, Any, marked, left_at, columnAt, from, begins, beginsAt}
use Rattle.text_grammar.proofs.Points.{in-turn}
use Rattle.text_grammar.specs.Factors.{noName, first_byte, byte_of, refusedFrom, noAtom, atom}

pub name-there : {line : Bytes} {at i k : ℕ} {d d' : List ℕ} → NameRead line at i k d d' → Reads line (point.At at) name Any (point.At i)
unfolding name
name-there {line} {at} r = record {
  within = r.within;
  onward = omega (arith, r.behind);
  value = record { column = suc at; bytes = r.bytes };
  is = rw r.is;
  holds = tt;
}

pub name-bad : {line : Bytes} {at q : ℕ} → nameIn line at ≡ bad (suc q) → Reads line (point.At at) name Any (point.Bad q)
unfolding name
name-bad e = record { within = tt; onward = omega arith; value = noName; is = rw e; holds = tt }

pub name-past : name beyond ≡ read noName beyond
unfolding name
name-past = refl

-- a rule for another byte is passed over
pub pick_other : {A : Type 0} (b : ℕ) (x : Char × Rule A) (xs : List (Char × Rule A)) → (b ≡ code x.0 → ⊥) → pick b (x ∷ xs) ≡ pick b xs
pick_other b x xs n = rw (ne_eqb b (code x.0) n, pick)

module _ {A : Type 0} (a : A) (xs : List (Char × Rule A)) (nothing : (c : ℕ) → pick 0 xs (here c []) ≡ bad c) where
  chosen-byte : (c : ℕ) (bs : Bytes) → chosen a xs (here c bs) ≡ pick (first_byte bs) xs (here c bs)
  chosen-byte c [] = sym (nothing c)
  chosen-byte c (b ∷ bs) = refl

  from-chosen : (line : Bytes) (R : Rule A) (k : ℕ) (s : Point) → 0 < k → byte_of line s ≡ k → pick k xs ≡ R → from line s (chosen a xs) ≡ from line s R
  from-chosen line R k (point.At i) h e f = chosen-byte (suc i) (drop i line) ∙ ap (λ (b : ℕ). pick b xs (place_in line i)) e
      ∙ ap (λ (r : Rule A). r (place_in line i)) f
  from-chosen line R k point.Deep h e f = absurd (omega arith)
  from-chosen line R k (point.Bad q) h e f = refl

  pub choose-this : {P : A → Type 0} {line : Bytes} {s r : Point} (R : Rule A) (k : ℕ) → 0 < k → byte_of line s ≡ k → pick k xs ≡ R → Reads line s R P r
      → Reads line s (chosen a xs) P r
  choose-this {P} {line} {s} {r} R k h e f y = record {
    within = y.within;
    onward = y.onward;
    value = y.value;
    is = from-chosen line R k s h e f
        ∙ y.is;
    holds = y.holds;
  }

  pub choose-none : {P : A → Type 0} (line : Bytes) (s : Point) → ((p : Place) → pick (byte_of line s) xs p ≡ bad (columnOf p)) → P a
      → Reads line s (chosen a xs) P (refusedFrom s)
  choose-none line (point.At i) f h = record {
    within = tt;
    onward = omega arith;
    value = a;
    is = chosen-byte (suc i) (drop i line)
        ∙ f (place_in line i);
    holds = h;
  }
  choose-none line point.Deep f h = record { within = tt; onward = omega arith; value = a; is = refl; holds = h }
  choose-none line (point.Bad q) f h = record { within = tt; onward = omega arith; value = a; is = refl; holds = h }

-- ══ Factors ══

-- a mark of this byte, and the name right behind it
abbrev pub markName : ℕ → Rule NameAt
markName b = marked b >> name

no-mark : (c : ℕ) → pick 0 marks (here c []) ≡ bad c
no-mark c = refl

no-marks : (b : ℕ) → (b ≡ 63 → ⊥) → (b ≡ 33 → ⊥) → (b ≡ 35 → ⊥) → pick b marks ≡ (λ p. bad (columnOf p))
no-marks b h i j =
    let l : List (Char × Rule (Atom NameAt)) = markedWith "#" base ∷ [] in
    let m : Char × Rule (Atom NameAt) = markedWith "!" (λ n. free (par n)) in
    pick_other b (markedWith "?" (λ n. free (var n))) (m ∷ l) h ∙ pick_other b m l i ∙ pick_other b (markedWith "#" base) [] j

pub atom-none : {line : Bytes} {p s : Point} → Reads line p column (λ (k : ℕ). k ≡ columnAt s) s → (byte_of line s ≡ 63 → ⊥) → (byte_of line s ≡ 33 → ⊥)
    → (byte_of line s ≡ 35 → ⊥)
    → Reads line p atom Any (refusedFrom s)
atom-none {line} {p} {s} x h i j =
    in-turn column (λ c. chosen noAtom marks) x
    (λ c hc. choose-none noAtom marks no-mark line s (λ q. ap (λ (f : Rule (Atom NameAt)). f q) (no-marks (byte_of line s) h i j)) tt)

-- ══ Dimensions ══

nothing-begins : (line : Bytes) (i b : ℕ) → length line ≤ i → begins (skip (place_in line i)) b ≡ false
unfolding skip skipFrom begins
nothing-begins line i b h = rw (drop_of_length-le line {i = i} h)

-- what begins with a byte has a byte left
pub begun : (line : Bytes) (b : ℕ) (p : Point) → PointIn line p → true ≡ beginsAt line p b → 0 < left_at line p
begun line b (point.At i) h e = go (leb (length line) i) refl
  where
    go : (t : Bool) → leb (length line) i ≡ t → 0 < length line - i
    go true q = absurd (true≢false (e ∙ nothing-begins line i b (leb-true (length line) i q)))
    go false q = omega (arith, leb-false (length line) i q)
begun line b point.Deep h e = absurd (true≢false e)
begun line b (point.Bad q) h e = absurd (true≢false e)

pub left_there : (line : Bytes) (p : Point) → PointIn line p → Reads line p left (λ (n : ℕ). left_at line p ≤ n) p
left_there line (point.At i) h = record {
  within = h;
  onward = omega arith;
  value = length (drop i line);
  is = refl;
  holds = omega (arith, length-drop i line);
}
left_there line point.Deep h = record { within = tt; onward = omega arith; value = 0; is = refl; holds = omega arith }
left_there line (point.Bad q) h = record { within = tt; onward = omega arith; value = 0; is = refl; holds = omega arith }
