-- What follows from the definitions of specs/Names: a name read letter by letter, and its bytes at the front of a buffer.
use Rattle.std.specs.Prelude.{◌≡◌, refl, List, [], ◌∷◌, ◌++◌, ℕ, ◌+◌, ◌≤◌, length, set}
use Rattle.std.proofs.Common.{sym, ap, ◌∙◌, arith, length-append}
use Rattle.std.proofs.lemmas.List.Edits.{sets}
use Rattle.records.proofs.Stores.{sets-append}
use Rattle.rules.specs.Names.{Bytes}
use Rattle.rules.specs.Grammar.{Place, Parsed, read, bad, more}
use Rattle.text_scan.specs.Scanned.{place_in, nameIn, ByteThen}
use Rattle.text_scan.specs.Names.{NameRead}

-- bytes in front of what is read behind them
unfoldable pub prefix : Bytes → Parsed Bytes → Parsed Bytes
prefix [] m = m
prefix (b ∷ n) m = more b (prefix n m)

prefix-more : (n : Bytes) (b : ℕ) (m : Parsed Bytes) → prefix (n ++ (b ∷ [])) m ≡ prefix n (more b m)
unfolding prefix
prefix-more [] b m = refl
prefix-more (x ∷ n) b m = ap (more x) (prefix-more n b m)

prefix-read : (n : Bytes) (p : Place) → prefix n (read [] p) ≡ read n p
unfolding prefix
prefix-read [] p = refl
prefix-read (x ∷ n) p = ap (more x) (prefix-read n p)

prefix-bad : (n : Bytes) (c : ℕ) → prefix n (bad c) ≡ bad c
unfolding prefix
prefix-bad [] c = refl
prefix-bad (x ∷ n) c = ap (more x) (prefix-bad n c)

-- what was read of a name, when a place i is reached
pub record Reading (line : Bytes) (at i k : ℕ) (d d' : List ℕ) : Type 0 where
  pub within : i ≤ length line
  pub behind : at ≤ i
  pub bytes : Bytes
  pub is : nameIn line at ≡ prefix bytes (nameIn line i)
  pub count : k ≡ length bytes
  pub buffer : d' ≡ sets d 0 bytes
  pub few : k ≤ i

pub starts : (line : Bytes) (at : ℕ) (d : List ℕ) → at ≤ length line → Reading line at at 0 d d
unfolding prefix
starts line at d h = record { within = h; behind = omega arith; bytes = []; is = refl; count = refl; buffer = refl; few = omega arith }

pub goes_on : {line : Bytes} {at i k b next : ℕ} {d d₁ d₂ : List ℕ} → Reading line at i k d d₁ → ByteThen line i b next → d₂ ≡ set d₁ k b
    → Reading line at next (k + 1) d d₂
goes_on {line} {at} {i} {k} {b} {next} {d} {d₁} {d₂} r t e = record {
  within = t.within;
  behind = omega (arith, r.behind, t.further);
  bytes = r.bytes ++ (b ∷ []);
  is = r.is ∙ ap (prefix r.bytes) t.is ∙ sym (prefix-more r.bytes b (nameIn line next));
  count = simp length-append (omega (arith, r.count));
  buffer = e ∙ ap (λ (x : List ℕ). set x k b) r.buffer ∙ ap (λ (n : ℕ). set (sets d 0 r.bytes) n b) r.count
      ∙ sym (sets-append r.bytes (b ∷ []) d 0 ∙ ap (λ (n : ℕ). set (sets d 0 r.bytes) n b) (omega arith));
  few = omega (arith, r.few, t.further);
}

pub ends : {line : Bytes} {at i k : ℕ} {d d' : List ℕ} → Reading line at i k d d' → nameIn line i ≡ read [] (place_in line i) → NameRead line at i k d d'
ends {line} {at} {i} r e = record {
  within = r.within;
  behind = r.behind;
  bytes = r.bytes;
  is = r.is ∙ ap (prefix r.bytes) e
      ∙ prefix-read r.bytes (place_in line i);
  count = r.count;
  buffer = r.buffer;
}

pub fails : {line : Bytes} {at i k c : ℕ} {d d' : List ℕ} → Reading line at i k d d' → nameIn line i ≡ bad c → nameIn line at ≡ bad c
fails {line} {at} {i} {k} {c} r e = r.is ∙ ap (prefix r.bytes) e ∙ prefix-bad r.bytes c
