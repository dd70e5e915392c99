-- What follows from the definitions of specs/Signs: signs of several bytes, and the types without a type inside.
use Rattle.std.specs.Prelude.{◌≡◌, refl, Bool, true, false, [], ◌∷◌, ℕ, suc, ◌+◌, ◌≤◌, eqb, length, drop}
use Rattle.std.proofs.Common.{sym, arith}
use Rattle.std.proofs.Math.ListN.{length-drop}
use Rattle.rules.specs.Names.{Bytes}
use Rattle.rules.specs.Trees.{Open, Basic}
use Rattle.rules.specs.Grammar.{Place, here, beyond, Parsed, read, bad, Rule, give, skip, spell, spellFrom, column, NameAt, name, TyAt, open_at}
use Rattle.rules.specs.Grammar.{basicAt, ◌>>=◌, ◌>>◌}
use Rattle.text_scan.specs.Scanned.{place_in, Skipped}
use Rattle.text_grammar.specs.Points.{Reads, Any, marked}
use Rattle.text_grammar.proofs.Points.{skip_is}
use Rattle.text_grammar.specs.declared.inner.Point.TheVariants as point
use Rattle.text_grammar.specs.Signs.{spelled}

pub bad≢read : {A : Type 0} {c : ℕ} {a : A} {p : Place} → bad c ≡ read a p → ⊥
bad≢read e = cc

-- how long a sign is that was read
pub record Long (ws bs : Bytes) (c c' : ℕ) : Type 0 where
  pub end : c' ≡ c + length ws
  pub fits : length ws ≤ length bs

spell-long : (ws bs : Bytes) (c c' : ℕ) (bs' : Bytes) → spellFrom ws c bs ≡ read tt (here c' bs') → Long ws bs c c'
unfolding spellFrom
spell-long [] bs c c' bs' e = let z : c ≡ c' = cc in record { end = omega arith; fits = omega arith }
spell-long (w ∷ ws) [] c c' bs' e = absurd (bad≢read e)
spell-long (w ∷ ws) (b ∷ bs) c c' bs' e = go (eqb b w) e (spell-long ws bs (suc c) c' bs')
  where
    go : (t : Bool) → ◌≡◌ {A = Parsed (Unit {0})} (elim t [ true ↦ spellFrom ws (suc c) bs | false ↦ bad c ]) (read tt (here c' bs'))
        → (spellFrom ws (suc c) bs ≡ read tt (here c' bs') → Long ws bs (suc c) c') → Long (w ∷ ws) (b ∷ bs) c c'
    go true q f = let l = f q in record { end = omega (arith, l.end); fits = omega (arith, l.fits) }
    go false q f = absurd (bad≢read q)

module _ {line : Bytes} (ws : Bytes) {at i : ℕ} (s : Skipped line at i) where
  pub sign-spelt : {r : ℕ} → read tt (place_in line r) ≡ spellFrom ws (suc i) (drop i line) → Reads line (point.At at) (spelled ws) Any (point.At r)
  unfolding spell
  sign-spelt {r} e =
      let l = spell-long ws (drop i line) (suc i) (suc r) (drop r line) (sym e) in
      record {
        within = omega (arith, l.end, l.fits, length-drop i line, s.within);
        onward = omega (arith, l.end, s.behind);
        value = tt;
        is = rw (skip_is s) (sym e);
        holds = tt;
      }

  pub sign-bad : {q : ℕ} → bad (suc q) ≡ spellFrom ws (suc i) (drop i line) → Reads line (point.At at) (spelled ws) Any (point.Bad q)
  unfolding spell
  sign-bad e = record { within = tt; onward = omega arith; value = tt; is = rw (skip_is s) (sym e); holds = tt }

pub spelled-past : (ws : Bytes) → spelled ws beyond ≡ read tt beyond
unfolding skip spell
spelled-past ws = refl

-- ══ Types without a type inside ══

abbrev pub keywordBy : Bytes → Basic → Rule TyAt
keywordBy ws b = column >>= λ c. spelled ws >> give (basicAt c b)

abbrev pub openedBy : ℕ → (NameAt → Open NameAt) → Rule TyAt
openedBy b f = column >>= λ c. marked b >> (name >>= λ n. give (open_at c (f n)))
