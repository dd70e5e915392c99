-- What follows from the definitions of specs/Atoms: what a factor is a power of: a mark, and its name, which is entered.
use Rattle.std.specs.Prelude.{◌≡◌, refl, true, List, ℕ, ◌<◌, get_or}
use Rattle.std.proofs.Math.Path.{ap}
use Rattle.std.proofs.Common.{arith, lt-ltb}
use Rattle.rules.specs.Names.{Bytes}
use Rattle.rules.specs.Trees.{var, par, Atom, free, base}
use Rattle.rules.specs.Grammar.{give, pick, chosen, column, NameAt, name, marks, ◌>>=◌}
use Rattle.rules.specs.Writing.{Rec}
use Rattle.rules.specs.TextReading.{named, openNamed, atomNamed}
use Rattle.rules.specs.Values.{atomIn}
use Rattle.rules.specs.WellFormed.{goodOpen}
use Rattle.products.specs.Told.{heldIn}
use Rattle.products.specs.Kinds.{variable, parameter, dimension}
use Rattle.text_grammar.specs.declared.inner.Point.TheVariants as point
use Rattle.text_grammar.specs.declared.inner.Point.{Point}
use Rattle.text_grammar.specs.Points.{Reads, Any, marked, columnAt}
use Rattle.text_grammar.proofs.Points.{in-turn, given}
use Rattle.text_grammar.specs.Factors.{byte_of, refusedFrom, noAtom, atom}
use Rattle.text_grammar.proofs.Factors.{markName, choose-this, atom-none}
use Rattle.text_names.specs.Effects.{lent, Ready, Effect, Halted, Done}
use Rattle.text_names.proofs.Effects.{kept_same, kept-last, maps, halted-on, reads_on, ends-bad}
use Rattle.text_names.proofs.Inside.{inside-column}
use Rattle.text_names.specs.Naming.{NumberTold}
use Rattle.text_names.specs.Stands.{Stand}
use Rattle.text_dimensions.specs.Atoms.{KindFor, forVariable, forParameter, forBase, forNone, AtomTold}

module _ {table : List ℕ} {i x : ℕ} {rs : List Rec} (t : NumberTold table i x rs) where
  number-held : heldIn table i ≡ true
  number-held = lt-ltb i (get_or table 0 0) (omega (arith, t.held, t.is))

  var-told : AtomTold table 11 i (free (var x)) rs
  unfolding atomIn goodOpen
  var-told = record { is = ap (λ (n : ℕ). free (var n)) t.is; held = record { known = variable; good = λ ν. number-held }; none = t.none }

  par-told : AtomTold table 12 i (free (par x)) rs
  unfolding atomIn goodOpen
  par-told = record { is = ap (λ (n : ℕ). free (par n)) t.is; held = record { known = parameter; good = λ ν. number-held }; none = t.none }

  base-told : AtomTold table 13 i (base x) rs
  unfolding atomIn
  base-told = record { is = ap base t.is; held = record { known = dimension; good = λ ν. number-held }; none = t.none }

module _ {line : Bytes} {p c a q : Point} {pool table pool' table' dst : List ℕ} {s s' : Stand} {i : ℕ} where
  -- the rule for a mark, and what it made of the name
  atom-by : (kind b : ℕ) (f : NameAt → Atom NameAt) → 0 < b → pick b marks ≡ (markName b >>= λ n. give (f n)) → byte_of line c ≡ b
      → ((n : NameAt) → Effect (named n) (NumberTold table' i) (lent pool table dst s) (lent pool' table' dst s')
      → Effect (atomNamed (f n)) (AtomTold table' kind i) (lent pool table dst s) (lent pool' table' dst s'))
      → Reads line p column (λ (k : ℕ). k ≡ columnAt c) c → Reads line c (marked b) Any a
      → Done line name named (NumberTold table' i) a (lent pool table dst s) q (lent pool' table' dst s')
      → Done line atom atomNamed (AtomTold table' kind i) p (lent pool table dst s) q (lent pool' table' dst s')
  atom-by kind b f h e g j x y d = record {
    reads =
        in-turn column (λ k. chosen noAtom marks) x
        (λ k hk. choose-this noAtom marks (λ n. refl) (markName b >>= λ n. give (f n)) b h g e
        (in-turn (markName b) (λ n. give (f n)) (in-turn (marked b) (λ u. name) y (λ u hu. d.reads))
        (λ n hn. given (f n) d.reads.within (λ nb. j n (hn nb)))));
    kept = d.kept;
    halted = d.halted;
  }

  pub atom-done : {kind : ℕ} → KindFor (byte_of line c) kind → (kind ≡ 0 → ⊥)
      → Reads line p column (λ (k : ℕ). k ≡ columnAt c) c → Reads line c (marked (byte_of line c)) Any a
      → Done line name named (NumberTold table' i) a (lent pool table dst s) q (lent pool' table' dst s')
      → Done line atom atomNamed (AtomTold table' kind i) p (lent pool table dst s) q (lent pool' table' dst s')
  atom-done (forVariable e) h x y d =
      let k = kept-last d.kept in
      atom-by 11 63 (λ n. free (var n)) (omega arith) refl e
      (λ n f. maps (openNamed (var n)) free k (maps (named n) var {W = λ o rs. AtomTold table' 11 i (free o) rs} k f (λ m rs t. var-told t)) (λ o rs t. t)) x
      (rw e at y) d
  atom-done (forParameter e) h x y d =
      let k = kept-last d.kept in
      atom-by 12 33 (λ n. free (par n)) (omega arith) refl e
      (λ n f. maps (openNamed (par n)) free k (maps (named n) par {W = λ o rs. AtomTold table' 12 i (free o) rs} k f (λ m rs t. par-told t)) (λ o rs t. t)) x
      (rw e at y) d
  atom-done (forBase e) h x y d =
      atom-by 13 35 base (omega arith) refl e (λ n f. maps (named n) base (kept-last d.kept) f (λ m rs t. base-told t)) x (rw e at y) d
  atom-done (forNone e f g) h x y d = absurd (h refl)

-- no mark
module _ {line : Bytes} {p : Point} {pool table dst : List ℕ} {s : Stand} (ready : Ready line p pool table s) where
  refused-atom : (kind i : ℕ) (c : Point) → Reads line p atom Any (refusedFrom c) → Halted c s
      → Done line atom atomNamed (AtomTold table kind i) p (lent pool table dst s) (refusedFrom c) (lent pool table dst s)
  refused-atom kind i (point.At j) y h = ends-bad atomNamed (kept_same ready.good ready.room) y
  refused-atom kind i point.Deep y h = reads_on atomNamed ready.good (λ k n e. h k n refl e) y
  refused-atom kind i (point.Bad q) y h = ends-bad atomNamed (kept_same ready.good ready.room) y

  pub no-atom : (i : ℕ) {kind : ℕ} (c : Point) → KindFor (byte_of line c) kind → kind ≡ 0 → Reads line p column (λ (k : ℕ). k ≡ columnAt c) c
      → Done line atom atomNamed (AtomTold table 0 i) p (lent pool table dst s) (refusedFrom c) (lent pool table dst s)
  no-atom i c (forNone e f g) h x = refused-atom 0 i c (atom-none x e f g) (halted-on inside-column x ready.halted)
  no-atom i c (forVariable e) h x = absurd (omega arith)
  no-atom i c (forParameter e) h x = absurd (omega arith)
  no-atom i c (forBase e) h x = absurd (omega arith)
