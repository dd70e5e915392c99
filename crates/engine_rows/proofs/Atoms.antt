-- What follows from the definitions of specs/Atoms: atoms of the code and of the trees, and rows with zeros past their columns.
use Rattle.std.specs.Prelude.{◌≡◌, Bool, true, false, length, take, get_or, set, replicate}
use Rattle.std.proofs.Math.Path.{refl}
use Rattle.std.proofs.Common.{ap, ◌∙◌, sym, arith, add-one, length-append, length-take-le, take-suc, get_or-take, get_or-append-add}
use mathlib.Core.List.{List, [], ◌∷◌, ◌++◌, append_assoc}
use Prim.Native.Nat.{ℕ, zero, suc, ◌+◌, ◌-◌, ◌≤◌, ◌<◌}
use Rattle.std.proofs.lemmas.List.{length-map, set_at}
use Rattle.std.proofs.Math.ListN.{get_or-append}
use Rattle.rules.specs.Base.{is_yes}
use Rattle.rules.specs.Exponents.{Exp, frac, nought, goodExp}
use Rattle.rules.specs.Writing.{signed}
use Rattle.rules.specs.Names.{Bytes, numbered}
use Rattle.rules.specs.Trees as tree
use Rattle.rules.specs.Trees.{Factor, ◌↑◌, Product}
use Rattle.laws.proofs.Ranges.{nought-good}
use Rattle.laws.proofs.Lists.{is-no, is-yes}
use Rattle.records.specs.Holds.{atomOf, viewAtom}
use Rattle.types.specs.Shapes.{factor_of}
use Rattle.types.specs.declared.Factor as code
use Rattle.records.specs.declared.Open.TheVariants.{Var, Quant, Par}
use Rattle.records.specs.declared.Atom.{Atom}
use Rattle.records.specs.declared.Atom.TheVariants.{Free, Base}
use Rattle.exponents.specs.declared.Exponent.{Exponent}
use Rattle.exponents.specs.Answers.{expOf}
use Rattle.engine_matrix.specs.declared.inner.parts.Columns.{Columns}
use Rattle.engine_matrix.specs.Machine.{atomsFrom, namesIn, colsIn}
use Rattle.engine_matrix.proofs.Machine.{names-long}
use Rattle.rules.specs.Elimination as Rows
use Rattle.rules.specs.Elimination.{atomNames, powerIn, row_of}
use Rattle.engine_matrix.specs.Powers.{powersIn}
use Rattle.engine_rows.specs.Atoms.{powerOf, GoodPowers, padded}

-- ══ Are two atoms the same? ══

view-back : (a : Atom) → viewAtom (atomOf a) ≡ a
view-back (Free (Var x)) = refl
view-back (Free (Quant i)) = refl
view-back (Free (Par x)) = refl
view-back (Base x) = refl

-- the same atom in the trees
atom-same : (a b : Atom) → atomOf a ≡ atomOf b → a ≡ b
atom-same a b e = sym (view-back a) ∙ ap viewAtom e ∙ view-back b

abbrev pub atomIn : Factor ℕ → tree.Atom ℕ
atomIn (a ↑ e) = a

-- ══ The power of an atom, factor by factor ══

power-step : (names : List Bytes) (f : Factor ℕ) (q : Product ℕ) (a : tree.Atom ℕ) → (a ≡ atomIn f → powerIn (numbered names) (f ∷ q) a ≡ powerOf f)
    × ((a ≡ atomIn f → ⊥) → powerIn (numbered names) (f ∷ q) a ≡ powerIn (numbered names) q a)
unfolding powerIn
power-step names (c ↑ e) q a = (
  λ i. rw (is-yes ((atomNames (numbered names)).same a c) i, powerIn) refl,
  λ i. rw (is-no ((atomNames (numbered names)).same a c) i, powerIn) refl,
)

module _ (names : List Bytes) (left rest : Product ℕ) (f : code.Factor) (e : left ≡ factor_of f ∷ rest) (a : Atom) where
  pub power-met : f.atom ≡ a → powerIn (numbered names) left (atomOf a) ≡ frac (signed f.num) f.den
  power-met i = rw e ((power-step names (factor_of f) rest (atomOf a)).0 (ap atomOf (sym i)))

  pub power-passed : (f.atom ≡ a → ⊥) → powerIn (numbered names) rest (atomOf a) ≡ powerIn (numbered names) left (atomOf a)
  power-passed i = sym (rw e ((power-step names (factor_of f) rest (atomOf a)).1 (λ j. i (sym (atom-same a f.atom j)))))

pub power-none : (names : List Bytes) (left : Product ℕ) (a : tree.Atom ℕ) → left ≡ [] → powerIn (numbered names) left a ≡ nought
unfolding powerIn
power-none names left a e = rw e refl

-- ══ The atom of a column ══

module _ (d : tree.Atom ℕ) where
  pub column-variable : (v p : ℕ) (xs : List ℕ) (j : ℕ) → j < length xs → j < v → get_or (atomsFrom v p xs) j d ≡ tree.free (tree.var (get_or xs j 0))
  unfolding atomsFrom
  column-variable v p [] j h k = absurd (omega arith)
  column-variable zero p (x ∷ xs) j h k = absurd (omega arith)
  column-variable (suc v) p (x ∷ xs) zero h k = refl
  column-variable (suc v) p (x ∷ xs) (suc j) h k = column-variable v p xs j (omega arith) (omega arith)

  pub column-base : (v p : ℕ) (xs : List ℕ) (j : ℕ) → j < length xs → v + p ≤ j → get_or (atomsFrom v p xs) j d ≡ tree.base (get_or xs j 0)
  unfolding atomsFrom
  column-base v p [] j h k = absurd (omega arith)
  column-base zero zero (x ∷ xs) zero h k = refl
  column-base zero zero (x ∷ xs) (suc j) h k = column-base zero zero xs j (omega arith) (omega arith)
  column-base zero (suc p) (x ∷ xs) zero h k = absurd (omega arith)
  column-base zero (suc p) (x ∷ xs) (suc j) h k = column-base zero p xs j (omega arith) (omega arith)
  column-base (suc v) p (x ∷ xs) zero h k = absurd (omega arith)
  column-base (suc v) p (x ∷ xs) (suc j) h k = column-base v p xs j (omega arith) (omega arith)

  pub column-parameter : (v p : ℕ) (xs : List ℕ) (j : ℕ) → j < length xs → v ≤ j → j < v + p
      → get_or (atomsFrom v p xs) j d ≡ tree.free (tree.par (get_or xs j 0))
  unfolding atomsFrom
  column-parameter v p [] j h k l = absurd (omega arith)
  column-parameter zero zero (x ∷ xs) j h k l = absurd (omega arith)
  column-parameter zero (suc p) (x ∷ xs) zero h k l = refl
  column-parameter zero (suc p) (x ∷ xs) (suc j) h k l = column-parameter zero p xs j (omega arith) (omega arith) (omega arith)
  column-parameter (suc v) p (x ∷ xs) zero h k l = absurd (omega arith)
  column-parameter (suc v) p (x ∷ xs) (suc j) h k l = column-parameter v p xs j (omega arith) (omega arith) (omega arith)

-- the name of a column, by its kind
module _ (k : Columns) (j : ℕ) where
  abbrev A : List ℕ
  A = take k.variables k.vars

  abbrev B : List ℕ
  B = take k.parameters k.pars

  abbrev C : List ℕ
  C = take k.dimensions k.bases

  long-a : length A ≡ k.variables
  long-a = length-take-le k.variables k.vars (omega (arith, k.vars_long, k.few_variables))

  long-b : length B ≡ k.parameters
  long-b = length-take-le k.parameters k.pars (omega (arith, k.pars_long, k.few_others))

  pub parameter-name : (i : ℕ) → j ≡ k.variables + i → i < k.parameters → get_or (namesIn k) j 0 ≡ get_or k.pars i 0
  parameter-name i e h =
      ap (λ (n : ℕ). get_or ((A ++ B) ++ C) n 0) e
      ∙ ap (λ (xs : List ℕ). get_or xs (k.variables + i) 0) (append_assoc A B C)
      ∙ ap (λ (n : ℕ). get_or (A ++ (B ++ C)) (n + i) 0) (sym long-a)
      ∙ get_or-append-add A (B ++ C) i 0
      ∙ get_or-append B C 0 i (omega (arith, long-b))
      ∙ get_or-take k.parameters k.pars i 0 h

  pub base-name : (i : ℕ) → j ≡ k.variables + k.parameters + i → i < k.dimensions → get_or (namesIn k) j 0 ≡ get_or k.bases i 0
  base-name i e h =
      let n : length (A ++ B) ≡ k.variables + k.parameters = omega (arith, length-append A B, long-a, long-b) in
      ap (λ (n : ℕ). get_or ((A ++ B) ++ C) n 0) e
      ∙ ap (λ (n : ℕ). get_or ((A ++ B) ++ C) (n + i) 0) (sym n)
      ∙ get_or-append-add (A ++ B) C i 0
      ∙ get_or-take k.dimensions k.bases i 0 h

pub columns-long : (v p : ℕ) (xs : List ℕ) → length (atomsFrom v p xs) ≡ length xs
unfolding atomsFrom
columns-long v p [] = refl
columns-long zero zero (x ∷ xs) = ap suc (columns-long zero zero xs)
columns-long zero (suc p) (x ∷ xs) = ap suc (columns-long zero p xs)
columns-long (suc v) p (x ∷ xs) = ap suc (columns-long v p xs)

pub cols-long : (k : Columns) → length (colsIn k) ≡ k.len
unfolding colsIn
cols-long k = columns-long k.variables k.parameters (namesIn k) ∙ names-long k

-- ══ A row, column by column ══

-- one power in every column
pub good-copies : (n : ℕ) (e : Exponent) → goodExp (expOf e) ≡ true → (j : ℕ) → goodExp (get_or (powersIn (replicate n e)) j nought) ≡ true
unfolding powersIn
good-copies zero e h j = nought-good
good-copies (suc n) e h zero = h
good-copies (suc n) e h (suc j) = good-copies n e h j

-- one more column
pub one_more : (r r' l : Rows.Row) (j : ℕ) (e : Exp) → j < length l → length l ≤ 48 → r ≡ padded (take j l) → e ≡ get_or l j nought
    → r' ≡ set r j e → r' ≡ padded (take (j + 1) l)
one_more r r' l j e h m g i k =
    let n : length (take j l) ≡ j = length-take-le j l (omega arith) in
    let t : take (j + 1) l ≡ take j l ++ (get_or l j nought ∷ []) = rw (add-one j) (take-suc l j nought h) in
    let n' : length (take (j + 1) l) ≡ j + 1 = length-take-le (j + 1) l (omega arith) in
    let z : 48 - j ≡ suc (48 - (j + 1)) = omega arith in
    k ∙ rw (g, n, n', z, t, i)
    (set_at (take j l) nought (replicate (48 - (j + 1)) nought) (get_or l j nought) j n
    ∙ sym (append_assoc (take j l) (get_or l j nought ∷ []) (replicate (48 - (j + 1)) nought)))

pub row-long : (names : List Bytes) (cols : List (tree.Atom ℕ)) (p : Product ℕ) → length (row_of (numbered names) cols p) ≡ length cols
unfolding row_of
row-long names cols p = length-map cols (powerIn (numbered names) p)

pub row_at : (names : List Bytes) (cols : List (tree.Atom ℕ)) (p : Product ℕ) (j : ℕ) (d : tree.Atom ℕ) → j < length cols
    → powerIn (numbered names) p (get_or cols j d) ≡ get_or (row_of (numbered names) cols p) j nought
unfolding row_of
row_at names [] p j d h = absurd (omega arith)
row_at names (a ∷ cols) p zero d h = refl
row_at names (a ∷ cols) p (suc j) d h = row_at names cols p j d (omega arith)

pub power-good : (names : List Bytes) (p : Product ℕ) (a : tree.Atom ℕ) → GoodPowers p
    → goodExp (powerIn (numbered names) p a) ≡ true
unfolding powerIn
power-good names [] a h = nought-good
power-good names (b ↑ e ∷ p) a h = go (is_yes ((atomNames (numbered names)).same a b)) refl (power-good names p a h.1)
  where
    go : (t : Bool) → is_yes ((atomNames (numbered names)).same a b) ≡ t → goodExp (powerIn (numbered names) p a) ≡ true
        → goodExp (powerIn (numbered names) (b ↑ e ∷ p) a) ≡ true
    go true i g = rw (i, powerIn) h.0
    go false i g = rw (i, powerIn) g
