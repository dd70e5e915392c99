-- Sets read alike before and after: names in place of numbers.
use Rattle.std.specs.Prelude.{◌≡◌, Bool, true, false, ◌||◌, ℕ, length, get_or}
use Rattle.std.proofs.Math.Path.{refl, ap₂}
use Rattle.std.proofs.Common.{sym, ap, ◌∙◌, arith, lt-ltb, ltb-true, eq-eqb}
use Rattle.std.proofs.Math.Bool.{◌&&◌, or-true}
use Rattle.std.proofs.lemmas.Bool.{or_left}
use mathlib.Core.List.{List, [], ◌∷◌}
use Rattle.std.proofs.Math.Dec.{eqb}
use Rattle.rules.specs.Names.{Bytes, Table, table_of, names_of, is_held}
use Rattle.rules.specs.Offices.{named, Word, number, name, nameNo, namesOne, wordIf, readBack, ReadAlike}
use Rattle.rules.specs.Writing.{rec, kindIn}
use Rattle.laws.specs.NameTable.{Good}
use Rattle.laws.proofs.NameTable.{held-is, good-laid, length-names}
use Rattle.rules.specs.Compaction.{occurs, keeps, newNumber, renumberIf, renumbered, keptFrom}
use Rattle.compaction.proofs.HeldNames.{HeldRec, HeldWords}
use Rattle.compaction.proofs.Kept.{kept-get, after-names, after-good, poolAfter, tableAfter}

name-held : (t : Table) (i : ℕ) → is_held t i ≡ true → nameNo t i ≡ named (get_or (names_of t) i [])
unfolding nameNo
name-held t i h = rw h

module _ {pool table : List ℕ} (g : Good pool table) (p : ℕ → Bool) where
  abbrev t : Table
  t = table_of pool table

  abbrev t' : Table
  t' = table_of (poolAfter g p) (tableAfter g p)

  -- a kept number and its new one have the same name
  pub same_name : (i : ℕ) → is_held (table_of pool table) i ≡ true → p i ≡ true
      → nameNo (table_of pool table) i ≡ nameNo (table_of (poolAfter g p) (tableAfter g p)) (newNumber p i)
  same_name i h e =
      let few = ltb-true i (get_or table 0 0) (sym (held-is pool table i) ∙ h) in
      let k = kept-get p (names_of t) i (omega (arith, length-names (good-laid g), few)) e in
      let many : length (keptFrom p 0 (names_of t)) ≡ get_or (tableAfter g p) 0 0 = sym (ap length (after-names g p))
      ∙ length-names (good-laid (after-good g p)) in
      let there : is_held t' (newNumber p i) ≡ true = held-is (poolAfter g p) (tableAfter g p) (newNumber p i)
      ∙ lt-ltb (newNumber p i) (get_or (tableAfter g p) 0 0) (omega (arith, k.1, many)) in
      name-held t i h ∙ ap named (sym k.0 ∙ sym (ap (λ (ns : List Bytes). get_or ns (newNumber p i) []) (after-names g p)))
      ∙ sym (name-held t' (newNumber p i) there)

  -- every number that words name is kept
  unfoldable pub KeptWords : List ℕ → Type 0
  KeptWords [] = Unit {0}
  KeptWords (w ∷ []) = Unit {0}
  KeptWords (w ∷ a ∷ []) = Unit {0}
  KeptWords (w ∷ a ∷ b ∷ []) = Unit {0}
  KeptWords (w ∷ a ∷ b ∷ c ∷ ws) = (namesOne (kindIn w) b ≡ true → p a ≡ true) × KeptWords ws

  word-alike : (w a b : ℕ) → HeldRec t (rec w a b 0) → (namesOne (kindIn w) b ≡ true → p a ≡ true)
      → wordIf (namesOne (kindIn w) b) t a ≡ wordIf (namesOne (kindIn w) b) t' (renumberIf (namesOne (kindIn w) b) p a)
  word-alike w a b h k = go (namesOne (kindIn w) b) h k
    where
      go : (n : Bool) → (n ≡ true → is_held t a ≡ true) → (n ≡ true → p a ≡ true) → wordIf n t a ≡ wordIf n t' (renumberIf n p a)
      go true h k = ap name (same_name a (h refl) (k refl))
      go false h k = refl

  read_alike : (ws : List ℕ) → HeldWords t ws → KeptWords ws → readBack t ws ≡ readBack t' (renumbered p ws)
  unfolding readBack renumbered HeldWords KeptWords
  read_alike [] h k = refl
  read_alike (w ∷ []) h k = refl
  read_alike (w ∷ a ∷ []) h k = refl
  read_alike (w ∷ a ∷ b ∷ []) h k = refl
  read_alike (w ∷ a ∷ b ∷ c ∷ ws) h k =
      ap₂ {C = List Word} (λ (x : Word) (xs : List Word). number w ∷ x ∷ number b ∷ number c ∷ xs) (word-alike w a b h.0 k.0) (read_alike ws h.1 k.1)

  -- a list whose numbers are held and kept reads alike afterwards
  pub alike : (ws : List ℕ) → HeldWords (table_of pool table) ws → KeptWords ws
      → ReadAlike (table_of pool table) (table_of (poolAfter g p) (tableAfter g p)) ws (renumbered p ws)
  alike ws h k = record { words = read_alike ws h k }

-- ══ What occurs in a set occurs in them all ══

module _ {pool table : List ℕ} (g : Good pool table) (whole : List ℕ) where
  abbrev p : ℕ → Bool
  p = keeps (table_of pool table).count whole

  kept_if : (a : ℕ) → is_held (table_of pool table) a ≡ true → occurs whole a ≡ true → p a ≡ true
  unfolding keeps
  kept_if a h e = ap₂ ◌&&◌ h e

  pub kept-words : (ws : List ℕ) → ((i : ℕ) → occurs ws i ≡ true → occurs whole i ≡ true) → HeldWords (table_of pool table) ws
      → KeptWords g (keeps (table_of pool table).count whole) ws
  unfolding HeldWords KeptWords occurs
  kept-words [] f h = tt
  kept-words (w ∷ []) f h = tt
  kept-words (w ∷ a ∷ []) f h = tt
  kept-words (w ∷ a ∷ b ∷ []) f h = tt
  kept-words (w ∷ a ∷ b ∷ c ∷ ws) f h = (
    (λ e. kept_if a (h.0 e) (f a (or_left (namesOne (kindIn w) b && eqb a a) (occurs ws a) (ap₂ ◌&&◌ e (eq-eqb a a refl))))),
    kept-words ws (λ i e. f i (ap ((namesOne (kindIn w) b && eqb a i) ||◌) e ∙ or-true (namesOne (kindIn w) b && eqb a i))) h.1,
  )
