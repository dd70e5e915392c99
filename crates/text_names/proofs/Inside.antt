-- Rules that from a place in a line never go behind a type nested 65 deep: signs, digits, powers.
use Rattle.std.specs.Prelude.{◌≡◌, refl, Bool, true, false, [], ◌∷◌, ℕ, suc, ◌+◌, ◌-◌, ◌*◌, eqb}
use Rattle.std.proofs.Common.{sym, ap, ◌∙◌}
use Prim.Native.Char.{Char}
use Rattle.rules.specs.Names.{Bytes}
use Rattle.rules.specs.Grammar.{Place, here, beyond, Parsed, read, bad, Rule, pass, give, skip, skipFrom, isBlank, spell, spellFrom, starts, either}
use Rattle.rules.specs.Grammar.{ifSign, column, columnOf, digits, digitsAt, digitsFrom, isDigit}
use Rattle.text_grammar.specs.Signs.{spelled}
use Rattle.text_names.proofs.Effects.{Inside}

-- ══ Places that stand in the line ══

-- what is read stands in the line
record In {A : Type 0} (m : Parsed A) : Type 0 where
  stays : (a : A) → m ≡ read a beyond → ⊥

in-here : {A : Type 0} (a : A) (c : ℕ) (bs : Bytes) → In (read a (here c bs))
in-here a c bs = record { stays = λ b e. cc }

in-bad : {A : Type 0} (c : ℕ) → In {A = A} (bad c)
in-bad c = record { stays = λ b e. cc }

-- a place that stands in the line
record At (p : Place) : Type 0 where
  column : ℕ
  rest : Bytes
  is : p ≡ here column rest

skip-from-in : (c : ℕ) (bs : Bytes) → At (skipFrom c bs)
unfolding skipFrom
skip-from-in c [] = record { column = c; rest = []; is = refl }
skip-from-in c (b ∷ bs) = go (isBlank b) (skip-from-in (suc c) bs)
  where
    go : (t : Bool) → At (skipFrom (suc c) bs) → At (elim t [ true ↦ skipFrom (suc c) bs | false ↦ here c (b ∷ bs) ])
    go true a = a
    go false a = record { column = c; rest = b ∷ bs; is = refl }

skip-in : (c : ℕ) (bs : Bytes) → At (skip (here c bs))
unfolding skip
skip-in c bs = skip-from-in c bs

spell-in : (ws : Bytes) (c : ℕ) (bs : Bytes) → In (spellFrom ws c bs)
unfolding spellFrom
spell-in [] c bs = in-here tt c bs
spell-in (w ∷ ws) c [] = in-bad c
spell-in (w ∷ ws) c (b ∷ bs) = go (eqb b w) (spell-in ws (suc c) bs)
  where
    go : (t : Bool) → In (spellFrom ws (suc c) bs) → In {A = Unit {0}} (elim t [ true ↦ spellFrom ws (suc c) bs | false ↦ bad c ])
    go true a = a
    go false a = in-bad c

-- ══ Rules ══

-- a rule behind blanks
behind-blanks : {A : Type 0} (R : Rule A) → ((c : ℕ) (bs : Bytes) → In (R (here c bs))) → Inside (λ p. R (skip p))
behind-blanks R f = record { stays = λ c bs a e. let s = skip-in c bs in (f s.column s.rest).stays a (sym (ap R s.is) ∙ e) }

pub inside-spelled : (ws : Bytes) → Inside (spelled ws)
unfolding spell
inside-spelled ws = behind-blanks (spell ws) (λ c bs. spell-in ws c bs)

pub inside-column : Inside column
inside-column = behind-blanks (λ p. read (columnOf p) p) (λ c bs. in-here c c bs)

digits-from-in : (n c : ℕ) (bs : Bytes) → In (digitsFrom n c bs)
unfolding digitsFrom
digits-from-in n c [] = in-here n c []
digits-from-in n c (b ∷ bs) = go (isDigit b) (digits-from-in (n * 10 + (b - 48)) (suc c) bs)
  where
    go : (t : Bool) → In (digitsFrom (n * 10 + (b - 48)) (suc c) bs) → In {A = ℕ}
        (elim t [ true ↦ digitsFrom (n * 10 + (b - 48)) (suc c) bs | false ↦ read n (here c (b ∷ bs)) ])
    go true a = a
    go false a = in-here n c (b ∷ bs)

digits_in : (c : ℕ) (bs : Bytes) → In (digitsAt (here c bs))
unfolding digitsAt
digits_in c [] = in-bad c
digits_in c (b ∷ bs) = go (isDigit b) (digits-from-in 0 c (b ∷ bs))
  where
    go : (t : Bool) → In (digitsFrom 0 c (b ∷ bs)) → In {A = ℕ} (elim t [ true ↦ digitsFrom 0 c (b ∷ bs) | false ↦ bad c ])
    go true a = a
    go false a = in-bad c

pub inside-digits : Inside digits
inside-digits = behind-blanks digitsAt digits_in

pub inside-give : {A : Type 0} (a : A) → Inside (give a)
inside-give a = record { stays = λ c bs b e. (in-here a c bs).stays b e }

-- one rule and then another
pub inside-then : {A B : Type 0} (R : Rule A) (K : A → Rule B) → Inside R → ((a : A) → Inside (K a)) → Inside (λ p. pass (R p) K)
inside-then R K i k = record { stays = λ c bs b e. go (R (here c bs)) (i.stays c bs) b e }
  where
    go : (m : Parsed _) → ((a : _) → m ≡ read a beyond → ⊥) → (b : _) → pass m K ≡ read b beyond → ⊥
    go (read a (here c bs)) f b e = (k a).stays c bs b e
    go (read a beyond) f b e = f a refl
    go (bad c) f b e = (in-bad c).stays b e

pub inside-if : {A : Type 0} (x : Char) (R S : Rule A) → Inside R → Inside S → Inside (ifSign x R S)
inside-if x R S i j = record { stays = λ c bs a e. go (starts x (skip (here c bs))) c bs a e }
  where
    go : (t : Bool) (c : ℕ) (bs : Bytes) (a : _) → either t R S (here c bs) ≡ read a beyond → ⊥
    go true c bs a e = i.stays c bs a e
    go false c bs a e = j.stays c bs a e
