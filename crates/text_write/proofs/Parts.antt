-- What follows from the definitions of specs/Parts: the parts of constraints, their texts, and what it means that they are good.
use Rattle.std.specs.Prelude.{◌≡◌, refl, Bool, true, false, List, [], ◌∷◌, ◌++◌, ℕ, zero, suc, ◌<◌, get_or}
use Rattle.std.proofs.Common.{sym, ap, ◌∙◌, arith, append_assoc, ltb-true}
use Rattle.rules.specs.Exponents.{Exp}
use Rattle.rules.specs.Grammar.{ascii}
use Rattle.rules.specs.Names.{Bytes, table_of, numbersOf, is_held}
use Rattle.rules.specs.TextWriting.{
  nameText,
  powerText,
  factorText,
  moreFactorsText,
  factorsText,
  dimensionText,
  tyText,
  tysText,
  moreTysText,
  argumentsText,
  fieldsText,
  moreFieldsText,
  conText,
  setText,
}
use Rattle.rules.specs.Base.{collect}
use Rattle.rules.specs.Trees.{Atom, free, base, Factor, ◌↑◌, Product, Ty, struct, Tys, nil, cons, Fields, noFields, field, count, countFields, Con, hasField}
use Rattle.rules.specs.WellFormed.{goodCon}
use Rattle.laws.proofs.NameTable.{held-is}
use Rattle.text_write.specs.Parts.{atomText, star, fromFactors, comma, bracket, fromTys, label, fromFields, head, between, named}

-- ══ Factors and dimensions ══

pub factor-text : (names : ℕ → Bytes) (a : Atom ℕ) (e : Exp) → factorText names (a ↑ e) ≡ atomText names a ++ powerText e
unfolding factorText atomText
factor-text names (free o) e = refl
factor-text names (base x) e = refl

pub no-factors : (first : Bool) (names : ℕ → Bytes) → fromFactors first names [] ≡ []
unfolding fromFactors factorsText moreFactorsText
no-factors true names = refl
no-factors false names = refl

pub next-factor : (first : Bool) (names : ℕ → Bytes) (f : Factor ℕ) (p : Product ℕ)
    → fromFactors first names (f ∷ p) ≡ star first ++ (factorText names f ++ fromFactors false names p)
unfolding fromFactors factorsText moreFactorsText
next-factor true names f p = refl
next-factor false names f p = refl

pub dimension-is : (names : ℕ → Bytes) (p : Product ℕ) → dimensionText names p ≡ ascii "[" ++ (fromFactors true names p ++ ascii "]")
unfolding fromFactors dimensionText
dimension-is names p = refl

-- ══ Brackets, types and fields ══

pub no_bracket : (n b : ℕ) → n ≡ 0 → bracket n b ≡ []
no_bracket zero b e = refl
no_bracket (suc n) b e = absurd (omega (arith, e))

pub one_bracket : (n b : ℕ) → (n ≡ 0 → ⊥) → bracket n b ≡ b ∷ []
one_bracket zero b h = absurd (h refl)
one_bracket (suc n) b h = refl

pub ruleset brackets = (no_bracket, one_bracket)

pub no_types : (first : Bool) (names : ℕ → Bytes) → fromTys first names nil ≡ []
unfolding fromTys tysText moreTysText
no_types true names = refl
no_types false names = refl

pub next_types : (first : Bool) (names : ℕ → Bytes) (t : Ty ℕ) (ts : Tys ℕ)
    → fromTys first names (cons t ts) ≡ comma first ++ (tyText names t ++ fromTys false names ts)
unfolding fromTys tysText moreTysText
next_types true names t ts = refl
next_types false names t ts = refl

more_fields : (names : ℕ → Bytes) (fs : Fields ℕ) → fromFields false names fs ≡ moreFieldsText names fs
unfolding fromFields moreFieldsText
more_fields names noFields = refl
more_fields names (field n t fs) = ap (λ (u : Bytes). ascii ", " ++ u) (append_assoc (nameText (names n)) (ascii ": ")
    (tyText names t ++ moreFieldsText names fs))

pub no_fields : (first : Bool) (names : ℕ → Bytes) → fromFields first names noFields ≡ []
unfolding fromFields
no_fields first names = refl

pub next_fields : (first : Bool) (names : ℕ → Bytes) (x : ℕ) (t : Ty ℕ) (fs : Fields ℕ)
    → fromFields first names (field x t fs) ≡ label first (names x) ++ (tyText names t ++ fromFields false names fs)
unfolding fromFields
next_fields first names x t fs = ap (λ (u : Bytes). label first (names x) ++ (tyText names t ++ u)) (sym (more_fields names fs))

module _ (names : ℕ → Bytes) where
  -- brackets around parameters, and around fields
  bracketed : (ps : Tys ℕ) → argumentsText names ps ≡ bracket (count ps) 60 ++ (fromTys true names ps ++ bracket (count ps) 62)
  unfolding argumentsText count fromTys
  bracketed nil = refl
  bracketed (cons t ts) = ap (λ (x : Bytes). ascii "<" ++ x) (sym (append_assoc (tyText names t) (moreTysText names ts) (ascii ">")))

  braced : (fs : Fields ℕ) → fieldsText names fs ≡ bracket (countFields fs) 123 ++ (fromFields true names fs ++ bracket (countFields fs) 125)
  unfolding fieldsText countFields fromFields
  braced noFields = refl
  braced (field n t fs) = ap (λ (x : Bytes). ascii "{" ++ x) (sym (
      append_assoc (nameText (names n) ++ ascii ": ") (tyText names t ++ moreFieldsText names fs) (ascii "}")
      ∙ append_assoc (nameText (names n)) (ascii ": ") ((tyText names t ++ moreFieldsText names fs) ++ ascii "}")
      ∙ ap (λ (x : Bytes). nameText (names n) ++ (ascii ": " ++ x)) (append_assoc (tyText names t) (moreFieldsText names fs) (ascii "}"))))

  pub struct_text : (x : ℕ) (ps : Tys ℕ) (fs : Fields ℕ) (n m : ℕ) → count ps ≡ n → countFields fs ≡ m
      → tyText names (struct x ps fs) ≡ head (names x) n ++ (fromTys true names ps ++ (between n m ++ (fromFields true names fs ++ bracket m 125)))
  unfolding tyText
  struct_text x ps fs n m k l = sym (
      let behind : Bytes = bracket (countFields fs) 123 ++ (fromFields true names fs ++ bracket (countFields fs) 125) in
      rw (← k, ← l, bracketed ps, braced fs)
      (append_assoc (64 ∷ nameText (names x)) (bracket (count ps) 60) (fromTys true names ps ++ (between (count ps) (countFields fs) ++
      (fromFields true names fs ++ bracket (countFields fs) 125)))
      ∙ ap (λ (u : Bytes). 64 ∷ (nameText (names x) ++ (bracket (count ps) 60 ++ u)))
      (ap (λ (u : Bytes). fromTys true names ps ++ u) (append_assoc (bracket (count ps) 62) (bracket (countFields fs) 123)
      (fromFields true names fs ++ bracket (countFields fs) 125))
      ∙ sym (append_assoc (fromTys true names ps) (bracket (count ps) 62) behind))
      ∙ ap (λ (u : Bytes). 64 ∷ (nameText (names x) ++ u)) (sym (append_assoc (bracket (count ps) 60) (fromTys true names ps ++ bracket
      (count ps) 62) behind))))

-- ══ Lines ══

pub has-text : (names : ℕ → Bytes) (x : ℕ) (t u : Ty ℕ) → conText names (hasField x t u)
    ≡ ascii "HasField(" ++ (tyText names t ++ (named (names x) ++ (tyText names u ++ ascii ")")))
unfolding conText
has-text names x t u =
    sym (ap (λ (b : Bytes). ascii "HasField(" ++ (tyText names t ++ (ascii ", \"" ++ b))) (append_assoc (nameText (names x)) (ascii "\", ")
    (tyText names u ++ ascii ")")))

pub no-line : (names : ℕ → Bytes) → setText names [] ≡ []
unfolding setText collect
no-line names = refl

pub next-line : (names : ℕ → Bytes) (c : Con ℕ) (cs : List (Con ℕ)) → setText names (c ∷ cs) ≡ conText names c ++ (ascii "\n" ++ setText names cs)
unfolding setText collect
next-line names c cs = append_assoc (conText names c) (ascii "\n") (setText names cs)

-- ══ What is good ══

module _ (pool table : List ℕ) where
  pub held : (x : ℕ) → is_held (table_of pool table) x ≡ true → x < get_or table 0 0
  held x h = ltb-true x (get_or table 0 0) (sym (held-is pool table x) ∙ h)

  abbrev pub conGood : Con ℕ → Bool
  conGood c = goodCon (numbersOf (table_of pool table)) (is_held (table_of pool table)) 0 c
