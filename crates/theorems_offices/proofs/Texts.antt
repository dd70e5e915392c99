-- Writing text: sets that read alike are written alike, byte for byte.
use Rattle.std.specs.Prelude.{◌≡◌, ℕ, leb, length}
use Rattle.std.proofs.Math.Path.{refl}
use Rattle.std.proofs.Common.{ap, ap₂, sym, ◌∙◌}
use mathlib.Core.List.{List, [], ◌∷◌, ◌++◌, map}
use Prim.Native.Char.{code}
use Rattle.rules.specs.Base.{Got, got, refused, need, collect}
use Rattle.rules.specs.Trees.{Open, var, quant, par, free, base, Factor, ◌↑◌, Product, Ty, opened, basic, dim, fn, struct, list, Tys}
use Rattle.rules.specs.Trees.{nil, cons, Fields, noFields, field, Con, equal, isDim, is_scalar, hasField}
use Rattle.rules.specs.Grammar.{ascii}
use Rattle.rules.specs.Names.{Bytes, table_of}
use Rattle.rules.specs.Calls.{listing, resultAfter}
use Rattle.rules.specs.TextWriting.{
  nameText,
  powerText,
  basicText,
  openText,
  factorText,
  moreFactorsText,
  factorsText,
  dimensionText,
  tyText,
  tysText,
  moreTysText,
  argumentsText,
  fieldsText,
  moreFieldsText,
  conText,
  setText,
  namesIn,
  text_of,
  writeTextCall,
}
use Rattle.rules.specs.Offices.{Name, bytesIn, nameNo, mapOpen, mapFactor, mapTy, map_tys, mapFields, mapCon, TextAlike}
use Rattle.laws.specs.NameTable.{Good}
use Rattle.laws.proofs.Alike.{both, onward}
use Rattle.theorems_offices.proofs.Both.{checked, equal-answers}
use Rattle.theorems_offices.proofs.Naming.{bytes-are}
use Rattle.theorems_offices.proofs.Results.{front-over}
use Rattle.theorems_offices.proofs.Given.{Alike, as_long, short, lent-table, kept-alike, constraints-given}

-- ══ Trees over names, as text ══

abbrev pub openShown : Open Name → Bytes
openShown (var x) = code "?" ∷ nameText (bytesIn x)
openShown (quant i) = []
openShown (par x) = code "!" ∷ nameText (bytesIn x)

abbrev pub factorShown : Factor Name → Bytes
factorShown (free o ↑ e) = openShown o ++ powerText e
factorShown (base x ↑ e) = code "#" ∷ nameText (bytesIn x) ++ powerText e

pub moreFactorsShown : Product Name → Bytes
moreFactorsShown [] = []
moreFactorsShown (f ∷ p) = ascii " * " ++ (factorShown f ++ moreFactorsShown p)

pub factorsShown : Product Name → Bytes
factorsShown [] = []
factorsShown (f ∷ p) = factorShown f ++ moreFactorsShown p

abbrev pub dimensionShown : Product Name → Bytes
dimensionShown p = ascii "[" ++ (factorsShown p ++ ascii "]")

unfoldable mutual
  pub tyShown : Ty Name → Bytes
  tyShown (opened o) = openShown o
  tyShown (basic b) = basicText b
  tyShown (dim p) = dimensionShown p
  tyShown (fn ps r) = ascii "Fn[(" ++ (tysShown ps ++ (ascii ") -> " ++ (tyShown r ++ ascii "]")))
  tyShown (struct n as' fs) = ascii "@" ++ (nameText (bytesIn n) ++ (argumentsShown as' ++ fieldsShown fs))
  tyShown (list t) = ascii "List<" ++ (tyShown t ++ ascii ">")

  pub tysShown : Tys Name → Bytes
  tysShown nil = []
  tysShown (cons t ts) = tyShown t ++ moreTysShown ts

  pub moreTysShown : Tys Name → Bytes
  moreTysShown nil = []
  moreTysShown (cons t ts) = ascii ", " ++ (tyShown t ++ moreTysShown ts)

  pub argumentsShown : Tys Name → Bytes
  argumentsShown nil = []
  argumentsShown (cons t ts) = ascii "<" ++ (tyShown t ++ (moreTysShown ts ++ ascii ">"))

  pub fieldsShown : Fields Name → Bytes
  fieldsShown noFields = []
  fieldsShown (field n t fs) = ascii "{" ++ (nameText (bytesIn n) ++ (ascii ": " ++ (tyShown t ++ (moreFieldsShown fs ++ ascii "}"))))

  pub moreFieldsShown : Fields Name → Bytes
  moreFieldsShown noFields = []
  moreFieldsShown (field n t fs) = ascii ", " ++ (nameText (bytesIn n) ++ (ascii ": " ++ (tyShown t ++ moreFieldsShown fs)))

pub conShown : Con Name → Bytes
conShown (equal l r) = tyShown l ++ (ascii " ~ " ++ tyShown r)
conShown (isDim t) = tyShown t ++ ascii ": DType"
conShown (is_scalar p) = dimensionShown p ++ ascii " = Scalar"
conShown (hasField n s t) =
    ascii "HasField(" ++ (tyShown s ++ (ascii ", \"" ++ (nameText (bytesIn n) ++ (ascii "\", " ++ (tyShown t ++ ascii ")")))))

-- ══ Trees over numbers, as text ══

-- numbers in place of names: a tree's text is that of the tree with its names
module _ {pool table : List ℕ} (good : Good pool table) where
  abbrev g : ℕ → Bytes
  g = namesIn (table_of pool table)

  abbrev ν : ℕ → Name
  ν = nameNo (table_of pool table)

  pub name-shown : (x : ℕ) → nameText (g x) ≡ nameText (bytesIn (ν x))
  name-shown x = ap nameText (sym (bytes-are good x))

  pub open-shown : (o : Open ℕ) → openText g o ≡ openShown (mapOpen ν o)
  unfolding openText
  open-shown (var x) = ap (code "?" ∷◌) (name-shown x)
  open-shown (quant i) = refl
  open-shown (par x) = ap (code "!" ∷◌) (name-shown x)

  factor-shown : (x : Factor ℕ) → factorText g x ≡ factorShown (mapFactor ν x)
  unfolding factorText
  factor-shown (free o ↑ e) = ap (λ (b : Bytes). b ++ powerText e) (open-shown o)
  factor-shown (base x ↑ e) = ap (λ (b : Bytes). code "#" ∷ b ++ powerText e) (name-shown x)

  more-factors-shown : (p : Product ℕ) → moreFactorsText g p ≡ moreFactorsShown (map (mapFactor ν) p)
  unfolding moreFactorsText moreFactorsShown
  more-factors-shown [] = refl
  more-factors-shown (x ∷ p) = ap₂ (λ (a b : Bytes). ascii " * " ++ (a ++ b)) (factor-shown x) (more-factors-shown p)

  factors-shown : (p : Product ℕ) → factorsText g p ≡ factorsShown (map (mapFactor ν) p)
  unfolding factorsText factorsShown
  factors-shown [] = refl
  factors-shown (x ∷ p) = ap₂ (λ (a b : Bytes). a ++ b) (factor-shown x) (more-factors-shown p)

  dimension-shown : (p : Product ℕ) → dimensionText g p ≡ dimensionShown (map (mapFactor ν) p)
  unfolding dimensionText
  dimension-shown p = ap (λ (b : Bytes). ascii "[" ++ (b ++ ascii "]")) (factors-shown p)

  mutual
    unfolding tyText tyShown mapTy

    pub ty-shown : (u : Ty ℕ) → tyText g u ≡ tyShown (mapTy ν u)
    ty-shown (opened o) = open-shown o
    ty-shown (basic b) = refl
    ty-shown (dim p) = dimension-shown p
    ty-shown (fn ps r) = ap₂ (λ (a b : Bytes). ascii "Fn[(" ++ (a ++ (ascii ") -> " ++ (b ++ ascii "]")))) (tys-shown ps) (ty-shown r)
    ty-shown (struct n as' fs) = rw (name-shown n)
        (ap₂ (λ (a b : Bytes). ascii "@" ++ (nameText (bytesIn (ν n)) ++ (a ++ b))) (arguments-shown as') (fields-shown fs))
    ty-shown (list u) = ap (λ (b : Bytes). ascii "List<" ++ (b ++ ascii ">")) (ty-shown u)

    tys-shown : (us : Tys ℕ) → tysText g us ≡ tysShown (map_tys ν us)
    tys-shown nil = refl
    tys-shown (cons u us) = ap₂ (λ (a b : Bytes). a ++ b) (ty-shown u) (more-tys-shown us)

    more-tys-shown : (us : Tys ℕ) → moreTysText g us ≡ moreTysShown (map_tys ν us)
    more-tys-shown nil = refl
    more-tys-shown (cons u us) = ap₂ (λ (a b : Bytes). ascii ", " ++ (a ++ b)) (ty-shown u) (more-tys-shown us)

    arguments-shown : (us : Tys ℕ) → argumentsText g us ≡ argumentsShown (map_tys ν us)
    arguments-shown nil = refl
    arguments-shown (cons u us) = ap₂ (λ (a b : Bytes). ascii "<" ++ (a ++ (b ++ ascii ">"))) (ty-shown u) (more-tys-shown us)

    fields-shown : (fs : Fields ℕ) → fieldsText g fs ≡ fieldsShown (mapFields ν fs)
    fields-shown noFields = refl
    fields-shown (field n u fs) = rw (name-shown n)
        (ap₂ (λ (a b : Bytes). ascii "{" ++ (nameText (bytesIn (ν n)) ++ (ascii ": " ++ (a ++ (b ++ ascii "}"))))) (ty-shown u) (more-fields-shown fs))

    more-fields-shown : (fs : Fields ℕ) → moreFieldsText g fs ≡ moreFieldsShown (mapFields ν fs)
    more-fields-shown noFields = refl
    more-fields-shown (field n u fs) = rw (name-shown n)
        (ap₂ (λ (a b : Bytes). ascii ", " ++ (nameText (bytesIn (ν n)) ++ (ascii ": " ++ (a ++ b)))) (ty-shown u) (more-fields-shown fs))

  pub con-shown : (c : Con ℕ) → conText g c ≡ conShown (mapCon ν c)
  unfolding conText conShown mapCon
  con-shown (equal l r) = ap₂ (λ (a b : Bytes). a ++ (ascii " ~ " ++ b)) (ty-shown l) (ty-shown r)
  con-shown (isDim u) = ap (λ (a : Bytes). a ++ ascii ": DType") (ty-shown u)
  con-shown (is_scalar p) = ap (λ (a : Bytes). a ++ ascii " = Scalar") (dimension-shown p)
  con-shown (hasField n s u) = rw (name-shown n)
      (ap₂ (λ (a b : Bytes). ascii "HasField(" ++ (a ++ (ascii ", \"" ++ (nameText (bytesIn (ν n)) ++ (ascii "\", " ++ (b ++ ascii ")"))))))
      (ty-shown s) (ty-shown u))

  set-shown : (cs : List (Con ℕ)) → setText g cs ≡ collect (λ c. conShown c ++ ascii "\n") (map (mapCon ν) cs)
  unfolding setText collect
  set-shown [] = refl
  set-shown (c ∷ cs) = ap₂ (λ (a b : Bytes). (a ++ ascii "\n") ++ b) (con-shown c) (set-shown cs)

-- ══ The call ══

-- the same bytes at the front of two buffers
listed : (m : Got Bytes) (text text' : Bytes) → TextAlike (listing m text) (listing m text')
unfolding listing resultAfter
listed (got bs) text text' = record { answer = refl; bytes = front-over bs text ∙ sym (front-over bs text') }
listed (refused n) text text' = record { answer = refl; bytes = refl }

module _ {pool table pool' table' : List ℕ} (good : Good pool table) (good' : Good pool' table') where
  abbrev ν₁ : ℕ → Name
  ν₁ = nameNo (table_of pool table)

  abbrev ν₂ : ℕ → Name
  ν₂ = nameNo (table_of pool' table')

  pub set-text : (cs cs' : List (Con ℕ)) → map (mapCon ν₁) cs ≡ map (mapCon ν₂) cs'
      → setText (namesIn (table_of pool table)) cs ≡ setText (namesIn (table_of pool' table')) cs'
  set-text cs cs' e = set-shown good cs ∙ ap (collect (λ c. conShown c ++ ascii "\n")) e ∙ sym (set-shown good' cs')

  text-alike : (ws ws' : List ℕ) (text text' : Bytes) → Alike good good' ws ws' → length text ≡ length text'
      → text_of pool table ws text ≡ text_of pool' table' ws' text'
  unfolding text_of
  text-alike ws ws' text text' e r = equal-answers
      (checked (lent-table good good')
      (checked (ap (λ (n : ℕ). need (leb 354304 n) 10) r)
      (checked (short (ws ∷ []) (ws' ∷ []) (rw (as_long e)))
      (checked (kept-alike good good')
      (onward _ _ (constraints-given good good' ws ws' e) (λ cs cs' i. both (set-text cs cs' i)))))))

  pub write-text : (ws ws' : List ℕ) (text text' : Bytes) → Alike good good' ws ws' → length text ≡ length text'
      → TextAlike (writeTextCall pool table ws text) (writeTextCall pool' table' ws' text')
  unfolding writeTextCall
  write-text ws ws' text text' e r = rw (text-alike ws ws' text text' e r) (listed (text_of pool' table' ws' text') text text')
