-- Offices' lines: over two good tables, types and lent names that read alike are answered alike, with the same steps and places.
use Rattle.std.specs.Prelude.{◌≡◌, Bool, true, false, not, ◌&&◌, ℕ, ◌*◌, eqb, leb, length}
use Rattle.std.proofs.Math.Path.{refl, ap₂}
use Rattle.std.proofs.Common.{ap, sym, ◌∙◌}
use Rattle.std.proofs.Math.Option.{Option, none, some}
use mathlib.Core.List.{List, [], ◌∷◌, map}
use Rattle.rules.specs.Base.{Got, got, ◌>>=◌, ◌>>◌, need, orRefuse, any, all, each, collect}
use Rattle.rules.specs.Exponents.{Exp, frac, goodExp}
use Rattle.rules.specs.Trees.{Ty}
use Rattle.rules.specs.Contents.{closed, among}
use Rattle.rules.specs.Names.{Table, table_of, names_of, numbersOf, is_held}
use Rattle.rules.specs.Writing.{Rec, signed}
use Rattle.rules.specs.Reading.{records}
use Rattle.rules.specs.Calls.{shortNumbers, type_at}
use Rattle.rules.specs.Offices.{Name, byBytes, nameNo, mapTy, NumbersAlike, LentAlike, WrittenAlike}
use Rattle.laws.proofs.Contents.{same-eqb}
use Rattle.laws.specs.NameTable.{Good}
use Rattle.theorems_offices.proofs.Over.{collect-over}
use Rattle.laws.proofs.Alike.{both, neither, onward}
use Rattle.theorems_offices.proofs.Both.{Both, there, through, needed, checked, two-checks}
use Rattle.theorems_offices.proofs.Contents.{all_map, among-map, closed-map}
use Rattle.theorems_offices.proofs.Naming.{isNamed, held-named, keeps}
use Rattle.theorems_offices.proofs.Reading.{seen, records-alike}
use Rattle.theorems_offices.proofs.Writing.{type-written}
use Rattle.theorems_offices.proofs.Results.{writing-alike}
use Rattle.theorems_offices.proofs.Given.{Alike, as_long, as_many, short, few, kept-alike, lent_alike}
use Rattle.theorems_offices.proofs.Judges.{differNamed, differ-map, type-at}
use Rattle.rules.specs.Steps.{
  LineStep,
  constant,
  reference,
  raises,
  whole,
  StepWords,
  four,
  stepWords,
  StepKind,
  isConstant,
  isReference,
  isRaise,
  isChoose,
  isTwo,
  stepNumbers,
  stepKind,
  zeros,
  number_at,
  constantAt,
  referenceTo,
  raiseBy,
  step_of,
  stepGiven,
  lineGiven,
}
use Rattle.rules.specs.Lines.{lineType, namesOfStep, fresh, lineLent, lineShort, checkedLine, checkLineCall}
use Rattle.theorems_lines.proofs.Renamed.{map_step, whole-map, step-names, type-map}

-- fresh, over names themselves
freshNamed : List Name → List Name → Bool
freshNamed names used = differNamed names && all (λ n. not (among byBytes n used)) names

fresh-map : {pool table : List ℕ} (good : Good pool table) (names : List ℕ) (ss : List (LineStep ℕ))
    → freshNamed (map (nameNo (table_of pool table)) names) (collect namesOfStep (map (map_step (nameNo (table_of pool table))) ss)) ≡ fresh names ss
unfolding fresh freshNamed
fresh-map {pool} {table} good names ss =
    rw (collect-over (map_step ν) ν namesOfStep namesOfStep (step-names ν) ss)
    (ap₂ (λ (a b : Bool). a && b) (differ-map good names)
    (all_map ν (λ n. not (any (eqb n) used)) (λ n. not (among byBytes n (map ν used)))
    (λ n. ap not (among-map _ byBytes ν (keeps good) n used ∙ same-eqb (names_of (table_of pool table)) n used)) names))
  where
    ν : ℕ → Name
    ν = nameNo (table_of pool table)

    used : List ℕ
    used = collect namesOfStep ss

module _ {pool table pool' table' : List ℕ} (good : Good pool table) (good' : Good pool' table') where
  -- the two tables, and the names of their numbers
  abbrev T₁ : Table
  T₁ = table_of pool table

  abbrev T₂ : Table
  T₂ = table_of pool' table'

  abbrev ν₁ : ℕ → Name
  ν₁ = nameNo T₁

  abbrev ν₂ : ℕ → Name
  ν₂ = nameNo T₂

  -- ══ Reading ══

  abbrev Steps : Got (LineStep ℕ) → Got (LineStep ℕ) → Type 0
  Steps = Both (map_step ν₁) (map_step ν₂)

  module _ (rs rs' : List Rec) (h : map (seen T₁) rs ≡ map (seen T₂) rs') (lines : List ℕ) where
    closed-alike : (u u' : Ty ℕ) → mapTy ν₁ u ≡ mapTy ν₂ u' → closed u ≡ closed u'
    closed-alike u u' e = sym (closed-map ν₁ u) ∙ ap closed e ∙ closed-map ν₂ u'

    constant-alike : (i : ℕ) → Steps (constantAt T₁ rs lines i) (constantAt T₂ rs' lines i)
    unfolding constantAt
    constant-alike i = onward _ _ (type-at good good' rs rs' i h) (λ u u' e. onward _ _ (needed 1 (closed-alike u u' e)) (λ x y z. both (ap constant e)))

    at_place : (o : Option ℕ)
        → Steps (orRefuse 1 o >>= λ p. type_at T₁ rs p >>= λ u. got (reference u)) (orRefuse 1 o >>= λ p. type_at T₂ rs' p >>= λ u. got (reference u))
    at_place none = neither
    at_place (some p) = onward _ _ (type-at good good' rs rs' p h) (λ u u' e. both (ap reference e))

    reference-alike : (i : ℕ) → Steps (referenceTo T₁ rs lines i) (referenceTo T₂ rs' lines i)
    unfolding referenceTo
    reference-alike i = at_place (number_at lines i)

    raise-alike : (b : Bool) (e : Exp) → Steps (need b 1 >>= λ _. got (raises e)) (need b 1 >>= λ _. got (raises e))
    raise-alike true e = both refl
    raise-alike false e = neither

    kind-alike : (k : StepKind) (a b c : ℕ) → Steps (step_of T₁ rs lines k a b c) (step_of T₂ rs' lines k a b c)
    unfolding step_of raiseBy
    kind-alike isConstant a b c = checked {m = zeros (b ∷ c ∷ [])} refl (constant-alike a)
    kind-alike isReference a b c = checked {m = zeros (b ∷ c ∷ [])} refl (reference-alike a)
    kind-alike isRaise a b c = checked {m = zeros (a ∷ [])} refl (raise-alike (goodExp (frac (signed b) c)) (frac (signed b) c))
    kind-alike isChoose a b c = checked {m = zeros (a ∷ b ∷ c ∷ [])} refl (both refl)
    kind-alike (isTwo o) a b c = checked {m = zeros (a ∷ b ∷ c ∷ [])} refl (both refl)

    by-kind : (o : Option StepKind) (a b c : ℕ) → Steps (orRefuse 1 o >>= λ k. step_of T₁ rs lines k a b c) (orRefuse 1 o >>= λ k. step_of T₂ rs' lines k a b c)
    by-kind none a b c = neither
    by-kind (some k) a b c = kind-alike k a b c

    step-alike : (w : StepWords) → Steps (stepGiven T₁ rs lines w) (stepGiven T₂ rs' lines w)
    unfolding stepGiven
    step-alike (four k a b c) = by-kind (stepKind k stepNumbers) a b c

    steps_alike : (ws : List StepWords) → Both (map (map_step ν₁)) (map (map_step ν₂)) (each (stepGiven T₁ rs lines) ws) (each (stepGiven T₂ rs' lines) ws)
    unfolding each
    steps_alike [] = both refl
    steps_alike (w ∷ ws) = onward _ _ (step-alike w)
        (λ s s' e. onward _ _ (steps_alike ws) (λ ss ss' i. both (ap₂ (λ (x : LineStep Name) (xs : List (LineStep Name)). x ∷ xs) e i)))

  whole-alike : (ss ss' : List (LineStep ℕ)) → map (map_step ν₁) ss ≡ map (map_step ν₂) ss' → whole 0 ss ≡ whole 0 ss'
  whole-alike ss ss' e = sym (whole-map ν₁ 0 ss) ∙ ap (whole 0) e ∙ whole-map ν₂ 0 ss'

  line-given : (steps types types' lines : List ℕ) → Alike good good' types types'
      → Both (map (map_step ν₁)) (map (map_step ν₂)) (lineGiven T₁ steps types lines) (lineGiven T₂ steps types' lines)
  unfolding lineGiven
  line-given steps types types' lines e = go (stepWords steps)
    where
      go : (o : Option (List StepWords)) → Both (map (map_step ν₁)) (map (map_step ν₂))
          (orRefuse 1 o >>= λ ws. orRefuse 1 (records types) >>= λ rs. each (stepGiven T₁ rs lines) ws >>= λ ss. need (whole 0 ss) 1 >>= λ _. got ss)
          (orRefuse 1 o >>= λ ws. orRefuse 1 (records types') >>= λ rs. each (stepGiven T₂ rs lines) ws >>= λ ss. need (whole 0 ss) 1 >>= λ _. got ss)
      go none = neither
      go (some ws) = onward _ _ (there 1 (records types) (records types') (records-alike T₁ T₂ types types' e))
          (λ rs rs' h. onward _ _ (steps_alike rs rs' h lines ws) (λ ss ss' i. onward _ _ (needed 1 (whole-alike ss ss' i)) (λ x y z. both i)))

  fresh-alike : (names names' : List ℕ) (ss ss' : List (LineStep ℕ)) → map ν₁ names ≡ map ν₂ names' → map (map_step ν₁) ss ≡ map (map_step ν₂) ss'
      → fresh names ss ≡ fresh names' ss'
  fresh-alike names names' ss ss' e i = sym (fresh-map good names ss)
      ∙ ap₂ (λ (ns : List Name) (us : List (LineStep Name)). freshNamed ns (collect namesOfStep us)) e i ∙ fresh-map good' names' ss'

  held-alike : (names names' : List ℕ) → map ν₁ names ≡ map ν₂ names' → all (is_held T₁) names ≡ all (is_held T₂) names'
  held-alike names names' e = sym (all_map ν₁ (is_held T₁) isNamed (held-named T₁) names) ∙ ap (all isNamed) e
      ∙ all_map ν₂ (is_held T₂) isNamed (held-named T₂) names'

  -- ══ The call ══

  type-alike : (names names' : List ℕ) (ss ss' : List (LineStep ℕ)) → map ν₁ names ≡ map ν₂ names' → map (map_step ν₁) ss ≡ map (map_step ν₂) ss'
      → Both (mapTy ν₁) (mapTy ν₂) (lineType (numbersOf T₁) ss names) (lineType (numbersOf T₂) ss' names')
  type-alike names names' ss ss' e i = through (type-map _ byBytes ν₁ (keeps good) ss names) (type-map _ byBytes ν₂ (keeps good') ss' names')
      (ap₂ (lineType byBytes) i e)

  short-alike : (steps types types' lines names names' : List ℕ) → length types ≡ length types' → length names ≡ length names'
      → lineShort steps types lines names ≡ lineShort steps types' lines names'
  unfolding lineShort
  short-alike steps types types' lines names names' e f =
      ap₂ (λ (a b : Got (Unit {0})). need (leb (length steps) 512) 8 >> a >> shortNumbers lines >> b) (short (types ∷ []) (types' ∷ []) (rw e))
      (few names names' f)

  checked-alike : (steps types types' lines names names' : List ℕ) → Alike good good' types types' → NumbersAlike T₁ T₂ names names'
      → Both (map (seen T₁)) (map (seen T₂)) (checkedLine T₁ steps types lines names) (checkedLine T₂ steps types' lines names')
  unfolding checkedLine
  checked-alike steps types types' lines names names' e f =
      checked (short-alike steps types types' lines names names' (as_long e) (as_many f))
      (checked (kept-alike good good')
      (onward _ _ (line-given steps types types' lines e) (λ ss ss' i.
      onward _ _ (needed 4 (fresh-alike names names' ss ss' f.names i)) (λ x y z.
      onward _ _ (needed 3 (held-alike names names' f.names)) (λ x' y' z'.
      onward _ _ (type-alike names names' ss ss' f.names i) (λ u u' j. both (type-written T₁ T₂ u u' j)))))))

  room-alike : (steps names names' result result' work work' : List ℕ) → length names ≡ length names' → LentAlike result result' work work'
      → lineLent pool table steps names result work ≡ lineLent pool' table' steps names' result' work'
  unfolding lineLent
  room-alike steps names names' result result' work work' e r =
      two-checks (lent_alike good good' result result' work work' r) (ap (λ (n : ℕ). need (leb (length steps) (n * 4)) 10) e)

  -- the same count or refusal, and a type that reads alike
  pub line-alike : (steps types types' lines names names' result result' work work' : List ℕ) → Alike good good' types types'
      → NumbersAlike T₁ T₂ names names' → LentAlike result result' work work'
      → WrittenAlike T₁ T₂ (checkLineCall pool table steps types lines names result work) (checkLineCall pool' table' steps types' lines names' result' work')
  unfolding checkLineCall
  line-alike steps types types' lines names names' result result' work work' e f r =
      rw (room-alike steps names names' result result' work work' (as_many f) r)
      (writing-alike T₁ T₂ (lineLent pool' table' steps names' result' work') (checkedLine T₁ steps types lines names)
      (checkedLine T₂ steps types' lines names') result result' work work' (checked-alike steps types types' lines names names' e f))
