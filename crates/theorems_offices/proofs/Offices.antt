-- Two offices that share one table of names. Each statement is for every pool, table, list and history.
use Rattle.std.specs.Prelude.{◌≡◌, refl, true, List, [], ◌∷◌, map, ℕ, length}
use Rattle.std.proofs.Common.{ap, sym, ◌∙◌, ltb-true}
use Rattle.rules.specs.Base.{Got, got, refused, collect}
use Rattle.rules.specs.Names.{tableGiven}
use Rattle.rules.specs.Offices.{
  Name,
  nameNo,
  mapGot,
  CallsAlike,
  Office,
  Entering,
  Shared,
  tableIn,
  afterAll,
  namesBy,
  answersTo,
  answerFor,
  hadRoom,
  givenNumber,
  given,
  Unmoved,
}
use Rattle.laws.specs.NameTable.{Good}
use Rattle.laws.proofs.NameTable.{given-good}
use Rattle.theorems_offices.proofs.Over.{collect-over}
use Rattle.theorems_offices.proofs.Own.{handed-alike, written-alike, value-alike}
use Rattle.theorems_offices.proofs.Values.{asked-alike, multiply-alike, divide-alike, inverse-alike, raise-alike}
use Rattle.theorems_offices.proofs.Queries.{set-alike, type-alike, scheme-alike, bindings-alike, contains-alike, closed-alike, variables-alike}
use Rattle.theorems_offices.proofs.Changes.{replace-type, replace-set, quantify-alike, generalise-alike, instantiate-alike}
use Rattle.theorems_offices.proofs.Adds.{add-alike}
use Rattle.theorems_offices.proofs.Solves.{solve-alike}
use Rattle.theorems_offices.proofs.Confirms.{confirm-alike}
use Rattle.theorems_offices.proofs.Conflicts.{conflict-alike}
use Rattle.theorems_offices.proofs.Batches.{batch-alike, ceiling-alike}
use Rattle.theorems_offices.proofs.Judges.{judge-alike}
use Rattle.theorems_offices.proofs.Eliminates.{eliminate-alike}
use Rattle.theorems_offices.proofs.Texts.{write-text}
use Rattle.theorems_offices.proofs.Sheets.{read-text}
use Rattle.theorems_offices.proofs.Rescues.{rescue-alike}
use Rattle.theorems_offices.proofs.Histories.{good-after, all_named}

-- ══ Lists that read alike are answered alike ══

pub numbering' : {pool table pool' table' : List ℕ} → Good pool table → Good pool' table' → CallsAlike pool table pool' table'
numbering' g g' = record {
  asked = asked-alike g g';
  multiply = multiply-alike g g';
  divide = divide-alike g g';
  inverse = inverse-alike g g';
  raise = raise-alike g g';
  set = set-alike g g';
  type = type-alike g g';
  scheme = scheme-alike g g';
  bindings = bindings-alike g g';
  contains = contains-alike g g';
  closed = closed-alike g g';
  variables = variables-alike g g';
  replaceType = replace-type g g';
  replaceSet = replace-set g g';
  add = add-alike g g';
  solve = solve-alike g g';
  batch = batch-alike g g';
  confirm = confirm-alike g g';
  conflict = conflict-alike g g';
  ceiling = ceiling-alike g g';
  quantify = quantify-alike g g';
  generalise = generalise-alike g g';
  instantiate = instantiate-alike g g';
  judge = judge-alike g g';
  eliminate = eliminate-alike g g';
  writeText = write-text g g';
  readText = read-text g g';
  rescue = rescue-alike g g';
}

pub numbering : {pool table pool' table' : List ℕ} → tableGiven pool table ≡ got tt → tableGiven pool' table' ≡ got tt → CallsAlike pool table pool' table'
numbering g g' = numbering' (given-good g) (given-good g')

-- ══ Two offices ══

-- the names of the numbers that were given
givenName : Got Name → List Name
givenName (got n) = n ∷ []
givenName (refused k) = []

given-names : (f : ℕ → Name) (as' : List (Got ℕ)) → collect givenName (map (mapGot f) as') ≡ map f (given as')
unfolding given givenName
given-names f as' = collect-over (mapGot f) f givenNumber givenName one as'
  where
    one : (a : Got ℕ) → givenName (mapGot f a) ≡ map f (givenNumber a)
    one (got n) = refl
    one (refused k) = refl

-- two histories in which an office entered the same names in the same order and met no 3, whatever the other office entered and met, and
-- whatever was held before: what it was given has the same names, what it writes reads alike, and every call answers it alike
pub unmoved : (o : Office) (s s' : Shared) (es es' : List Entering) → tableGiven s.pool s.table ≡ got tt → tableGiven s'.pool s'.table ≡ got tt
    → namesBy o es ≡ namesBy o es' → hadRoom (answersTo o s es) ≡ true → hadRoom (answersTo o s' es') ≡ true → Unmoved o s s' es es'
unmoved o s s' es es' g g' same h h' =
    let answers = all_named o es s (given-good g) h ∙ ap (map answerFor) same ∙ sym (all_named o es' s' (given-good g') h') in
    let names = sym (given-names (nameNo (tableIn (afterAll s es))) (answersTo o s es)) ∙ ap (collect givenName) answers
    ∙ given-names (nameNo (tableIn (afterAll s' es'))) (answersTo o s' es') in
    record {
      names = all_named o es s (given-good g) h;
      answers = answers;
      lists = λ draft rest i j. written-alike (tableIn (afterAll s es)) (tableIn (afterAll s' es')) (given (answersTo o s es))
          (given (answersTo o s' es')) names draft rest i (ltb-true (length rest) 4 j);
      values = λ v i. value-alike (tableIn (afterAll s es)) (tableIn (afterAll s' es')) (given (answersTo o s es)) (given (answersTo o s' es')) names v i;
      numbers = λ is i. record {
        names = handed-alike (nameNo (tableIn (afterAll s es))) (nameNo (tableIn (afterAll s' es')))
            (given (answersTo o s es)) (given (answersTo o s' es')) is names i;
      };
      calls = numbering' (good-after es s (given-good g)) (good-after es' s' (given-good g'));
    }
