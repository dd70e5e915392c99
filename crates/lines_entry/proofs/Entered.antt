-- What follows from the definitions of specs/Entered: all checks of a line before its constraints: 8, 1, 4, 3.
use Rattle.std.specs.Prelude.{Result, Ok, Err, ◌≡◌, Bool, ◌&&◌, [], ◌∷◌, ℕ, ◌≤◌, leb, ltb, length, get_or}
use Rattle.std.proofs.Math.Path.{refl}
use Rattle.std.proofs.Math.Bool.{true, false}
use mathlib.Core.List.{List}
use Rattle.rules.specs.Base.{Got, got, refused, ◌>>=◌, ◌>>◌, need, all}
use Rattle.rules.specs.Names.{Table, table_of, tableGood, numbersOf, is_held}
use Rattle.rules.specs.Refusals.{number_of}
use Rattle.rules.specs.Writing.{writeTy}
use Rattle.rules.specs.declared.Refusal.{Refusal}
use Rattle.rules.specs.Calls.{shortLists, shortNumbers, tableKept}
use Rattle.names.specs.declared.tables.NameTable.{NameTable}
use Rattle.laws.proofs.Checks.{need-passed, first-passed}
use Rattle.laws.specs.Lists.{and_left}
use Rattle.laws.proofs.Lists.{bound-step}
use borrow.Author.Tests.{leb-true}
use Rattle.rules.specs.Steps.{LineStep, lineGiven}
use Rattle.rules.specs.Lines.{fresh, lineShort, lineType, checkedLine}
use Rattle.lines_entry.specs.Entered.{lineEntered, entered_over}

module _ {A B : Type 0} (g : A → Got B) where
  after_two : (a b : Bool) (x : A) → (need a 4 >> (need b 3 >> g x)) ≡ ((need a 4 >> (need b 3 >> got x)) >>= g)
  after_two true true x = refl
  after_two true false x = refl
  after_two false b x = refl

  after-given : (m : Got A) (p q : A → Bool) → (m >>= λ x. need (p x) 4 >> (need (q x) 3 >> g x)) ≡ ((m >>= λ x. need (p x) 4 >> (need (q x) 3 >> got x)) >>= g)
  after-given (got x) p q = after_two (p x) (q x) x
  after-given (refused n) p q = refl

-- what comes after: the set is solved and judged, and the last variable's type written
pub checked-entered : (t : Table) (steps types lines names : List ℕ)
    → checkedLine t steps types lines names
    ≡ (lineEntered t steps types lines names >>= λ ss. lineType (numbersOf t) ss names >>= λ ty. got (writeTy ty))
unfolding checkedLine lineEntered
checked-entered t steps types lines names = go (lineShort steps types lines names) (tableKept t)
  where
    go : (a b : Got (Unit {0})) →
        (a >> (b >> (lineGiven t steps types lines >>= λ ss. need (fresh names ss) 4
        >> (need (all (is_held t) names) 3 >> (lineType (numbersOf t) ss names >>= λ ty. got (writeTy ty))))))
        ≡ ((a >> (b >> (lineGiven t steps types lines >>= λ ss. need (fresh names ss) 4 >> (need (all (is_held t) names) 3 >> got ss))))
        >>= λ ss. lineType (numbersOf t) ss names >>= λ ty. got (writeTy ty))
    go (refused n) b = refl
    go (got u) (refused n) = refl
    go (got u) (got v) = after-given (λ ss. lineType (numbersOf t) ss names >>= λ ty. got (writeTy ty)) (lineGiven t steps types lines) (fresh names)
        (λ ss. all (is_held t) names)

-- what is lent is short
pub its-short : (steps types lines names : List ℕ) → lineShort steps types lines names ≡ got tt → (length steps ≤ 512) × (length types ≤ 8192)
unfolding lineShort shortLists all
its-short steps types lines names h =
    let s₃ = first-passed (shortNumbers names) tt (need (leb (length steps) 512) 8 >> shortLists (types ∷ []) >> shortNumbers lines) h in
    let s₂ = first-passed (shortNumbers lines) _ (need (leb (length steps) 512) 8 >> shortLists (types ∷ [])) s₃ in
    let s₁ = bound-step (need (leb (length steps) 512) 8) _ _ s₂ in (
      leb-true (length steps) 512 (need-passed (leb (length steps) 512) 8 s₁.1),
      leb-true (length types) 8192 (and_left (leb (length types) 8192) true (need-passed (leb (length types) 8192 && true) 8 s₁.2)),
    )

-- ══ The answers of the code ══

module _ (steps types lines names : List ℕ) where
  pub enter-long : (table : Result NameTable Refusal) → need false 8 ≡ lineShort steps types lines names
      → refused 8 ≡ entered_over table steps types lines names
  unfolding lineEntered
  enter-long (Ok n) h = rw (← h)
  enter-long (Err why) h = rw (← h)

  module _ (s : need true 8 ≡ lineShort steps types lines names) where
    pub enter-refused : (why : Refusal) → refused (number_of why) ≡ entered_over (Err why) steps types lines names
    enter-refused why = rw (← s)

    module _ (n : NameTable) where
      abbrev t : Table
      t = table_of n.pool.now n.table.now

      abbrev entered : Got (List (LineStep ℕ))
      entered = lineEntered t steps types lines names

      kept : tableGood t ≡ true
      kept = n.good.good

      pub enter-form : (n : ℕ) → lineGiven t steps types lines ≡ refused n → refused n ≡ entered
      unfolding lineEntered tableKept
      enter-form n h = rw (← s, kept, h)

      module _ (ss : List (LineStep ℕ)) (h : lineGiven t steps types lines ≡ got ss) where
        pub enter-used : fresh names ss ≡ false → refused 4 ≡ entered
        unfolding lineEntered tableKept
        enter-used f = rw (← s, kept, h, f)

        module _ (f : fresh names ss ≡ true) where
          pub enter-unheld : all (λ x. ltb x (get_or n.table.now 0 0)) names ≡ false → refused 3 ≡ entered
          unfolding lineEntered tableKept table_of
          enter-unheld e = rw (← s, kept, h, f, e)

          pub enter-all : all (λ x. ltb x (get_or n.table.now 0 0)) names ≡ true → got ss ≡ entered
          unfolding lineEntered tableKept table_of
          enter-all e = rw (← s, kept, h, f, e)
