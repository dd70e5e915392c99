-- What is counted of files that were given, one after another.
use Rattle.std.specs.Prelude.{◌≡◌, ◌≤◌, ◌<◌, ◌+◌, ◌-◌, ◌^◌, min, ℕ, List, [], ◌∷◌, ◌++◌, take, get_or, length}
use Rattle.std.proofs.Common.{ap, ap₂, ◌∙◌, sym, arith, length-append, length-take}
use Rattle.std.proofs.lemmas.List.{length-map, map_more}
use Rattle.rules.specs.Base.{sum_of}
use Rattle.rules.specs.Names.{table_of}
use Rattle.rules.specs.Reports.{acceptedIn}
use Rattle.edition.specs.Report.{Named}
use Rattle.edition_verify.specs.Verifying.{Had}
use Rattle.edition_checks.specs.Counts.{alone, acceptedOf, CountsApart}
use Rattle.edition_checks.specs.Given.{editionOf, given_of, text_of}
use Rattle.edition_checks.specs.declared.files.Given.{Given}
use Rattle.edition_checks.proofs.Passing.{few, one-accepted}

-- what is counted of one sheet, over the names that reading it left
pub alone-counts : (g : Given) {pool table : List ℕ} {m : ℕ} → Named pool table (editionOf (g ∷ []))
    → m ≡ acceptedIn (table_of pool table) (editionOf (g ∷ [])).pages → m ≡ acceptedOf (alone (g.name.now, text_of g))
alone-counts g n e = rw (n.pools, n.tables) at e

sum-behind : (xs : List Had) (f : Had) → sum_of (λ g. acceptedOf (alone g)) (xs ++ f ∷ []) ≡ sum_of (λ g. acceptedOf (alone g)) xs + acceptedOf (alone f)
sum-behind [] f = omega arith
sum-behind (x ∷ xs) f = let e = sum-behind xs f in omega (arith, e)

module _ {files : List Had} {sheets accepted : ℕ} (c : CountsApart files sheets accepted) where
  apart-few : accepted ≤ sheets
  apart-few = rw (c.all, c.counted) (few (λ (f : Had). acceptedOf (alone f)) one-accepted files)

  -- a file more, where counts stop at the last number
  pub apart-more : (f : Had) {m : ℕ} → m ≡ acceptedOf (alone f) → length files < 2 ^ 64 - 1
      → {s a : ℕ} → s ≡ min (sheets + 1) (2 ^ 64 - 1) → a ≡ min (accepted + m) (2 ^ 64 - 1) → CountsApart (files ++ f ∷ []) s a
  apart-more f {m} e small {s} {a} is-s is-a =
      let few-so-far : accepted ≤ sheets = apart-few in
      let one : m ≤ 1 = rw e (one-accepted f) in
      let all-s : s ≡ sheets + 1 = omega (arith, is-s, small, c.all) in
      let all-a : a ≡ accepted + m = omega (arith, is-a, small, c.all, few-so-far, one) in
      record {
        all = all-s ∙ ap (λ (n : ℕ). n + 1) c.all ∙ sym (length-append files (f ∷ []));
        counted = all-a ∙ ap₂ (λ (x y : ℕ). x + y) c.counted e ∙ sym (sum-behind files f);
      }

-- of the first of these files that were given one more
pub given-more : (gs : List Given) (i : ℕ) (g d : Given) → g ≡ get_or gs i d → i < length gs → length gs < 2 ^ 64
    → {sheets accepted : ℕ} → CountsApart (given_of (take i gs)) sheets accepted → {m : ℕ} → m ≡ acceptedOf (alone (g.name.now, text_of g))
    → {s a : ℕ} → s ≡ min (sheets + 1) (2 ^ 64 - 1) → a ≡ min (accepted + m) (2 ^ 64 - 1) → CountsApart (given_of (take (i + 1) gs)) s a
given-more gs i g d is there fits c e is-s is-a =
    let short : length (given_of (take i gs)) ≡ min i (length gs) = simp (length-map, length-take) in
    let more : given_of (take (i + 1) gs) ≡ given_of (take i gs) ++ (g.name.now, text_of g) ∷ [] =
    map_more {Y = Had} (λ (f : Given). (f.name.now, text_of f)) gs i d there
    ∙ ap (λ (f : Given). given_of (take i gs) ++ (f.name.now, text_of f) ∷ []) (sym is) in
    rw more (apart-more c (g.name.now, text_of g) e (omega (arith, short, there, fits)) is-s is-a)
