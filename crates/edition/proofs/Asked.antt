-- What follows from the definitions of specs/Asked: what is found of the lines that conflict, from what became of a sheet and from its records.
use Rattle.std.specs.Prelude.{◌≡◌, refl, List, [], ◌++◌, map, ℕ, ◌≤◌, length, take, drop, Ok, Err, Some, None}
use Rattle.std.proofs.Common.{sym, ap, ◌∙◌, arith, length-append}
use Rattle.std.proofs.lemmas.List.{length-map, take_at}
use Rattle.std.proofs.Math.Option.{Option, none, some}
use Rattle.rules.specs.Base.{Got, got, refused, collect}
use Rattle.rules.specs.Calls.{over, resultAfter}
use Rattle.rules.specs.Conflicts.{Line, conflictOf}
use Rattle.rules.specs.Names.{Bytes, Table}
use Rattle.rules.specs.Refusals.{number_of}
use Rattle.rules.specs.Reports.{Finding, findingOf, Page}
use Rattle.rules.specs.declared.Refusal.{Refusal}
use Rattle.laws.proofs.Lists.{some≢none, got≢refused}
use Rattle.solve_conflict.specs.Told.{FoundAs}
use Rattle.edition_report.specs.Found.{IsFinding}
use Rattle.edition_report.specs.declared.pages.Outcome.{Outcome}
use Rattle.edition_report.specs.declared.pages.Outcome.TheVariants as outcome
use Rattle.edition.specs.Files.{IsSheet}
use Rattle.edition.proofs.Judged.{found-unread, found-unseen}
use Rattle.edition.specs.Pages.{Holds}
use Rattle.edition.specs.Why.{ifRemains, conflictOn, conflictHead, unknownText, whyLine, whyShown, whyText}
use Rattle.edition.specs.declared.model.Content as kind
use Rattle.edition.specs.declared.model.Content.TheVariants as content
use Rattle.edition.specs.declared.model.Sheet.{Sheet}
use Rattle.edition.specs.Asked.{askedBy}

pub none-found : (result : List ℕ) → FoundAs (got none) result result (Ok None)
unfolding resultAfter over
none-found result = record { answer = refl; buffer = refl }

-- ══ As the page has it ══

asked-is : (s : List ℕ) (o : Outcome) (f : Finding) → IsFinding s o f → (m : Got (Option (List (Line ℕ)))) → askedBy o m ≡ ifRemains f m
asked-is s (outcome.Unseen u) f h m = rw h refl
asked-is s (outcome.Unread e) f h m = rw h refl
asked-is s (outcome.Agrees b n k) f h m = rw h.is refl
asked-is s (outcome.Denied i) f h m = rw h refl
asked-is s (outcome.Unjudged r) f h m = rw h refl
asked-is s (outcome.Remains e k) f h m = rw h.is refl
asked-is s (outcome.Stops r k) f h m = rw h refl

module _ (t : Table) (x : Sheet) (p : Page) (is : IsSheet x p) (s : List ℕ) (o : Outcome) (h : IsFinding s o (findingOf t p.content)) where
  conflict-is : (c : kind.Content) → Holds c x.records.items p → askedBy o (conflictOf t x.records.items) ≡ conflictOn t p.content
  unfolding conflictOn
  conflict-is (content.Set r) k = asked-is s o _ h _ ∙ rw (k.is-set, k.kept.is) refl
  conflict-is (content.Refused e) k = asked-is s o _ h _ ∙ rw (found-unread t p _ _ _ k.0) refl
  conflict-is (content.Unseen u) k = asked-is s o _ h _ ∙ rw (found-unseen t p k.0) refl

  pub why-is : whyShown x.name.now x.text.now (askedBy o (conflictOf t x.records.items)) ≡ whyText t p
  unfolding whyText
  why-is = rw (conflict-is x.content is.holds, is.named, is.typed) refl

-- ══ What is told, by what is found ══

module _ (name text : Bytes) (result result' : List ℕ) where
  pub told-none : (m : Got (Option (List (Line ℕ)))) → FoundAs m result result' (Ok None) → whyShown name text m ≡ []
  told-none (got none) f = refl
  told-none (got (some ls)) f = let z : none ≡ some (length ls) = cc f.answer in absurd (some≢none (sym z))
  told-none (refused n) f = absurd (got≢refused f.answer)

  module _ {many : ℕ} where
    front : (ls : List (Line ℕ)) → FoundAs (got (some ls)) result result' (Ok (Some many)) → take many result' ≡ map (λ l. l.0) ls
    unfolding resultAfter over
    front ls f =
        let n : many ≡ length ls = cc f.answer in
        let w = map (λ (l : Line ℕ). l.0) ls in
        let b : result' ≡ w ++ drop (length w) result = f.buffer in
        ap (take many) b ∙ take_at w (drop (length w) result) many (length-map ls (λ (l : Line ℕ). l.0) ∙ sym n)

    pub told-some : (m : Got (Option (List (Line ℕ)))) → FoundAs m result result' (Ok (Some many))
        → conflictHead ++ collect (whyLine name text) (take many result') ≡ whyShown name text m
    told-some (got none) f = let z : some many ≡ none = cc f.answer in absurd (some≢none z)
    told-some (got (some ls)) f = rw (front ls f) refl
    told-some (refused n) f = absurd (got≢refused f.answer)

    pub told-fits : (m : Got (Option (List (Line ℕ)))) → FoundAs m result result' (Ok (Some many)) → many ≤ length result'
    unfolding resultAfter over
    told-fits (got none) f = let z : some many ≡ none = cc f.answer in absurd (some≢none z)
    told-fits (got (some ls)) f =
        let n : many ≡ length ls = cc f.answer in
        let w = map (λ (l : Line ℕ). l.0) ls in
        let b : result' ≡ w ++ drop (length w) result = f.buffer in
        rw b (omega (arith, n, length-map ls (λ (l : Line ℕ). l.0), length-append w (drop (length w) result)))
    told-fits (refused n) f = absurd (got≢refused f.answer)

  pub told-refused : {r : Refusal} (m : Got (Option (List (Line ℕ)))) → FoundAs m result result' (Err r) → unknownText (number_of r) ≡ whyShown name text m
  told-refused (got none) f = absurd (got≢refused (sym f.answer))
  told-refused (got (some ls)) f = absurd (got≢refused (sym f.answer))
  told-refused {r} (refused n) f = let z : number_of r ≡ n = cc f.answer in ap unknownText z
