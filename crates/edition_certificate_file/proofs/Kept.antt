-- What is kept of sheets, and its text.
use Rattle.std.proofs.Common.{◌≡◌, refl, sym, ap, ◌∙◌, append_assoc, ◌++◌, ◌+◌, ◌<◌, Bool, true, false, ℕ, List, [], ◌∷◌, length, take, get_or, map}
use Rattle.std.proofs.lemmas.List.{get_or-map, length-map}
use Rattle.std.proofs.lemmas.List.Folds.{list_any_at, list_any_more}
use Rattle.std.specs.List.{list_any}
use Rattle.rules.specs.Base.{collect}
use Rattle.rules.specs.Grammar.{ascii}
use Rattle.rules.specs.Names.{Bytes}
use Rattle.edition_certificate_file.specs.declared.Entry.{Entry}
use Rattle.edition_certificate_file.specs.Files.{Kept, keptOf, keptText, keptsText, entryText, firstLine, lastLine, certificateText}

texts : (es : List Entry) → collect keptText (map keptOf es) ≡ collect entryText es
unfolding collect
texts [] = refl
texts (e ∷ es) = ap (entryText e ++◌) (texts es)

pub certificate-text : (es : List Entry) {first sheets last all : Bytes} → first ≡ firstLine → sheets ≡ first ++ collect entryText es
    → last ≡ sheets ++ lastLine (length es) → all ≡ last ++ ascii "\n" → all ≡ certificateText es
unfolding keptsText
certificate-text es a b c d =
    d ∙ ap (λ (t : Bytes). t ++ ascii "\n") (c ∙ ap (λ (t : Bytes). t ++ lastLine (length es)) (b ∙ ap (λ (t : Bytes). t ++ collect entryText es) a))
    ∙ append_assoc (firstLine ++ collect entryText es) (lastLine (length es)) (ascii "\n")
    ∙ append_assoc firstLine (collect entryText es) (lastLine (length es) ++ ascii "\n") ∙ rw (texts es, length-map es keptOf) refl

-- a sheet with some property among those that are kept
module _ (p : Kept → Bool) (es : List Entry) (i : ℕ) (e : Entry) (within : i < length es) (is : e ≡ get_or es i e) where
  here : get_or (map keptOf es) i (keptOf e) ≡ keptOf e
  here = get_or-map keptOf es i e (keptOf e) within ∙ ap keptOf (sym is)

  pub kept-here : p (keptOf e) ≡ true → true ≡ list_any p (map keptOf es)
  kept-here h = sym (list_any_at p (map keptOf es) i (keptOf e) (rw (length-map es keptOf) within) (ap p here ∙ h))

  pub not-yet : p (keptOf e) ≡ false → list_any p (take i (map keptOf es)) ≡ false → list_any p (take (i + 1) (map keptOf es)) ≡ false
  not-yet h before = list_any_more p (map keptOf es) i (keptOf e) (rw (length-map es keptOf) within) ∙ rw (before, here) h
