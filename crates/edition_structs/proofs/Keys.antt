-- The map of first structs, and one more struct.
use Rattle.std.specs.Prelude.{◌≡◌, refl, ℕ, Bool, true, false, cond, ◌&&◌, ◌==◌, ◌+◌, ◌<◌, ◌≤◌}
use Rattle.std.specs.Prelude.{List, [], ◌∷◌, ◌++◌, length, take, drop, get_or, map, Option, Some, None}
use Rattle.std.proofs.Common.{sym, ◌∙◌, ap, subst}
use Rattle.std.proofs.lemmas.List.{get_or-map, length-map, take_more}
use Rattle.std.specs.BTreeMap.{BTreeMap, get, is_at}
use Rattle.std.specs.Cmp.{unsigned_ties}
use Rattle.std.specs.Cmp.Lexicographic.{slice_cmp}
use Rattle.std.specs.List.{find}
use Rattle.std.specs.Option.{option_map, option_or}
use Rattle.std.specs.Ordering.{nat_cmp, ordering_then, is_eq}
use Rattle.std.specs.declared.cmp.Ordering.{Ordering}
use Rattle.std.specs.declared.cmp.Ordering.TheVariants.{Less, Equal, Greater}
use Rattle.std.specs.Str.{bytes_eq}
use Rattle.std.proofs.lemmas.List.Folds.{find-append}
use Rattle.std.proofs.lemmas.Map.Text.{is_eq-slice_cmp}
use Rattle.edition_structs.specs.declared.written.Written.{Written}
use Rattle.edition_structs.specs.declared.Differing.{Differing}
use Rattle.edition_structs.specs.Structs.{Struct}
use Rattle.edition_structs.specs.Compared.{hasKey, firstAlike, more, differingFrom}
use Rattle.edition_structs.specs.Told.{told, Key, cmpKey, Firsts}
use Rattle.edition_structs.proofs.Compared.{key_same, run_next, run_done}

then-both : (a b : Ordering) → is_eq (ordering_then a b) ≡ (is_eq a && is_eq b)
then-both Less b = refl
then-both Equal b = refl
then-both Greater b = refl

-- equal keys are those with the same name and arguments
pub same_key : (a b : Key) → is_eq (cmpKey a b) ≡ (a.0 == b.0 && bytes_eq a.1.now b.1.now)
same_key a b =
    then-both (nat_cmp a.0 b.0) (slice_cmp nat_cmp a.1.now b.1.now)
    ∙ rw (← unsigned_ties a.0 b.0, is_eq-slice_cmp a.1.now b.1.now) refl

or-none : {A : Type 0} (o : Option A) → o ≡ option_or o None
or-none None = refl
or-none (Some a) = refl

module _ (m : BTreeMap Key Written) (w : Written) (ss : List Struct) (h : Firsts m ss) where
  module _ (q : Key) where
    find_more : (b : Bool) → hasKey q.0 q.1.now (told w) ≡ b
        → find (hasKey q.0 q.1.now) (ss ++ told w ∷ []) ≡ option_or (find (hasKey q.0 q.1.now) ss) (cond b (Some (told w)) None)
    find_more b e = find-append (hasKey q.0 q.1.now) ss (told w ∷ []) ∙ rw e refl

    at_key : hasKey q.0 q.1.now (told w) ≡ true → find (hasKey q.0 q.1.now) ss ≡ option_map told (get cmpKey m (w.name, w.arguments))
    at_key e =
        let s = key_same q.0 q.1.now (told w) e in
        rw (← s.0, ← s.1) (sym (h (w.name, w.arguments)))

    stays : (f : Written) → get cmpKey m (w.name, w.arguments) ≡ Some f → (b : Bool) → hasKey q.0 q.1.now (told w) ≡ b
        → option_map told (get cmpKey m q) ≡ find (hasKey q.0 q.1.now) (ss ++ told w ∷ [])
    stays f e true k = rw (h q, find_more true k, at_key k, e) refl
    stays f e false k = h q ∙ or-none (find (hasKey q.0 q.1.now) ss) ∙ sym (find_more false k)

    comes : get cmpKey m (w.name, w.arguments) ≡ None → (b : Bool) → hasKey q.0 q.1.now (told w) ≡ b
        → option_map told (cond b (Some w) (get cmpKey m q)) ≡ find (hasKey q.0 q.1.now) (ss ++ told w ∷ [])
    comes e true k = rw (find_more true k, at_key k, e) refl
    comes e false k = h q ∙ or-none (find (hasKey q.0 q.1.now) ss) ∙ sym (find_more false k)

  pub first_is : (o : Option Written) → o ≡ get cmpKey m (w.name, w.arguments) → option_map told o ≡ firstAlike (told w) ss
  first_is o e = rw e (h (w.name, w.arguments))

  pub firsts_stay : (f : Written) → Some f ≡ get cmpKey m (w.name, w.arguments) → Firsts m (ss ++ told w ∷ [])
  firsts_stay f e q = stays q f (sym e) (hasKey q.0 q.1.now (told w)) refl

  pub firsts_more : (n : BTreeMap Key Written) → None ≡ get cmpKey m (w.name, w.arguments)
      → ((q : Key) → get cmpKey n q ≡ cond (is_at (cmpKey (w.name, w.arguments)) q) (Some w) (get cmpKey m q)) → Firsts n (ss ++ told w ∷ [])
  firsts_more n e u q = rw (u q, same_key (w.name, w.arguments) q) (comes q (sym e) (hasKey q.0 q.1.now (told w)) refl)

-- the same over a list of structs
module _ (ws : List Written) (k : ℕ) where
  module _ (h : k < length ws) (d : Written) where
    in_all : k < length (map told ws)
    in_all = rw (length-map ws told) h

    at_all : get_or (map told ws) k (told d) ≡ told (get_or ws k d)
    at_all = get_or-map told ws k d (told d) h

    pub firsts_next : (m : BTreeMap Key Written) → Firsts m (take k (map told ws) ++ told (get_or ws k d) ∷ []) → Firsts m (take (k + 1) (map told ws))
    firsts_next m f = subst (Firsts m) (sym (take_more (map told ws) k (told d) in_all ∙ ap (λ s. take k (map told ws) ++ s ∷ []) at_all)) f

    pub told_next : (ds ds' rs : List Differing) (o : Option Written) → differingFrom (take k (map told ws)) ds (drop k (map told ws)) ≡ rs
        → option_map told o ≡ firstAlike (told (get_or ws k d)) (take k (map told ws)) → ds' ≡ ds ++ more ds (told (get_or ws k d)) (option_map told o)
        → differingFrom (take (k + 1) (map told ws)) ds' (drop (k + 1) (map told ws)) ≡ rs
    told_next ds ds' rs o e f g = rw (g, f) (run_next (map told ws) k ds rs e in_all (told d) (told (get_or ws k d)) at_all)

  pub told_done : length ws ≤ k → (ds rs : List Differing) → differingFrom (take k (map told ws)) ds (drop k (map told ws)) ≡ rs → ds ≡ rs
  told_done h ds rs e = run_done (map told ws) k ds rs e (rw (length-map ws told) h)
