-- What is told of structs is so, and all of it.
use Rattle.std.specs.Prelude.{◌≡◌, refl, ℕ, Bool, true, false, cond, ◌&&◌, ◌||◌, ◌==◌, List, []}
use Rattle.std.specs.Prelude.{◌∷◌, ◌++◌, Option, Some, None, ◌⊎◌, ◌+◌, ◌<◌, ◌≤◌, length, take, drop, get_or}
use Rattle.std.proofs.Common.{drop-cons, drop_of_length-le, subst}
use Rattle.std.proofs.Math.Numerals.{add-one}
use Rattle.std.proofs.Common.{sym, ◌∙◌, ap, append_assoc, append-nil, inl, inr, arith}
use Rattle.std.proofs.lemmas.Bool.{eq-eqb, eqb-true}
use Rattle.std.proofs.lemmas.List.{take_more}
use Rattle.std.specs.List.{All, Contains, find}
use Rattle.std.specs.Str.{bytes_eq}
use Rattle.std.proofs.lemmas.List.Elements.{
  All-append,
  All-cons,
  All-nil,
  All-weaker,
  Contains-append_cases,
  Contains-append_left,
  Contains-append_right,
  Contains-push,
  Contains-push_cases,
}
use Rattle.std.proofs.lemmas.List.Folds.{list_any-append}
use Rattle.std.proofs.lemmas.Slice.Eq.{bytes_eq-Decides}
use Rattle.edition_structs.specs.declared.Differing.{Differing}
use Rattle.edition_structs.specs.Structs.{Struct}
use Rattle.edition_structs.specs.Compared.{hasKey, firstAlike, isTold, unless, more, differingFrom, differingOf, Complete, IsSo, Sound}

-- ══ Tests ══

or_left : (a b : Bool) → a || b ≡ false → a ≡ false
or_left true b e = e
or_left false b e = refl

or_right : (a b : Bool) → a || b ≡ false → b ≡ false
or_right true b e = absurd (let bad : true ≡ false = e in cc)
or_right false b e = e

both : (a b : Bool) → a && b ≡ true → (a ≡ true) × (b ≡ true)
both true b e = (refl, e)
both false b e = absurd (let bad : false ≡ true = e in cc)

pub key_same : (x : ℕ) (as' : List ℕ) (t : Struct) → hasKey x as' t ≡ true → (t.name ≡ x) × (t.arguments ≡ as')
key_same x as' t e =
    let h = both (t.name == x) (bytes_eq t.arguments as') e in (eqb-true t.name x h.0, (bytes_eq-Decides t.arguments as').0 h.1)

pub same_has : (x : ℕ) (as' : List ℕ) (t : Struct) → t.name ≡ x → t.arguments ≡ as' → hasKey x as' t ≡ true
same_has x as' t e f = rw (eq-eqb t.name x e, (bytes_eq-Decides t.arguments as').1 f) refl

-- ══ Found ══

module _ {X : Type 0} (p : X → Bool) where
  found_here : (y : X) (ys : List X) (x : X) → y ≡ x → p y ≡ true → Contains (y ∷ ys) x × (p x ≡ true)
  found_here y ys x e h = rw (← e) (Contains-append_left (y ∷ []) ys y (Contains-push [] y), h)

  found_step : (y : X) (ys : List X) (x : X) (b : Bool) → p y ≡ b → (find p ys ≡ Some x → Contains ys x × (p x ≡ true))
      → cond b (Some y) (find p ys) ≡ Some x → Contains (y ∷ ys) x × (p x ≡ true)
  found_step y ys x true h more e = let same : y ≡ x = cc in found_here y ys x same h
  found_step y ys x false h more e = let rest = more e in (Contains-append_right (y ∷ []) ys x rest.0, rest.1)

  pub found : (xs : List X) (x : X) → find p xs ≡ Some x → Contains xs x × (p x ≡ true)
  found [] x e = absurd (cc)
  found (y ∷ ys) x e = found_step y ys x (p y) refl (found ys x) e

  there_step : (y : X) (ys : List X) (x : X) (b : Bool) → p y ≡ b → p x ≡ true → (Contains ys x → find p ys ≡ None → ⊥)
      → Contains [] x ⊎ (y ≡ x) ⊎ Contains ys x → cond b (Some y) (find p ys) ≡ None → ⊥
  there_step y ys x true h g more c e = cc
  there_step y ys x false h g more (inl c) e = omega (arith, c.1)
  there_step y ys x false h g more (inr (inl s)) e = cc
  there_step y ys x false h g more (inr (inr c)) e = more c e

  cases_cons : (y : X) (ys : List X) (x : X) → Contains (y ∷ []) x ⊎ Contains ys x → Contains [] x ⊎ (y ≡ x) ⊎ Contains ys x
  cases_cons y ys x (inl c) = elim (Contains-push_cases [] y x c) [ inl d ↦ inl d | inr s ↦ inr (inl s) ]
  cases_cons y ys x (inr c) = inr (inr c)

  pub there : (xs : List X) (x : X) → Contains xs x → p x ≡ true → find p xs ≡ None → ⊥
  there [] x c h e = omega (arith, c.1)
  there (y ∷ ys) x c h e =
      there_step y ys x (p y) refl h (λ d. there ys x d h) (cases_cons y ys x (Contains-append_cases (y ∷ []) ys x c)) e

-- ══ One more struct ══

not_told : (x : ℕ) (ds es : List Differing) → isTold x (ds ++ es) ≡ false → (isTold x ds ≡ false) × (isTold x es ≡ false)
not_told x ds es h =
    let e : isTold x ds || isTold x es ≡ false = sym (list_any-append (λ d. d.name == x) ds es) ∙ h in (or_left _ _ e, or_right (isTold x ds) _ e)

module _ (bs : List Struct) (ds : List Differing) (s : Struct) where
  telling : Struct → Differing
  telling t = record { name = s.name; first = t.place; other = s.place }

  -- where the first that is alike has other fields and the name wasn't told, it is now
  same_fields : (t : Struct) (b c : Bool) → bytes_eq t.fields s.fields ≡ b → isTold s.name ds ≡ c → isTold s.name ds ≡ false
      → isTold s.name (unless (b || c) (record { name = s.name; first = t.place; other = s.place })) ≡ false → t.fields ≡ s.fields
  same_fields t true c e f g h = (bytes_eq-Decides t.fields s.fields).0 e
  same_fields t false true e f g h = absurd (let bad : true ≡ false = sym f ∙ g in cc)
  same_fields t false false e f g h = absurd (let bad : true ≡ false = sym (eq-eqb s.name s.name refl) ∙ or_left (s.name == s.name) false h in cc)

  module _ (all : Complete bs ds) where
    with_first : (u : Struct) → Contains bs u → u.name ≡ s.name → u.arguments ≡ s.arguments → (o : Option Struct) → firstAlike s bs ≡ o
        → isTold s.name (ds ++ more ds s o) ≡ false → u.fields ≡ s.fields
    with_first u c e f None none h = absurd (there (hasKey s.name s.arguments) bs u c (same_has s.name s.arguments u e f) none)
    with_first u c e f (Some t) some h =
        let first = found (hasKey s.name s.arguments) bs t some in
        let key = key_same s.name s.arguments t first.1 in
        let untold = not_told s.name ds (more ds s (Some t)) h in
        all u t c first.0 (e ∙ sym key.0) (f ∙ sym key.1) (rw e untold.0)
        ∙ same_fields t (bytes_eq t.fields s.fields) (isTold s.name ds) refl refl untold.0 untold.1

    with_new : (u : Struct) → Contains bs u → u.name ≡ s.name → u.arguments ≡ s.arguments
        → isTold s.name (ds ++ more ds s (firstAlike s bs)) ≡ false → u.fields ≡ s.fields
    with_new u c e f h = with_first u c e f (firstAlike s bs) refl h

    complete_two : (u v : Struct) → Contains bs u ⊎ (s ≡ u) → Contains bs v ⊎ (s ≡ v) → u.name ≡ v.name → u.arguments ≡ v.arguments
        → isTold u.name (ds ++ more ds s (firstAlike s bs)) ≡ false → u.fields ≡ v.fields
    complete_two u v (inl c) (inl d) e f h = all u v c d e f (not_told u.name ds (more ds s (firstAlike s bs)) h).0
    complete_two u v (inl c) (inr q) e f h =
        let n : u.name ≡ s.name = rw q e in
        let a : u.arguments ≡ s.arguments = rw q f in
        with_new u c n a (subst (λ x. isTold x (ds ++ more ds s (firstAlike s bs)) ≡ false) n h) ∙ ap (λ (z : Struct). z.fields) q
    complete_two u v (inr p) (inl d) e f h =
        let n : v.name ≡ s.name = rw p (sym e) in
        let a : v.arguments ≡ s.arguments = rw p (sym f) in
        ap (λ (z : Struct). z.fields) (sym p)
        ∙ sym (with_new v d n a (subst (λ x. isTold x (ds ++ more ds s (firstAlike s bs)) ≡ false) (ap (λ (z : Struct). z.name) (sym p)) h))
    complete_two u v (inr p) (inr q) e f h = ap (λ (z : Struct). z.fields) (sym p ∙ q)

    complete_more : Complete (bs ++ s ∷ []) (ds ++ more ds s (firstAlike s bs))
    complete_more u v c d = complete_two u v (Contains-push_cases bs s u c) (Contains-push_cases bs s v d)

  so_more : (d : Differing) → IsSo bs d → IsSo (bs ++ s ∷ []) d
  so_more d h = (h.0, h.1, Contains-append_left bs (s ∷ []) h.0 h.2, Contains-append_left bs (s ∷ []) h.1 h.3, h.4, h.5, h.6, h.7, h.8, h.9)

  so_told : (t : Struct) → firstAlike s bs ≡ Some t → (b : Bool) → bytes_eq t.fields s.fields || isTold s.name ds ≡ b
      → All (IsSo (bs ++ s ∷ [])) (unless b (record { name = s.name; first = t.place; other = s.place }))
  so_told t some true e = All-nil (IsSo (bs ++ s ∷ []))
  so_told t some false e =
      let first = found (hasKey s.name s.arguments) bs t some in
      let key = key_same s.name s.arguments t first.1 in
      let apart : t.fields ≡ s.fields → ⊥ =
      λ same. let bad : false ≡ true = sym (or_left _ _ e) ∙ (bytes_eq-Decides t.fields s.fields).1 same in cc in
      All-cons
      (IsSo (bs ++ s ∷ []))
      (record { name = s.name; first = t.place; other = s.place })
      []
      (t, s, Contains-append_left bs (s ∷ []) t first.0, Contains-push bs s, key.0, refl, refl, refl, key.1, apart)
      (All-nil (IsSo (bs ++ s ∷ [])))

  so_new : (o : Option Struct) → firstAlike s bs ≡ o → All (IsSo (bs ++ s ∷ [])) (more ds s o)
  so_new None e = All-nil (IsSo (bs ++ s ∷ []))
  so_new (Some t) e = so_told t e (bytes_eq t.fields s.fields || isTold s.name ds) refl

  sound_more : Sound bs ds → Sound (bs ++ s ∷ []) (ds ++ more ds s (firstAlike s bs))
  sound_more h =
      All-append
      (IsSo (bs ++ s ∷ []))
      ds
      (more ds s (firstAlike s bs))
      (All-weaker (IsSo bs) (IsSo (bs ++ s ∷ [])) so_more ds h)
      (so_new (firstAlike s bs) refl)

-- ══ All structs ══

complete_run : (ss bs : List Struct) (ds : List Differing) → Complete bs ds → Complete (bs ++ ss) (differingFrom bs ds ss)
unfolding differingFrom
complete_run [] bs ds h = subst (λ zs. Complete zs ds) (sym (append-nil bs)) h
complete_run (s ∷ ss) bs ds h =
    subst
    (λ zs. Complete zs (differingFrom (bs ++ s ∷ []) (ds ++ more ds s (firstAlike s bs)) ss))
    (append_assoc bs (s ∷ []) ss)
    (complete_run ss (bs ++ s ∷ []) (ds ++ more ds s (firstAlike s bs)) (complete_more bs ds s h))

sound_run : (ss bs : List Struct) (ds : List Differing) → Sound bs ds → Sound (bs ++ ss) (differingFrom bs ds ss)
unfolding differingFrom
sound_run [] bs ds h = subst (λ zs. Sound zs ds) (sym (append-nil bs)) h
sound_run (s ∷ ss) bs ds h =
    subst
    (λ zs. Sound zs (differingFrom (bs ++ s ∷ []) (ds ++ more ds s (firstAlike s bs)) ss))
    (append_assoc bs (s ∷ []) ss)
    (sound_run ss (bs ++ s ∷ []) (ds ++ more ds s (firstAlike s bs)) (sound_more bs ds s h))

module _ (ss : List Struct) (ds : List Differing) (e : ds ≡ differingOf ss) where
  pub is_complete : Complete ss ds
  is_complete = subst (Complete ss) (sym e) (complete_run ss [] [] (λ s t c d. absurd (omega (arith, c.1))))

  pub is_sound : Sound ss ds
  is_sound = subst (Sound ss) (sym e) (sound_run ss [] [] (All-nil (IsSo [])))

-- one step of the run over a list, and its end
module _ (ss : List Struct) (k : ℕ) (ds rs : List Differing) (e : differingFrom (take k ss) ds (drop k ss) ≡ rs) where
  run_at : k < length ss → (d : Struct)
      → differingFrom (take (k + 1) ss) (ds ++ more ds (get_or ss k d) (firstAlike (get_or ss k d) (take k ss))) (drop (k + 1) ss) ≡ rs
  unfolding differingFrom
  run_at h d = rw (take_more ss k d h, add-one k) (rw (drop-cons ss k d h) at e)

  pub run_next : k < length ss → (d s : Struct) → get_or ss k d ≡ s
      → differingFrom (take (k + 1) ss) (ds ++ more ds s (firstAlike s (take k ss))) (drop (k + 1) ss) ≡ rs
  run_next h d s same =
      subst (λ s. differingFrom (take (k + 1) ss) (ds ++ more ds s (firstAlike s (take k ss))) (drop (k + 1) ss) ≡ rs) same (run_at h d)

  pub run_done : length ss ≤ k → ds ≡ rs
  unfolding differingFrom
  run_done h = rw (drop_of_length-le ss {i = k} h) at e
