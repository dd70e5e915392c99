-- Adding: sets and constraints that read alike are answered alike.
use Rattle.std.specs.Prelude.{◌≡◌, ℕ, ◌+◌, ◌*◌, ◌≤◌, leb, take, drop}
use Rattle.std.proofs.Math.Path.{refl, ap}
use Rattle.std.proofs.Common.{ap₂, sym, ◌∙◌, arith, leb-true, length-append, length-take-le}
use mathlib.Core.List.{List, [], ◌∷◌, ◌++◌, append_assoc}
use Rattle.std.proofs.Math.ListN.{length}
use Rattle.rules.specs.Base.{Got, got, refused, ◌>>◌, need, sum_of}
use Rattle.rules.specs.Trees.{Con, sizeCon}
use Rattle.rules.specs.Names.{Table, table_of, lentTable}
use Rattle.rules.specs.Adding.{Added, satisfied, violated, unknown, add}
use Rattle.rules.specs.Calls.{lentResult, shortLists, over, bufferAfter, addedTo, addCall}
use Rattle.rules.specs.Offices.{nameNo, Name, byBytes, mapCon, AddedAlike, frontAdded}
use Rattle.laws.proofs.Checks.{need-passed, first-passed, next-passed}
use Rattle.laws.proofs.Lists.{bound-step}
use Rattle.laws.specs.NameTable.{Good}
use Rattle.laws.proofs.Alike.{both, onward}
use Rattle.theorems_offices.proofs.Both.{through, checked, two-checks, equal-answers}
use Rattle.theorems_offices.proofs.Sizes.{size-cons}
use Rattle.theorems_offices.proofs.Adding.{add-map}
use Rattle.theorems_offices.proofs.Naming.{keeps}
use Rattle.theorems_offices.proofs.Results.{take-front, joined-alike}
use Rattle.theorems_offices.proofs.Given.{Alike, as_long, short, only-alike, kept-alike, lent-table, lent-result, constraints-given}

take-both : (xs ys rest : List ℕ) (n : ℕ) → length xs ≡ n → take (n + length ys) (xs ++ (ys ++ rest)) ≡ xs ++ ys
take-both xs ys rest n e =
    ap (λ (m : ℕ). take m (xs ++ (ys ++ rest))) (ap (λ (m : ℕ). m + length ys) (sym e) ∙ sym (length-append xs ys))
    ∙ ap (take (length (xs ++ ys))) (sym (append_assoc xs ys rest)) ∙ take-front (xs ++ ys) rest

-- the set is the first n records of its buffer, which has room for them
room : (pool table buffer : List ℕ) (n : ℕ) (c : List ℕ) (r : Added × ℕ) → addedTo pool table buffer n c ≡ got r → n * 4 ≤ length buffer
unfolding addedTo lentResult
room pool table buffer n c r e =
    let x = bound-step (lentTable pool table >> need (leb 8192 (length buffer)) 10) _ r e in
    let y = bound-step (need (leb n 2048) 8 >> shortLists (c ∷ [])) _ r x.2 in
    let z = leb-true 8192 (length buffer) (need-passed _ 10 (next-passed (need (leb 8192 (length buffer)) 10) tt (lentTable pool table) x.1)) in
    let w = leb-true n 2048 (need-passed _ 8 (first-passed (shortLists (c ∷ [])) tt (need (leb n 2048) 8) y.1)) in
    omega (arith, z, w)

module _ {pool table pool' table' : List ℕ} (good : Good pool table) (good' : Good pool' table') where
  -- ══ The call over two tables ══

  -- the two tables, and the names of their numbers
  abbrev T₁ : Table
  T₁ = table_of pool table

  abbrev T₂ : Table
  T₂ = table_of pool' table'

  abbrev ν₁ : ℕ → Name
  ν₁ = nameNo T₁

  abbrev ν₂ : ℕ → Name
  ν₂ = nameNo T₂

  answered : (buffer buffer' : List ℕ) (n : ℕ) (c c' : List ℕ) → Alike good good' (take (n * 4) buffer) (take (n * 4) buffer')
      → Alike good good' c c' → length buffer ≡ length buffer'
      → addedTo pool table buffer n c ≡ addedTo pool' table' buffer' n c'
  unfolding addedTo
  answered buffer buffer' n c c' e f r = equal-answers
      (checked (two-checks (lent-table good good') (lent-result buffer buffer' r))
      (checked (two-checks {a = need (leb n 2048) 8} refl (short (c ∷ []) (c' ∷ []) (rw (as_long f))))
      (checked (kept-alike good good')
      (onward _ _ (constraints-given good good' (take (n * 4) buffer) (take (n * 4) buffer') e) (λ cs cs' i.
      onward _ _ (onward _ _ (constraints-given good good' c c' f) (only-alike (mapCon ν₁) (mapCon ν₂))) (λ d d' j.
      onward _ _ (through (add-map _ byBytes ν₁ (keeps good) cs d) (add-map _ byBytes ν₂ (keeps good') cs' d')
      (ap₂ (λ (x : List (Con Name)) (y : Con Name). add byBytes x y) i j)) (λ q q' k.
      both (ap₂ (λ (a : Added) (m : ℕ). (a, m)) (ap (λ v. v.0) k) (sym (size-cons ν₁ q.1) ∙ ap (λ v. sum_of sizeCon v.1) k ∙ size-cons ν₂ q'.1)))))))))

  stored-front : (buffer c : List ℕ) (n : ℕ) → n * 4 ≤ length buffer
      → take (n * 4 + length c) (take (n * 4) buffer ++ over c (drop (n * 4) buffer)) ≡ take (n * 4) buffer ++ c
  unfolding over
  stored-front buffer c n h = take-both (take (n * 4) buffer) c (drop (length c) (drop (n * 4) buffer)) (n * 4) (length-take-le (n * 4) buffer h)

  stored-alike : (buffer buffer' : List ℕ) (n : ℕ) (c c' : List ℕ) → Alike good good' (take (n * 4) buffer) (take (n * 4) buffer')
      → Alike good good' c c' → n * 4 ≤ length buffer
      → n * 4 ≤ length buffer'
      → Alike good good' (take (n * 4 + length c) (take (n * 4) buffer ++ over c (drop (n * 4) buffer)))
      (take (n * 4 + length c') (take (n * 4) buffer' ++ over c' (drop (n * 4) buffer')))
  stored-alike buffer buffer' n c c' e f h h' = rw (stored-front buffer c n h, stored-front buffer' c' n h')
      (joined-alike T₁ T₂ n (take (n * 4) buffer) (take (n * 4) buffer') c c' (length-take-le (n * 4) buffer h) (length-take-le (n * 4) buffer' h') e f)

  fronts : (buffer buffer' : List ℕ) (n : ℕ) (c c' : List ℕ) → Alike good good' (take (n * 4) buffer) (take (n * 4) buffer') → Alike good good' c c'
      → (a : Got (Added × ℕ))
      → ((r : Added × ℕ) → a ≡ got r → (n * 4 ≤ length buffer) × (n * 4 ≤ length buffer'))
      → Alike good good' (frontAdded a n c (bufferAfter a (n * 4) c buffer)) (frontAdded a n c' (bufferAfter a (n * 4) c' buffer'))
  unfolding bufferAfter
  fronts buffer buffer' n c c' e f (refused k) h = e
  fronts buffer buffer' n c c' e f (got r) h = go r.0 (h r refl)
    where
      go : (a : Added) → (n * 4 ≤ length buffer) × (n * 4 ≤ length buffer')
          → Alike good good' (frontAdded (got (a, r.1)) n c (bufferAfter (got (a, r.1)) (n * 4) c buffer))
          (frontAdded (got (a, r.1)) n c' (bufferAfter (got (a, r.1)) (n * 4) c' buffer'))
      go satisfied h = e
      go violated h = stored-alike buffer buffer' n c c' e f h.0 h.1
      go unknown h = stored-alike buffer buffer' n c c' e f h.0 h.1

  pub add-alike : (buffer buffer' : List ℕ) (n : ℕ) (c c' : List ℕ) → Alike good good' (take (n * 4) buffer) (take (n * 4) buffer')
      → Alike good good' c c' → length buffer ≡ length buffer'
      → AddedAlike T₁ T₂ n c c' (addCall pool table buffer n c) (addCall pool' table' buffer' n c')
  unfolding addCall
  add-alike buffer buffer' n c c' e f r =
      let s = answered buffer buffer' n c c' e f r in
      record {
        answer = s;
        records = rw (← s) (fronts buffer buffer' n c c' e f (addedTo pool table buffer n c)
            (λ q h. (room pool table buffer n c q h, room pool' table' buffer' n c' q (sym s ∙ h))));
      }
