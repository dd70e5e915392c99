-- Equal words hold equal types, and equal types have equal words.
use Rattle.std.specs.Prelude.{◌≡◌, Bool, true, false, List, [], ◌∷◌, ℕ, suc, ◌+◌, ◌*◌, ◌/◌, ◌<◌, ◌≤◌, length, get_or, nat_eq}
use Rattle.std.specs.Cmp.Lexicographic.{pointwise, same_text, other_text}
use Rattle.std.proofs.Common.{sym, ap, ◌∙◌, add-zero, arith, get_or-take, get_or-drop}
use Rattle.rules.specs.Base.{is_yes}
use Rattle.rules.specs.Exponents.{frac}
use Rattle.rules.specs.Names.{Bytes, numbered}
use Rattle.rules.specs.Trees.{
  ◌↑◌,
  Product,
  Ty,
  opened,
  basic,
  dim,
  fn,
  struct,
  list,
  Tys,
  nil,
  cons,
  Fields,
  noFields,
  field,
  size,
  sizeTys,
  sizeFields,
  ty-dec,
}
use Rattle.rules.specs.Writing.{words, writeTy}
use Rattle.laws.proofs.Lists.{is-no, is-yes}
use Rattle.laws.proofs.Size.{size-ty, words-length}
use Rattle.records.specs.Views.{viewAt, longAt, longOf, view_of}
use Rattle.records.specs.Places.{view-some, long-some, recAt}
use Rattle.records.specs.Holds.{HoldsFactors, HoldsProduct, Holds, HoldsTys, HoldsFields}
use Rattle.records.proofs.Held.{held-words}
use Rattle.records.specs.Parsed.{only}
use Rattle.records.specs.ByView.{ends-in}
use Rattle.types.specs.Once.{ATree}

module _ (s t : List ℕ) where
  -- n records from `at` on say in s what those from k on say in t
  abbrev Alike : ℕ → ℕ → ℕ → Type 0
  Alike at k n = (i : ℕ) → i < n → (viewAt s (at + i) ≡ viewAt t (k + i)) × (longAt s (at + i) ≡ longAt t (k + i))

  -- m of them, past the first j
  part : (at k n j m : ℕ) → j + m ≤ n → Alike at k n → Alike (at + j) (k + j) m
  part at k n j m h a i l =
      let p : at + j + i ≡ at + (j + i) = omega arith in
      let q : k + j + i ≡ k + (j + i) = omega arith in
      rw (p, q) (a (j + i) (omega arith))

  shown : (at k n : ℕ) → 0 < n → Alike at k n → viewAt t k ≡ viewAt s at
  shown at k n h a = rw (add-zero at, add-zero k) at (sym (a 0 h).0)

  long : (at k n : ℕ) → 0 < n → Alike at k n → longAt t k ≡ longAt s at
  long at k n h a = rw (add-zero at, add-zero k) at (sym (a 0 h).1)

  factors-too : (p : Product ℕ) (at k : ℕ) → Alike at k (length p) → HoldsFactors s p at → HoldsFactors t p k
  unfolding HoldsFactors
  factors-too [] at k a h = tt
  factors-too (f ↑ frac n d ∷ p) at k a h = (
    (shown at k (suc (length p)) (omega arith) a ∙ h.0.0, h.0.1, long at k (suc (length p)) (omega arith) a ∙ h.0.2),
    factors-too p (at + 1) (k + 1) (part at k (suc (length p)) 1 (length p) (omega arith) a) h.1,
  )

  mutual
    unfolding Holds HoldsProduct size

    -- what a place holds, another holds whose records say the same
    pub held-too : (x : Ty ℕ) (at k : ℕ) → Alike at k (size x) → Holds s x at → Holds t x k
    held-too (opened o) at k a h = (shown at k 1 (omega arith) a ∙ h.0, long at k 1 (omega arith) a ∙ h.1)
    held-too (basic b) at k a h = (shown at k 1 (omega arith) a ∙ h.0, long at k 1 (omega arith) a ∙ h.1)
    held-too (dim p) at k a h =
        let n : ℕ = size (dim p) in
        (shown at k n (omega arith) a ∙ h.0, factors-too p (at + 1) (k + 1) (part at k n 1 (length p) (omega arith) a) h.1, long at k n (omega arith) a ∙ h.2)
    held-too (fn ps r) at k a h =
        let n : ℕ = size (fn ps r) in
        let rest = part at k n 1 (sizeTys ps + size r) (omega arith) a in (
          shown at k n (omega arith) a ∙ h.0,
          tys-too ps (at + 1) (k + 1) (part at k n 1 (sizeTys ps) (omega arith) a) h.1,
          held-too r (at + 1 + sizeTys ps) (k + 1 + sizeTys ps) (part (at + 1) (k + 1) (sizeTys ps + size r) (sizeTys ps) (size r) (omega arith) rest) h.2,
          long at k n (omega arith) a ∙ h.3,
        )
    held-too (struct x as' fs) at k a h =
        let n : ℕ = size (struct x as' fs) in
        let rest = part at k n 1 (sizeTys as' + sizeFields fs) (omega arith) a in (
          shown at k n (omega arith) a ∙ h.0,
          tys-too as' (at + 1) (k + 1) (part at k n 1 (sizeTys as') (omega arith) a) h.1,
          fields-too fs (at + 1 + sizeTys as') (k + 1 + sizeTys as')
              (part (at + 1) (k + 1) (sizeTys as' + sizeFields fs) (sizeTys as') (sizeFields fs) (omega arith) rest) h.2,
          long at k n (omega arith) a ∙ h.3,
        )
    held-too (list x) at k a h =
        let n : ℕ = size (list x) in
        (shown at k n (omega arith) a ∙ h.0, held-too x (at + 1) (k + 1) (part at k n 1 (size x) (omega arith) a) h.1, long at k n (omega arith) a ∙ h.2)

    tys-too : (xs : Tys ℕ) (at k : ℕ) → Alike at k (sizeTys xs) → HoldsTys s xs at → HoldsTys t xs k
    tys-too nil at k a h = tt
    tys-too (cons x xs) at k a h =
        let n : ℕ = size x + sizeTys xs in (
          held-too x at k (λ i l. a i (omega arith)) h.0,
          tys-too xs (at + size x) (k + size x) (part at k n (size x) (sizeTys xs) (omega arith) a) h.1,
        )

    fields-too : (fs : Fields ℕ) (at k : ℕ) → Alike at k (sizeFields fs) → HoldsFields s fs at → HoldsFields t fs k
    fields-too noFields at k a h = tt
    fields-too (field x u fs) at k a h =
        let n : ℕ = suc (size u + sizeFields fs) in
        let rest = part at k n 1 (size u + sizeFields fs) (omega arith) a in (
          shown at k n (omega arith) a ∙ h.0,
          held-too u (at + 1) (k + 1) (part at k n 1 (size u) (omega arith) a) h.1,
          fields-too fs (at + 1 + size u) (k + 1 + size u) (part (at + 1) (k + 1) (size u + sizeFields fs) (size u) (sizeFields fs) (omega arith) rest) h.2,
          long at k n (omega arith) a ∙ h.3,
        )

  -- records of equal words say the same
  alike : (at k n : ℕ) → at + n ≤ length s / 4 → k + n ≤ length t / 4
      → ((d : ℕ) → d < n * 4 → get_or s (at * 4 + d) 0 ≡ get_or t (k * 4 + d) 0) → Alike at k n
  alike at k n p q w i l = (
    view-some s (at + i) (omega arith) ∙ ap view_of same ∙ sym (view-some t (k + i) (omega arith)),
    long-some s (at + i) (omega arith) ∙ ap longOf same ∙ sym (long-some t (k + i) (omega arith)),
  )
    where
      word : (j : ℕ) → j < 4 → get_or s ((at + i) * 4 + j) 0 ≡ get_or t ((k + i) * 4 + j) 0
      word j h =
          let e : (at + i) * 4 + j ≡ at * 4 + (i * 4 + j) = omega arith in
          let f : (k + i) * 4 + j ≡ k * 4 + (i * 4 + j) = omega arith in
          rw (e, f) (w (i * 4 + j) (omega arith))

      same : recAt s (at + i) ≡ recAt t (k + i)
      same = rw (
        rw (add-zero ((at + i) * 4), add-zero ((k + i) * 4)) at (word 0 (omega arith)),
        word 1 (omega arith),
        word 2 (omega arith),
        word 3 (omega arith),
      )

word : (u : List ℕ) (z : Ty ℕ) (i : ℕ) → Holds u z i → (d : ℕ) → d < size z * 4 → get_or (words (writeTy z)) d 0 ≡ get_or u (i * 4 + d) 0
word u z i hz d l = let le : i * 4 + d < (i + size z) * 4 = omega arith in rw (← held-words u z i hz, get_or-drop, get_or-take)

module _ (s : List ℕ) (at : ℕ) (x : ATree s at) (t : List ℕ) (k : ℕ) (y : ATree t k) where
  by-words : words (writeTy x.0) ≡ words (writeTy y.0) → x.0 ≡ y.0
  by-words e =
      let n : size x.0 ≡ size y.0 =
      omega (arith, ap length e, words-length (writeTy x.0), words-length (writeTy y.0), size-ty x.0, size-ty y.0) in
      let same : (d : ℕ) → d < size x.0 * 4 → get_or s (at * 4 + d) 0 ≡ get_or t (k * 4 + d) 0 =
      λ d l. sym (word s x.0 at x.1 d l) ∙ ap (λ ws. get_or ws d 0) e ∙ word t y.0 k y.1 d (rw (← n) l) in
      only t x.0 y.0 k (held-too s t x.0 at k (alike s t at k (size x.0) (ends-in s x.0 at x.1) (rw n (ends-in t y.0 k y.1)) same) x.1) y.1

  -- a test of the words tells it
  pub same-told : (names : List Bytes) {u v : List ℕ} {b : Bool} → u ≡ words (writeTy x.0) → v ≡ words (writeTy y.0) → b ≡ pointwise nat_eq u v
      → b ≡ is_yes (ty-dec (numbered names) x.0 y.0)
  same-told names {u} {v} {b} p q h = go b h
    where
      go : (b : Bool) → b ≡ pointwise nat_eq u v → b ≡ is_yes (ty-dec (numbered names) x.0 y.0)
      go true h = sym (is-yes (ty-dec (numbered names) x.0 y.0) (by-words (sym p ∙ same_text u v h ∙ q)))
      go false h = sym (is-no (ty-dec (numbered names) x.0 y.0) (λ i. other_text u v h (p ∙ ap (λ z. words (writeTy z)) i ∙ sym q)))
