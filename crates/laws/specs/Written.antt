-- What was read is what is written there: the records that were read are those of the tree.
use Rattle.std.specs.Prelude.{◌≡◌, refl, Bool, true, false, List, [], ◌∷◌, ◌++◌, length, eqb}
use Rattle.std.proofs.Common.{subst, eqb→eq, eqb-true}
use Rattle.std.proofs.Math.Option.{Option, none, some}
use Prim.Native.Nat.{ℕ, ◌+◌, ◌<◌}
use Rattle.rules.specs.Base.{all}
use Rattle.rules.specs.Writing.{Rec, rec}
use Rattle.rules.specs.Reading.{Reader, unused, pick, ifSo, lasting}
use Rattle.laws.specs.Lists.{Every, all-every, all-is}

-- what was read, if anything was, is as stated
pub record Reads {A : Type 0} (o : Option (A × List Rec)) (P : A → List Rec → Type 0) : Type 0 where
  pub holds : (a : A) (rest : List Rec) → o ≡ some (a, rest) → P a rest

pub nothing : {A : Type 0} {P : A → List Rec → Type 0} → Reads none P
nothing = record { holds = λ a r e. absurd (cc) }

pub given : {A : Type 0} {P : A → List Rec → Type 0} {a : A} {s : List Rec} → P a s → Reads (some (a, s)) P
given {A} {P} {a} {s} p = record { holds = λ b r e. let t : ◌≡◌ {A = A × List Rec} (a, s) (b, r) = cc in subst (λ (v : A × List Rec). P v.0 v.1) t p }

-- by the kind: each line of the table, at its kind
abbrev pub Lines : {A : Type 0} → ℕ → List Rec → (A → List Rec → Type 0) → List (ℕ × Reader A) → Type 0
Lines k s Q xs = Every (λ x. k ≡ x.0 → Reads (x.1 s) Q) xs

pub picked : {A : Type 0} {Q : A → List Rec → Type 0} (k : ℕ) (s : List Rec) (xs : List (ℕ × Reader A)) → Lines k s Q xs → Reads (pick k xs s) Q
picked k s [] h = nothing
picked {A} {Q} k s (x ∷ xs) h = go (eqb k x.0) refl (picked k s xs h.1)
  where
    go : (b : Bool) → eqb k x.0 ≡ b → Reads (pick k xs s) Q → Reads (pick k (x ∷ xs) s) Q
    go true e r = rw (e, pick) (h.0 (eqb→eq k x.0 (rw e tt)))
    go false e r = rw (e, pick) r

-- words that are 0
abbrev pub Zeros : List ℕ → Type 0
Zeros ws = Every (λ w. w ≡ 0) ws

zeros : (ws : List ℕ) → all (λ w. eqb w 0) ws ≡ true → Zeros ws
zeros ws t = all-every (λ w. w ≡ 0) ws (λ w m. eqb-true w 0 (all-is (λ w. eqb w 0) ws t w m))

pub plain : {A : Type 0} {Q : A → List Rec → Type 0} (ws : List ℕ) (m : Reader A) (s : List Rec) → (Zeros ws → Reads (m s) Q) → Reads (unused ws m s) Q
plain {A} {Q} ws m s h = go (all (λ w. eqb w 0) ws) refl
  where
    go : (b : Bool) → all (λ w. eqb w 0) ws ≡ b → Reads (unused ws m s) Q
    go true e = rw (e, unused) (h (zeros ws e))
    go false e = rw (e, unused) nothing

-- words of 32 bits
abbrev pub Small : List Rec → Type 0
Small [] = Unit {0}
Small (rec k a b c ∷ rs) = (b < 4_294_967_296) × Small rs

-- s is what is written, and then the rest
abbrev pub Is : List Rec → List Rec → List Rec → Type 0
Is s w rest = (s ≡ w ++ rest) × Small rest

-- what is read and lasts as long as it says is as stated
pub lasting-read : {A : Type 0} {P : A → List Rec → Type 0} (n m : ℕ) (o : Option (A × List Rec)) → Reads o P
    → Reads (lasting n m o) (λ a rest. P a rest × (n + length rest ≡ m))
lasting-read n m none h = nothing
lasting-read {A} {P} n m (some r) h = go (eqb (n + length r.1) m) refl
  where
    go : (b : Bool) → eqb (n + length r.1) m ≡ b → Reads (ifSo b (some r)) (λ a rest. P a rest × (n + length rest ≡ m))
    go true e = given (h.holds r.0 r.1 refl, eqb-true (n + length r.1) m e)
    go false e = nothing
