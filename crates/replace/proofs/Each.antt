-- Constraints or bindings written one after another: what is left to write decides.
use Rattle.std.specs.Prelude.{◌≡◌, List, [], ◌∷◌, Result, Ok, Err, refl}
use Rattle.std.proofs.Common.{sym, subst, ◌∙◌}
use Rattle.std.proofs.lemmas.List.{nil_from_length}
use Rattle.rules.specs.Base.{Got, got, refused, each, collect}
use Rattle.rules.specs.declared.Refusal.{Refusal}
use Rattle.rules.specs.Writing.{Rec}
use Rattle.laws.specs.Lists.{Every}
use Rattle.records.specs.Cut.{cut}
use Rattle.records.proofs.Cut.{cut-length}
use Rattle.types.specs.declared.writer.Writer.{Writer}
use Rattle.types.specs.Written.{Writes}
use Rattle.types.proofs.Written.{writes-none}
use Rattle.replace.specs.Leaves.{Leaves}
use Rattle.replace.proofs.Walks.{on, stopped, leaves, stops, after}

module _ {A : Type 0} (write : A → List Rec) (f : A → Got A) (good : A → Type 0) where
  -- one, and then those that are left
  leaves-more : {w w₁ w' : Writer} (a : A) (as' : List A) (r : Result (Unit {0}) Refusal) → Leaves write w w₁ (Ok tt) (f a)
      → Leaves (collect write) w₁ w' r (each f as') → Leaves (collect write) w w' r (each f (a ∷ as'))
  unfolding each collect
  leaves-more {w} {w₁} {w'} a as' r p q = on p (λ b e h. go b e h r (each f as') refl q)
    where
      go : (b : A) → f a ≡ got b → Writes w w₁ (cut (write b)) → (r : Result (Unit {0}) Refusal) (R : Got (List A)) → each f as' ≡ R
          → Leaves (collect write) w₁ w' r R → Leaves (collect write) w w' r (each f (a ∷ as'))
      go b e h (Ok u) (got bs) i q = leaves (b ∷ bs) (rw (e, i)) (after (write b) (collect write bs) h q.says)
      go b e h (Ok u) (refused k) i q = absurd q.says
      go b e h (Err x) (got bs) i q = absurd q.says
      go b e h (Err x) (refused k) i q = stops (rw (e, i, q.says)) (q.same ∙ h.same)

  -- a walk that stopped at the first
  leaves-none : {w w' : Writer} (a : A) (as' : List A) {x : Refusal} → Leaves write w w' (Err x) (f a) → Leaves (collect write) w w' (Err x) (each f (a ∷ as'))
  unfolding each
  leaves-none a as' p = let e = stopped p in stops (rw e) p.same

  -- what is left is well formed, and what it leaves behind w is what all leave behind w₀
  pub record Still (w₀ w : Writer) (left all : List A) : Type 0 where
    pub sound : Every good left
    pub rest : (w' : Writer) (r : Result (Unit {0}) Refusal) → Leaves (collect write) w w' r (each f left) → Leaves (collect write) w₀ w' r (each f all)

  pub still-all : (w : Writer) (all : List A) → Every good all → Still w w all all
  still-all w all g = record { sound = g; rest = λ w' r h. h }

  module _ {w₀ w : Writer} {now all : List A} (s : Still w₀ w now all) where
    pub still-ends : now ≡ [] → Leaves (collect write) w₀ w (Ok tt) (each f all)
    unfolding each collect
    still-ends e = s.rest w (Ok tt) (rw e (leaves [] refl (subst (Writes w w) (sym (nil_from_length (cut []) (cut-length []))) (writes-none w))))

    module _ (a : A) (left : List A) (e : now ≡ a ∷ left) where
      both : Every good (a ∷ left)
      both = subst (Every good) e s.sound

      pub still-good : good a
      still-good = both.0

      pub still-more : {w₁ : Writer} → Leaves write w w₁ (Ok tt) (f a) → Still w₀ w₁ left all
      still-more {w₁} p = record {
        sound = both.1;
        rest = λ w' r q. s.rest w' r (subst (λ (l : List A). Leaves (collect write) w w' r (each f l)) (sym e) (leaves-more a left r p q));
      }

      pub still-stops : {w₁ : Writer} {x : Refusal} → Leaves write w w₁ (Err x) (f a) → Leaves (collect write) w₀ w₁ (Err x) (each f all)
      still-stops {w₁} {x} p = s.rest w₁ (Err x) (subst (λ (l : List A). Leaves (collect write) w w₁ (Err x) (each f l)) (sym e) (leaves-none a left p))
