-- One constraint after another: what is written, what is placed, what is counted.
use Rattle.std.specs.Prelude.{◌≡◌, refl, Bool, true, false, List, [], ◌∷◌, ◌++◌, map, ℕ, suc, ◌+◌, ◌<◌, length, set, get_or}
use Rattle.std.proofs.Common.{ap, sym, subst, ◌∙◌, arith, append_assoc, append-nil, length-append}
use Rattle.std.proofs.lemmas.List.{length-set}
use Rattle.rules.specs.Base.{keep, collect}
use Rattle.rules.specs.Calls.{over}
use Rattle.rules.specs.Choices.{wide}
use Rattle.rules.specs.Conflicts.{linesFrom, wideOf}
use Rattle.rules.specs.Trees.{Con}
use Rattle.rules.specs.Writing.{writeCon}
use Rattle.queries.specs.Marks.{Filled}
use Rattle.queries.proofs.SortMarks.{over-put, over_none}
use Rattle.types.specs.declared.writer.Writer.{Writer}
use Rattle.types.specs.Sets.{placed}
use Rattle.types.proofs.OnSets.{alone, placed-alone}
use Rattle.types.specs.Written.{Writes}
use Rattle.types.proofs.Written.{writes-none, writes-then}
use Rattle.solve_conflict.proofs.Loops.{Putting, Placing}
use Rattle.solve_conflict.specs.Standing.{line_place, standing}
use Rattle.solve_conflict.proofs.Marks.{stands-first, stands-not}

abbrev Seen : Type 0
Seen = List ℕ × ℕ × Con ℕ

-- ══ Counted ══

pub count-init : (s : List ℕ) (at : ℕ) (cs : List (Con ℕ)) → 0 + length (alone (placed s at cs)) ≡ length cs
count-init s at cs = omega (arith, ap length (placed-alone s at cs))

-- ══ Written ══

module _ (m : List Bool) where
  abbrev pub part : ℕ → List (Con ℕ) → List (Con ℕ)
  part i cs = wideOf (standing m i cs)

  pub part-first : (i : ℕ) (c : Con ℕ) (cs : List (Con ℕ)) → get_or m i false ≡ true → wide c ≡ true → part i (c ∷ cs) ≡ c ∷ part (suc i) cs
  unfolding keep
  part-first i c cs e w = ap wideOf (stands-first m i c cs e) ∙ ap (λ (b : Bool). elim b [ true ↦ c ∷ part (suc i) cs | false ↦ part (suc i) cs ]) w

  pub part-narrow : (i : ℕ) (c : Con ℕ) (cs : List (Con ℕ)) → get_or m i false ≡ true → wide c ≡ false → part i (c ∷ cs) ≡ part (suc i) cs
  unfolding keep
  part-narrow i c cs e w = ap wideOf (stands-first m i c cs e) ∙ ap (λ (b : Bool). elim b [ true ↦ c ∷ part (suc i) cs | false ↦ part (suc i) cs ]) w

  pub part-not : (i : ℕ) (c : Con ℕ) (cs : List (Con ℕ)) → get_or m i false ≡ false → part i (c ∷ cs) ≡ part (suc i) cs
  part-not i c cs e = ap wideOf (stands-not m i c cs e)

  module _ (w₀ w : Writer) (cs : List (Con ℕ)) where
    pub putting-init : (s : List ℕ) (at : ℕ) → Putting m w w 0 (alone (placed s at cs)) cs
    putting-init s at =
        let a : alone (placed s at cs) ≡ cs = placed-alone s at cs in
        record { places = omega (arith, ap length a); rest = λ w' h. subst (λ (l : List (Con ℕ)). Writes w w' (collect writeCon (part 0 l))) a h }

    module _ (place : ℕ) (now left : List Seen) (x : Seen) (e : now ≡ x ∷ left) (p : Putting m w₀ w place (alone now) cs) where
      abbrev here : alone now ≡ x.2 ∷ alone left
      here = ap alone e

      next : place + 1 + length (alone left) ≡ length cs
      next = omega (arith, p.places, ap length here)

      -- what it asks of the first, where the rest is asked
      asked : {w' : Writer} → Writes w w' (collect writeCon (part place (x.2 ∷ alone left))) → Writes w w' (collect writeCon (part place (alone now)))
      asked {w'} h = subst (λ (l : List (Con ℕ)). Writes w w' (collect writeCon (part place l))) (sym here) h

      one : suc place ≡ place + 1
      one = omega arith

      pub putting-first : (w₁ : Writer) → get_or m place false ≡ true → wide x.2 ≡ true → Writes w w₁ (writeCon x.2)
          → Putting m w₀ w₁ (place + 1) (alone left) cs
      unfolding collect
      putting-first w₁ s k h = record {
        places = next;
        rest = λ w' q.
            let q' : Writes w₁ w' (collect writeCon (part (suc place) (alone left))) =
            subst (λ (i : ℕ). Writes w₁ w' (collect writeCon (part i (alone left)))) (sym one) q in
            let all : Writes w w' (collect writeCon (x.2 ∷ part (suc place) (alone left))) =
            writes-then (writeCon x.2) (collect writeCon (part (suc place) (alone left))) h q' in
            p.rest w' (asked (subst (λ (l : List (Con ℕ)). Writes w w' (collect writeCon l)) (sym (part-first place x.2 (alone left) s k)) all));
      }

      passed : part place (x.2 ∷ alone left) ≡ part (suc place) (alone left) → Putting m w₀ w (place + 1) (alone left) cs
      passed i = record {
        places = next;
        rest = λ w' q.
            let q' : Writes w w' (collect writeCon (part (suc place) (alone left))) =
            subst (λ (i : ℕ). Writes w w' (collect writeCon (part i (alone left)))) (sym one) q in
            p.rest w' (asked (subst (λ (l : List (Con ℕ)). Writes w w' (collect writeCon l)) (sym i) q'));
      }

      pub putting-narrow : get_or m place false ≡ true → wide x.2 ≡ false → Putting m w₀ w (place + 1) (alone left) cs
      putting-narrow s k = passed (part-narrow place x.2 (alone left) s k)

      pub putting-not : get_or m place false ≡ false → Putting m w₀ w (place + 1) (alone left) cs
      putting-not s = passed (part-not place x.2 (alone left) s)

    pub putting-end : (place : ℕ) (now : List Seen) → now ≡ [] → Putting m w₀ w place (alone now) cs → Writes w₀ w (collect writeCon (part 0 cs))
    unfolding keep collect linesFrom
    putting-end place now e p = p.rest w (rw e (writes-none w))

  -- ══ Placed ══

  module _ (before : List ℕ) (cs : List (Con ℕ)) where
    pub placing-init : (s : List ℕ) (at : ℕ) → Placing m before before 0 0 (alone (placed s at cs)) cs
    placing-init s at =
        let a : alone (placed s at cs) ≡ cs = placed-alone s at cs in
        record {
          places = omega (arith, ap length a);
          written = [];
          rest = ap (λ (l : List (Con ℕ)). map line_place (standing m 0 l)) a;
          few = omega arith;
          counted = refl;
          buffer = sym (over_none before);
          same = refl;
        }

    module _ (buffer : List ℕ) (many place : ℕ) (now left : List Seen) (x : Seen) (e : now ≡ x ∷ left)
        (p : Placing m before buffer many place (alone now) cs) where
      abbrev seen : alone now ≡ x.2 ∷ alone left
      seen = ap alone e

      onward : place + 1 + length (alone left) ≡ length cs
      onward = omega (arith, p.places, ap length seen)

      bump : suc place ≡ place + 1
      bump = omega arith

      pub placing-first : (buffer' : List ℕ) → get_or m place false ≡ true → many < length before → buffer' ≡ set buffer many place
          → Placing m before buffer' (many + 1) (place + 1) (alone left) cs
      placing-first buffer' s room i = record {
        places = onward;
        written = p.written ++ place ∷ [];
        rest =
            append_assoc p.written (place ∷ []) (map line_place (standing m (place + 1) (alone left)))
            ∙ ap (λ (j : ℕ). p.written ++ place ∷ map line_place (standing m j (alone left))) (sym bump)
            ∙ ap (λ (l : List (ℕ × Con ℕ)). p.written ++ map line_place l) (sym (stands-first m place x.2 (alone left) s))
            ∙ ap (λ (l : List (Con ℕ)). p.written ++ map line_place (standing m place l)) (sym seen)
            ∙ p.rest;
        few = omega (arith, p.few, length-append p.written (place ∷ []));
        counted = omega (arith, p.counted, length-append p.written (place ∷ []));
        buffer = i ∙ ap (λ (d : List ℕ). set d many place) p.buffer ∙ over-put p.written before many place (sym p.counted) room;
        same = ap length i ∙ length-set buffer many place ∙ p.same;
      }

      pub placing-not : get_or m place false ≡ false → Placing m before buffer many (place + 1) (alone left) cs
      placing-not s = record {
        places = onward;
        written = p.written;
        rest =
            ap (λ (j : ℕ). p.written ++ map line_place (standing m j (alone left))) (sym bump)
            ∙ ap (λ (l : List (ℕ × Con ℕ)). p.written ++ map line_place l) (sym (stands-not m place x.2 (alone left) s))
            ∙ ap (λ (l : List (Con ℕ)). p.written ++ map line_place (standing m place l)) (sym seen)
            ∙ p.rest;
        few = omega (arith, p.few);
        counted = p.counted;
        buffer = p.buffer;
        same = p.same;
      }

    pub placing-end : (buffer : List ℕ) (many place : ℕ) (now : List Seen) → now ≡ [] → Placing m before buffer many place (alone now) cs
        → Filled (map line_place (standing m 0 cs)) many before buffer
    unfolding keep linesFrom
    placing-end buffer many place now e p =
        let w : p.written ≡ map line_place (standing m 0 cs) =
        sym (append-nil p.written) ∙ ap (λ (l : List Seen). p.written ++ map line_place (standing m place (alone l))) (sym e) ∙ p.rest in
        record { many = p.counted ∙ ap length w; buffer = p.buffer ∙ ap (λ (l : List ℕ). over l before) w }
