-- What follows from the definitions of specs/Typed: the type of a variable once the set was solved and judged, and what each answer of the code makes of it.
use Rattle.std.specs.Prelude as std
use Rattle.std.specs.Prelude.{◌≡◌, refl, is_none, List, [], ◌∷◌, ℕ, ◌*◌, ◌-◌, ◌≤◌, length, Result, Ok, Err, None, Some}
use Rattle.std.proofs.Math.Path.{sym, ap}
use Rattle.std.proofs.Common.{◌∙◌, arith}
use Rattle.std.proofs.Math.Bool.{true, false}
use Rattle.std.proofs.Math.Option.{Option, get_or}
use Rattle.std.proofs.lemmas.List.Edits.{sets}
use Rattle.std.proofs.Math.Seq.{slice}
use Rattle.rules.specs.Base.{got, refused, bounded}
use Rattle.rules.specs.Trees.{var, Ty, opened, Con, Binding, size}
use Rattle.rules.specs.Replacing.{Look, replaceTy, bindings}
use Rattle.rules.specs.Judging.{judge}
use Rattle.rules.specs.Refusals.{number_of, toldBy}
use Rattle.rules.specs.Writing.{words, writeTy}
use Rattle.rules.specs.Lines.{agreed}
use Rattle.rules.specs.declared.Refusal.{Refusal}
use Rattle.rules.specs.declared.Refusal.TheVariants.{NotConfirmed}
use Rattle.laws.proofs.Size.{size-ty}
use Rattle.records.specs.Views.{recOf}
use Rattle.records.specs.Good.{numbers}
use Rattle.records.specs.ByView.{ends-in}
use Rattle.records.proofs.Held.{held-words}
use Rattle.records.specs.declared.Open.TheVariants as opens
use Rattle.records.specs.declared.View.TheVariants as view
use Rattle.replace.specs.Places.{Tabled}
use Rattle.replace.specs.Runs.{LookedUp, found, Found}
use Rattle.replace.proofs.Runs.{not_found}
use Rattle.records_buffers.proofs.Handed.{made-refused, made-records}
use Rattle.records_buffers.specs.Told.{Made}
use Rattle.lines.specs.Typed.{Typed, judgedType}

module _ (places w : List ℕ) (look : Look ℕ) (v : ℕ) (tabled : Tabled places w look) where
  -- what the copy asks
  pub place-known : {r : Found} {b e : ℕ} → LookedUp w (look (var v)) r → r ≡ Some (b, e) → (b ≤ e) × (e * 4 ≤ length w) × (e - b ≤ 2048)
  place-known {r} {b} {e} h i =
      let f = found (look (var v)) h i in
      (omega (arith, f.ends), omega (arith, f.ends, ends-in w f.type b f.held), omega (arith, f.ends, tabled.few (var v) f.type f.is))

  module _ (d d' : List ℕ) where
    pub typed-bound : {r : Found} {b e : ℕ} → LookedUp w (look (var v)) r → r ≡ Some (b, e) → d' ≡ sets d 0 (slice (b * 4) (e * 4) w)
        → Typed look v d d' (e - b)
    typed-bound {r} {b} {e} h i q =
        let f = found (look (var v)) h i in
        let t = f.type in
        record {
          type = t;
          is = ap (λ (o : Option (Ty ℕ)). get_or o (opened (var v))) f.is;
          few = tabled.few (var v) t f.is;
          many = omega (arith, f.ends);
          buffer = q ∙ ap (λ (k : ℕ). sets d 0 (slice (b * 4) (k * 4) w)) f.ends ∙ ap (sets d 0) (held-words w t b f.held);
        }

    pub typed_free : {r : Found} → LookedUp w (look (var v)) r → r ≡ None → d' ≡ sets d 0 (words (recOf (view.Opened (opens.Var v)) 1 ∷ []))
        → Typed look v d d' 1
    unfolding writeTy size
    typed_free {r} h i q = record {
      type = opened (var v);
      is = ap (λ (o : Option (Ty ℕ)). get_or o (opened (var v))) (not_found w (look (var v)) h i);
      few = omega arith;
      many = refl;
      buffer = q;
    }

-- ══ Answers ══

module _ (pool table : List ℕ) where
  -- ══ The judge's verdicts ══

  module _ (cs : List (Con ℕ)) (bs : List (Binding ℕ)) (ns : List ℕ) (v : ℕ) {r : Result (std.Option ℕ) Refusal}
      (h : toldBy is_none r ≡ judge (numbers pool table) bounded bs ns cs) where
    pub judged-no : (w : List ℕ) (k : ℕ) → r ≡ Ok (Some k) → Made (judgedType pool table cs bs ns v) w (Err NotConfirmed)
    unfolding agreed
    judged-no w k i = let e : judge (numbers pool table) bounded bs ns cs ≡ got false = sym h ∙ ap (toldBy is_none) i
        in made-refused NotConfirmed (rw e)

    pub judged-refused : (w : List ℕ) (k : Refusal) → r ≡ Err k → Made (judgedType pool table cs bs ns v) w (Err k)
    unfolding agreed
    judged-refused w k i = let e : judge (numbers pool table) bounded bs ns cs ≡ refused (number_of k) = sym h ∙ ap (toldBy is_none) i
        in made-refused k (rw e)

    pub judged-yes : (w w' : List ℕ) (n : ℕ) → r ≡ Ok None → 16384 ≤ length w → Typed (bindings (numbers pool table) bs) v w w' n
        → Made (judgedType pool table cs bs ns v) w' (Ok n)
    unfolding agreed replaceTy
    judged-yes w w' n i room t =
        let e : judge (numbers pool table) bounded bs ns cs ≡ got true = sym h ∙ ap (toldBy is_none) i in
        let k = size-ty t.type in
        made-records (judgedType pool table cs bs ns v) (writeTy t.type) w w' n (rw (e, t.is)) room t.buffer (omega (arith, t.many))
        (omega (arith, t.few, t.many))
