-- The form of an accepted answer: no variable bound twice or left in a type, all well formed, bounds that rise by bytes.
use Rattle.std.specs.Prelude.{◌≡◌, refl, Bool, false, ◌⊎◌, ℕ}
use Rattle.std.proofs.Common.{sym}
use Rattle.std.proofs.Math.Bool.{true}
use Rattle.std.proofs.Math.Option.{some}
use Rattle.std.proofs.Math.Logic.{inl, inr}
use mathlib.Core.List.Memᴰ
use mathlib.Core.List.{List, [], Memᴰ}
use Rattle.rules.specs.Base.{bounded, collect, to_list}
use Rattle.rules.specs.Trees.{
  Open,
  var,
  quant,
  par,
  Names,
  opened,
  basic,
  dim,
  fn,
  struct,
  list,
  Con,
  equal,
  isDim,
  is_scalar,
  hasField,
  Binding,
  opens,
  opensCon,
}
use Rattle.rules.specs.Contents.{contains, unmixed}
use Rattle.rules.specs.Rounds.{State}
use Rattle.rules.specs.Solving.{accepted, boundOf, solve, enough}
use Rattle.rules.specs.WellFormed.{goodOpen, goodTy, goodCon, goodBinding}
use Rattle.laws.proofs.Contents.{not-mixed}
use Rattle.laws.proofs.ByteOrder.{atom-lawful}
use Rattle.laws.proofs.GoodProducts.{atom-tells}
use Rattle.laws.specs.Lists.{All, all_nil, all-is, in_head}
use Rattle.laws.proofs.Lists.{some≢none, collect-from, collect-to, map-to, to-list}
use Rattle.laws.proofs.RuleCases.{contained}
use Rattle.laws.proofs.SortedNames.{sort-from, sort-rising}
use Rattle.theorems_soundness.proofs.Steps.{OpenOk, DimOk, okFor, ConOk}
use Rattle.theorems_soundness.specs.Claims.{Ordered, Given, key, type_of, keys, SolvedForm}
use Rattle.laws.proofs.Turns.{Ended, run-back}
use Rattle.theorems_soundness.proofs.Solved.{Kept, turn-kept}

-- ══ The start of a run ══

module _ {N : Type 0} where
  -- the names of the given set's parameters
  abbrev pub ParameterOf : List (Con N) → N → Type 0
  ParameterOf cs x = Memᴰ (par x) (collect opensCon cs)

module _ {N : Type 0} (ν : Names N) where
  given-ok : (cs : List (Con N)) → unmixed ν (collect opensCon cs) ≡ true → All (ConOk (ParameterOf cs) []) cs
  given-ok cs h c m o i = ok c o (collect-to opensCon cs c o m i)
    where
      open-ok : (o : Open N) → Memᴰ o (collect opensCon cs) → OpenOk (ParameterOf cs) [] o
      open-ok (var x) i = (λ p. not-mixed ν (collect opensCon cs) h x i p, λ j. Memᴰ.not-nil j)
      open-ok (quant n) i = tt
      open-ok (par x) i = i

      dim-ok : (o : Open N) → Memᴰ o (collect opensCon cs) → DimOk (ParameterOf cs) [] o
      dim-ok (var x) i = λ j. Memᴰ.not-nil j
      dim-ok (quant n) i = tt
      dim-ok (par x) i = i

      ok : (c : Con N) (o : Open N) → Memᴰ o (collect opensCon cs) → okFor (ParameterOf cs) [] c o
      ok (equal s t) o i = open-ok o i
      ok (isDim t) o i = dim-ok o i
      ok (is_scalar p) o i = open-ok o i
      ok (hasField n s t) o i = open-ok o i

-- ══ The end of a run ══

module _ {N : Type 0} where
  -- the constraint behind a bound
  pub bound-is : (c : Con N) (y : N) → boundOf c ≡ some y → (c ≡ isDim (opened (var y))) ⊎ (c ≡ isDim (opened (par y)))
  unfolding boundOf
  bound-is (equal s t) y e = absurd (some≢none (sym e))
  bound-is (isDim (opened (var x))) y e = inl (cc)
  bound-is (isDim (opened (quant i))) y e = absurd (some≢none (sym e))
  bound-is (isDim (opened (par x))) y e = inr (cc)
  bound-is (isDim (basic b)) y e = absurd (some≢none (sym e))
  bound-is (isDim (dim p)) y e = absurd (some≢none (sym e))
  bound-is (isDim (fn ps r)) y e = absurd (some≢none (sym e))
  bound-is (isDim (struct n as' fs)) y e = absurd (some≢none (sym e))
  bound-is (isDim (list t)) y e = absurd (some≢none (sym e))
  bound-is (is_scalar p) y e = absurd (some≢none (sym e))
  bound-is (hasField n s t) y e = absurd (some≢none (sym e))

module _ {N : Type 0} (ν : Names N) (held : N → Bool) (ord : Ordered ν held) (cs : List (Con N)) where
  abbrev pub AllKept : State N → Type 0
  AllKept = Kept ν (atom-lawful ν ord.lawful) held 0 (atom-tells ν held 0 ord.tells) (ParameterOf cs)

  pub start-kept : Given ν held cs → AllKept (record { cons = cs; binds = [] })
  start-kept g = record {
    cons-good = all-is (goodCon ν held 0) cs g.well-formed;
    binds-good = all_nil (λ b. goodBinding ν held 0 b ≡ true);
    cons_ok = given-ok ν cs g.apart;
    binds-ok = all_nil (λ b. All (OpenOk (ParameterOf cs) []) (opens (type_of b)));
    keys-ok = all_nil (λ x. ¬ (ParameterOf cs x));
    once = tt;
  }

  -- a bound is an unbound variable or a parameter of the given set
  pub bound-ok : (s : State N) → AllKept s → (y : N) → Memᴰ y (collect (λ c. to_list (boundOf c)) s.cons) → (held y ≡ true) × (¬ (Memᴰ y (keys s.binds)))
  unfolding goodCon goodTy goodOpen opensCon opens
  bound-ok s k y m =
      let o = collect-from (λ c. to_list (boundOf c)) s.cons y m in
      go (bound-is o.one y (to-list (boundOf o.one) y o.from)) (k.cons-good o.one o.within) (k.cons_ok o.one o.within)
    where
      go : {c : Con N} → (c ≡ isDim (opened (var y))) ⊎ (c ≡ isDim (opened (par y))) → goodCon ν held 0 c ≡ true
          → ConOk (ParameterOf cs) (keys s.binds) c → (held y ≡ true) × (¬ (Memᴰ y (keys s.binds)))
      go (inl i) g h = let h' : ConOk (ParameterOf cs) (keys s.binds) (isDim (opened (var y))) = rw i at h in (rw i at g, h' (var y) in_head)
      go (inr i) g h = let h' : ConOk (ParameterOf cs) (keys s.binds) (isDim (opened (par y))) = rw i at h
          in (rw i at g, λ n. k.keys-ok y n (h' (par y) in_head))

  ended-form : (bs : List (Binding N)) (ns : List N) (s : State N) → AllKept s → Ended ν bs ns s → SolvedForm ν held bs ns
  ended-form bs ns s k e = record {
    once = rw e.binds k.once;
    apart = rw e.binds (λ b c m n. apart b c m n);
    bindings-good = rw e.binds k.binds-good;
    bounds-held = rw e.bounds (λ y m. (bound-ok s k y (sort-from ν (collect (λ c. to_list (boundOf c)) s.cons) y m)).0);
    bounds-rise = rw e.bounds (sort-rising ν ord.lawful (collect (λ c. to_list (boundOf c)) s.cons));
    bounds-free = rw (e.binds, e.bounds) (λ y m. (bound-ok s k y (sort-from ν (collect (λ c. to_list (boundOf c)) s.cons) y m)).1);
  }
    where
      apart : (b c : Binding N) → Memᴰ b s.binds → Memᴰ c s.binds → contains ν (key b) (type_of c) ≡ false
      apart b c m n = go (contains ν (key b) (type_of c)) refl
        where
          go : (r : Bool) → contains ν (key b) (type_of c) ≡ r → contains ν (key b) (type_of c) ≡ false
          go false i = i
          go true i = absurd ((k.binds-ok c n (var (key b)) (contained ν (key b) (type_of c) i)).1 (map-to key s.binds b m))

  -- the state in which a run ended
  pub record Final (bs : List (Binding N)) (ns : List N) : Type 0 where
    pub state : State N
    pub kept : AllKept state
    pub ended : Ended ν bs ns state

  pub final : Given ν held cs → (bs : List (Binding N)) (ns : List N) (k : ℕ) → solve ν bounded cs ≡ accepted bs ns k → Final bs ns
  unfolding solve
  final g bs ns k e =
      run-back ν bounded bs ns k (λ s. AllKept s → Final bs ns) (λ s d h. record { state = s; kept = h; ended = d })
      (λ s s' t r h. r (turn-kept ν _ held 0 _ (ParameterOf cs) s s' h t))
      enough 0 (record { cons = cs; binds = [] }) e (start-kept g)

  pub solved-form : Given ν held cs → (bs : List (Binding N)) (ns : List N) (k : ℕ) → solve ν bounded cs ≡ accepted bs ns k → SolvedForm ν held bs ns
  solved-form g bs ns k e = let f = final g bs ns k e in ended-form bs ns f.state f.kept f.ended
