-- What the judge is handed is what the lines of a certificate say.
use Rattle.std.specs.Prelude.{◌≡◌, refl, true, false, List, [], ◌∷◌, ◌++◌, ℕ, ◌+◌}
use Rattle.std.proofs.Common.{sym, ap, subst, ◌∙◌, arith}
use Rattle.std.proofs.Math.Option.{Option, none, some}
use Rattle.rules.specs.Base.{Got, got, each}
use Rattle.rules.specs.Calls.{Entry, numbersGiven, type_at, bindingOf}
use Rattle.rules.specs.Names.{table_of}
use Rattle.rules.specs.Trees.{var, quant, par, Ty, opened, basic, dim, fn, struct, list, Con, equal, isDim, is_scalar, hasField, Binding, ◌≔◌, size, sizeCon}
use Rattle.rules.specs.Views.{asVar}
use Rattle.laws.proofs.Checks.{next-passed}
use Rattle.laws.proofs.Lists.{some≢none, bound-step, each-parts}
use Rattle.records.specs.Found.{Words32}
use Rattle.records.specs.Holds.{Holds, HoldsCon}
use Rattle.records.specs.Parsed.{only}
use Rattle.records.specs.Views.{recs}
use Rattle.judge_entries.proofs.Given.{type-is}
use Rattle.judge_pairs.specs.Pairs.{entriesIn}
use Rattle.types.proofs.OnSets.{HoldsCons}
use Rattle.types.specs.Runs.{HoldsEach}
use Rattle.edition_certificates.specs.Certificates.{lineOf, saying, pairOf, pairsOf, boundTo, bindingsIn}

-- a type that is a variable
is-var : (t : Ty ℕ) (x : ℕ) → asVar t ≡ some x → t ≡ opened (var x)
is-var (opened (var y)) x e = ap (λ (z : ℕ). opened (var z)) (cc)
is-var (opened (quant i)) x e = absurd (some≢none (sym e))
is-var (opened (par y)) x e = absurd (some≢none (sym e))
is-var (basic b) x e = absurd (some≢none (sym e))
is-var (dim p) x e = absurd (some≢none (sym e))
is-var (fn ps r) x e = absurd (some≢none (sym e))
is-var (struct n as' fs) x e = absurd (some≢none (sym e))
is-var (list t) x e = absurd (some≢none (sym e))

of-one-record : (t : Ty ℕ) (x : ℕ) → t ≡ opened (var x) → size t ≡ 1
unfolding size
of-one-record t x e = rw e refl

module _ (pool table s : List ℕ) (w : Words32 s) where
  abbrev bound : Entry → Got (Binding ℕ)
  bound = bindingOf (table_of pool table) (recs s)

  -- an entry whose type stands at its place
  one-is : (x at : ℕ) (r : Ty ℕ) (b : Binding ℕ) → Holds s r at → bound (record { variable = x; place = at }) ≡ got b → b ≡ (x ≔ r)
  unfolding bindingOf
  one-is x at r b h e =
      let f = next-passed _ b (numbersGiven (table_of pool table) (x ∷ [])) e in
      let (ty, g, q) = bound-step (type_at (table_of pool table) (recs s) at) (λ t. got (x ≔ t)) b f in
      let (end, k) = type-is pool table s w at ty g in
      let i : ty ≡ r = only s ty r at k.held h in
      let j : (x ≔ ty) ≡ b = cc in
      sym j ∙ ap (λ (t : Ty ℕ). x ≔ t) i

  pub bindings-are : (ds : List (Con ℕ)) (at : ℕ) (bs : List (Binding ℕ)) → HoldsCons s ds at
      → each bound (entriesIn (pairsOf at ds)) ≡ got bs
      → bs ≡ bindingsIn ds
  unfolding each pairsOf entriesIn bindingsIn HoldsEach HoldsCon lineOf
  bindings-are [] at bs h e = let q : [] ≡ bs = cc in sym q
  bindings-are (equal l r ∷ ds) at bs h e = go (asVar l) refl (λ cs f. bindings-are ds (at + sizeCon (equal l r)) cs h.1 f) e
    where
      go : (o : Option ℕ) → asVar l ≡ o
          → ((cs : List (Binding ℕ)) → each bound (entriesIn (pairsOf (at + sizeCon (equal l r)) ds)) ≡ got cs → cs ≡ bindingsIn ds)
          → each bound (entriesIn (pairOf at (saying true o) ++ pairsOf (at + sizeCon (equal l r)) ds)) ≡ got bs → bs ≡ boundTo r o ++ bindingsIn ds
      go none i f e = f bs e
      go (some x) i f e =
          let p = each-parts bound (record { variable = x; place = at + 2 }) (entriesIn (pairsOf (at + sizeCon (equal l r)) ds)) bs e in
          let n : size l ≡ 1 = of-one-record l x (is-var l x i) in
          let place : at + 1 + size l ≡ at + 2 = omega (arith, n) in
          let held : Holds s r (at + 2) = subst (λ (k : ℕ). Holds s r k) place h.0.2 in
          sym p.both ∙ rw (one-is x (at + 2) r p.first held p.gave, f p.second p.then) refl
  bindings-are (isDim t ∷ ds) at bs h e = go (asVar t) (bindings-are ds (at + sizeCon (isDim t)) bs h.1) e
    where
      go : (o : Option ℕ) → (each bound (entriesIn (pairsOf (at + sizeCon (isDim t)) ds)) ≡ got bs → bs ≡ bindingsIn ds)
          → each bound (entriesIn (pairOf at (saying false o) ++ pairsOf (at + sizeCon (isDim t)) ds)) ≡ got bs → bs ≡ bindingsIn ds
      go none f e = f e
      go (some x) f e = f e
  bindings-are (is_scalar p ∷ ds) at bs h e = bindings-are ds (at + sizeCon (is_scalar p)) bs h.1 e
  bindings-are (hasField x l r ∷ ds) at bs h e = bindings-are ds (at + sizeCon (hasField x l r)) bs h.1 e
