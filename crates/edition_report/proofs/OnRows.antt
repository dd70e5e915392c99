-- What follows from the definitions of specs/Rows: the rows of a report: a binding, a bound, or a constraint that remains, and the line that tells each.
use Rattle.std.specs.Prelude.{◌≡◌, refl, List, [], ◌∷◌, ◌++◌, map, ℕ, ◌+◌, ◌/◌, ◌≤◌, ◌<◌, length}
use Rattle.std.proofs.Common.{sym, ap, subst, ◌∙◌, arith, add-zero, append_assoc}
use Rattle.rules.specs.Base.{collect, sum_of}
use Rattle.rules.specs.Names.{Bytes}
use Rattle.rules.specs.Reports.{bindingLine, boundLine, remainingLine}
use Rattle.rules.specs.Trees.{var, Ty, Con, equal, isDim, is_scalar, hasField, Binding, ◌≔◌, sizeCon, sizeBinding}
use Rattle.records.proofs.ByView.{con-in, binding-in}
use Rattle.records.specs.Good.{Chain}
use Rattle.records.specs.Holds.{Holds, HoldsBinding, HoldsBounds, HoldsCon}
use Rattle.records.proofs.Holds.{con-long, binding-long}
use Rattle.records.specs.Places.{seen-in}
use Rattle.types.proofs.Binds.{HoldsBinds}
use Rattle.types.specs.Runs.{HoldsEach}
use Rattle.types.specs.Sets.{IsCons, con-some}
use Rattle.types.proofs.OnSets.{HoldsCons}
use Rattle.solve_finish.specs.Told.{IsSolved}
use Rattle.records.specs.Views.{viewAt, longAt}
use Rattle.records.specs.declared.Open as opens
use Rattle.records.specs.declared.View.{View}
use Rattle.records.specs.declared.View.TheVariants as view
use Rattle.edition_report.specs.Rows.{Row, binding, bound, left, rowText, RowHere, RowsAt}

module _ (names : ℕ → Bytes) where
  -- bindings and then bounds; what remains
  pub solved-text : (bs : List (Binding ℕ)) (ns : List ℕ) → collect (rowText names) (map binding bs ++ map bound ns)
      ≡ collect (bindingLine names) bs ++ collect (boundLine names) ns
  unfolding collect
  solved-text [] [] = refl
  solved-text [] (x ∷ ns) = ap (λ (t : Bytes). boundLine names x ++ t) (solved-text [] ns)
  solved-text (b ∷ bs) ns = ap (λ (t : Bytes). bindingLine names b ++ t) (solved-text bs ns)
      ∙ sym (append_assoc (bindingLine names b) (collect (bindingLine names) bs) (collect (boundLine names) ns))

  pub left-text : (cs : List (Con ℕ)) → collect (rowText names) (map left cs) ≡ collect (remainingLine names) cs
  unfolding collect
  left-text [] = refl
  left-text (c ∷ cs) = ap (λ (t : Bytes). remainingLine names c ++ t) (left-text cs)

module _ (s : List ℕ) where
  -- ══ What the record at a place says of its row ══

  pub record Bound (o : opens.Open) (r : Row) : Type 0 where
    pub variable : ℕ
    pub is : r ≡ bound variable
    pub name : opens.TheVariants.Var variable ≡ o

  pub record Bind (at x : ℕ) (r : Row) : Type 0 where
    pub type : Ty ℕ
    pub is : r ≡ binding (x ≔ type)
    pub holds : Holds s type (at + 1)
    pub within : at < length s / 4

  pub record Remains (at : ℕ) (r : Row) : Type 0 where
    pub constraint : Con ℕ
    pub is : r ≡ left constraint
    pub holds : HoldsCon s constraint at

  not-con : (c : Con ℕ) (at : ℕ) (v : View) → HoldsCon s c at → viewAt s at ≡ v → ((x : ℕ) → v ≡ view.Binding x → ⊥) × ((o : opens.Open) → v ≡ view.Bound o → ⊥)
  unfolding HoldsCon
  not-con (equal l r) at v h e =
      (λ x q. let z : view.Equal ≡ view.Binding x = sym h.0 ∙ e ∙ q in cc, λ o q. let z : view.Equal ≡ view.Bound o = sym h.0 ∙ e ∙ q in cc)
  not-con (isDim t) at v h e =
      (λ x q. let z : view.IsDim ≡ view.Binding x = sym h.0 ∙ e ∙ q in cc, λ o q. let z : view.IsDim ≡ view.Bound o = sym h.0 ∙ e ∙ q in cc)
  not-con (is_scalar p) at v h e =
      (λ x q. let z : view.IsScalar ≡ view.Binding x = sym h.0 ∙ e ∙ q in cc, λ o q. let z : view.IsScalar ≡ view.Bound o = sym h.0 ∙ e ∙ q in cc)
  not-con (hasField y l r) at v h e =
      (λ x q. let z : view.HasField y ≡ view.Binding x = sym h.0 ∙ e ∙ q in cc, λ o q. let z : view.HasField y ≡ view.Bound o = sym h.0 ∙ e ∙ q in cc)

  pub as_binding : (at x e : ℕ) → viewAt s at ≡ view.Binding x → (r : Row) → RowHere s at r e → Bind at x r
  unfolding HoldsBinding sizeBinding
  as_binding at x e v (binding (y ≔ t)) h =
      let q : view.Binding y ≡ view.Binding x = sym h.0.0 ∙ v in
      let z : y ≡ x = cc in
      record {
        type = t;
        is = ap (λ (n : ℕ). binding (n ≔ t)) z;
        holds = h.0.1;
        within = let i = binding-in s (y ≔ t) at h.0 in omega (arith, i);
      }
  as_binding at x e v (bound y) h = let q : view.Bound (opens.TheVariants.Var y) ≡ view.Binding x = sym h.0.0 ∙ v in absurd (cc)
  as_binding at x e v (left c) h = absurd ((not-con c at (view.Binding x) h.0 v).0 x refl)

  pub as_bound : (at e : ℕ) (o : opens.Open) → viewAt s at ≡ view.Bound o → (r : Row) → RowHere s at r e → Bound o r
  unfolding HoldsBinding
  as_bound at e o v (binding (y ≔ t)) h = let q : view.Binding y ≡ view.Bound o = sym h.0.0 ∙ v in absurd (cc)
  as_bound at e o v (bound y) h =
      let q : view.Bound (opens.TheVariants.Var y) ≡ view.Bound o = sym h.0.0 ∙ v in
      let z : opens.TheVariants.Var y ≡ o = cc in
      record { variable = y; is = refl; name = z }
  as_bound at e o v (left c) h = absurd ((not-con c at (view.Bound o) h.0 v).1 o refl)

  pub as_left : (at e : ℕ) → ((x : ℕ) → viewAt s at ≡ view.Binding x → ⊥) → ((o : opens.Open) → viewAt s at ≡ view.Bound o → ⊥) → (r : Row)
      → RowHere s at r e → Remains at r
  unfolding HoldsBinding
  as_left at e p q (binding (y ≔ t)) h = absurd (p y h.0.0)
  as_left at e p q (bound y) h = absurd (q (opens.TheVariants.Var y) h.0.0)
  as_left at e p q (left c) h = record { constraint = c; is = refl; holds = h.0 }

  -- ══ Rows one after another ══

  pub row-on : (at e : ℕ) (r : Row) → RowHere s at r e → at < e
  unfolding sizeBinding
  row-on at e (binding (x ≔ t)) h = omega (arith, h.1)
  row-on at e (bound x) h = omega (arith, h.1)
  row-on at e (left c) h = omega (arith, con-some c, h.1)

  row-long : (at e : ℕ) (r : Row) → RowHere s at r e → at + longAt s at ≡ e
  row-long at e (binding b) h = omega (arith, binding-long s b at h.0, h.1)
  row-long at e (bound x) h = omega (arith, h.0.1, h.1)
  row-long at e (left c) h = omega (arith, con-long s c at h.0, h.1)

  pub chain-on : (rs : List Row) (at end : ℕ) → Chain (RowHere s) end rs at → at ≤ end
  chain-on [] at end c = omega (arith, c)
  chain-on (r ∷ rs) at end c = omega (arith, row-on at c.0 r c.1.0, chain-on rs c.0 end c.1.1)

  pub no-rows : (at end : ℕ) → end ≤ at → (rs : List Row) → RowsAt s at end rs → rs ≡ []
  no-rows at end le [] f = refl
  no-rows at end le (r ∷ rs) f = let c = f.chain in absurd (omega (arith, row-on at c.0 r c.1.0, chain-on rs c.0 end c.1.1, le))

  pub record First (at end n : ℕ) (rs : List Row) : Type 0 where
    pub row : Row
    pub rest : List Row
    pub is : rs ≡ row ∷ rest
    pub here : RowHere s at row (at + n)
    pub others : RowsAt s (at + n) end rest
    pub after : at < at + n
    pub within : at + n ≤ end

  pub first : (at end n : ℕ) → at < end → n ≡ longAt s at → (rs : List Row) → RowsAt s at end rs → First at end n rs
  first at end n lt g [] f = absurd (omega (arith, f.chain, lt))
  first at end n lt g (r ∷ rs) f =
      let c = f.chain in
      let p : c.0 ≡ at + n = omega (arith, g, row-long at c.0 r c.1.0) in
      record {
        row = r;
        rest = rs;
        is = refl;
        here = subst (λ (e : ℕ). RowHere s at r e) p c.1.0;
        others = record { chain = subst (λ (e : ℕ). Chain (RowHere s) end rs e) p c.1.1 };
        after = omega (arith, p, row-on at c.0 r c.1.0);
        within = omega (arith, p, chain-on rs c.0 end c.1.1);
      }

  row-in : (at e : ℕ) (r : Row) → RowHere s at r e → e ≤ length s / 4
  row-in at e (binding b) h = omega (arith, binding-in s b at h.0, h.1)
  row-in at e (bound x) h = omega (arith, seen-in s at h.0.0 tt, h.1)
  row-in at e (left c) h = omega (arith, con-in s c at h.0, h.1)

  pub chain-in : (rs : List Row) (at end : ℕ) → at ≤ length s / 4 → Chain (RowHere s) end rs at → end ≤ length s / 4
  chain-in [] at end le c = omega (arith, c)
  chain-in (r ∷ rs) at end le c = chain-in rs c.0 end (row-in at c.0 r c.1.0) c.1.1

  -- ══ Bindings and bounds, and what remains, as rows ══

  bounds-rows : (ns : List ℕ) (at : ℕ) → HoldsBounds s (map (λ n. var n) ns) at → Chain (RowHere s) (at + length ns) (map bound ns) at
  unfolding HoldsBounds
  bounds-rows [] at h = sym (add-zero at)
  bounds-rows (x ∷ ns) at h = let k : at + 1 + length ns ≡ at + length (x ∷ ns) = omega arith in (at + 1, ((h.0, refl), rw k at (bounds-rows ns (at + 1) h.1)))

  -- bindings, and then other rows
  binds-rows : (bs : List (Binding ℕ)) (rs : List Row) (at end : ℕ) → HoldsBinds s bs at
      → Chain (RowHere s) end rs (at + sum_of sizeBinding bs)
      → Chain (RowHere s) end (map binding bs ++ rs) at
  unfolding HoldsEach
  binds-rows [] rs at end h c = let z : at + 0 ≡ at = omega arith in rw z at c
  binds-rows (b ∷ bs) rs at end h c =
      let k : at + (sizeBinding b + sum_of sizeBinding bs) ≡ at + sizeBinding b + sum_of sizeBinding bs = omega arith in
      (at + sizeBinding b, ((h.0, refl), binds-rows bs rs (at + sizeBinding b) end h.1 (rw k at c)))

  pub solved-rows : (b n : ℕ) (bs : List (Binding ℕ)) (ns : List ℕ) → IsSolved s b n bs ns → RowsAt s 0 (b + n) (map binding bs ++ map bound ns)
  solved-rows b n bs ns h =
      let k : b + length ns ≡ b + n = omega (arith, h.bounds.ends) in
      let c = rw k at (bounds-rows ns b h.bounds.held) in
      record { chain = binds-rows bs (map bound ns) 0 (b + n) h.binds.held (subst (λ (i : ℕ). Chain (RowHere s) (b + n) (map bound ns) i) h.binds.ends c) }

  left-chain : (cs : List (Con ℕ)) (at : ℕ) → HoldsCons s cs at → Chain (RowHere s) (at + sum_of sizeCon cs) (map left cs) at
  unfolding HoldsEach
  left-chain [] at h = sym (add-zero at)
  left-chain (c ∷ cs) at h =
      let k : at + sizeCon c + sum_of sizeCon cs ≡ at + (sizeCon c + sum_of sizeCon cs) = omega arith in
      (at + sizeCon c, ((h.0, refl), rw k at (left-chain cs (at + sizeCon c) h.1)))

  pub left-rows : (cs : List (Con ℕ)) (at end : ℕ) → IsCons s at end cs → RowsAt s at end (map left cs)
  left-rows cs at end h = record { chain = rw (sym h.ends) at (left-chain cs at h.held) }
