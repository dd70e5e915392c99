-- What follows from the definitions of specs/Trials: one constraint after another: bindings put in, measured, tested.
use Rattle.std.specs.Prelude.{Some, None, ◌≡◌, Bool, true, false, List, [], ◌∷◌, ℕ, ◌+◌, ◌*◌, ◌/◌, ◌≤◌, ◌<◌, eqb, length, refl, Result, Ok, Err}
use Rattle.std.proofs.Common.{sym, ap, subst, ◌∙◌, add-one, append-nil, arith, eq-eqb, ne_eqb}
use Rattle.std.proofs.Math.Bool.{and-eq-true_iff}
use Rattle.std.proofs.Math.Option as opt
use Rattle.std.proofs.Math.Option.{some, none}
use Rattle.std.proofs.Math.Decide.{dec_le}
use Rattle.std.proofs.Math.Seq.{length-sets}
use Rattle.std.proofs.lemmas.List.Edits.{sets}
use Rattle.rules.specs.Base.{Got, got, refused, bounded, all, collect, sum_of}
use Rattle.rules.specs.Judging.{failed, failing, judgeCon}
use Rattle.rules.specs.Names.{table_of, names_of}
use Rattle.rules.specs.Refusals.{number_of, told}
use Rattle.rules.specs.Replacing.{Look, bindings}
use Rattle.rules.specs.Trees.{Open, Ty, Con, Binding, sizeCon, depthCon, opensCon}
use Rattle.rules.specs.Writing.{words, writeCon}
use Rattle.rules.specs.declared.Refusal.{Refusal}
use Rattle.laws.proofs.KeepsGood as laws
use Rattle.laws.proofs.KnownNames.{con-known}
use Rattle.laws.proofs.Lists.{true≢false, clash}
use Rattle.laws.specs.NameTable.{Good}
use Rattle.laws.proofs.NameTable.{good-laid}
use Rattle.laws.proofs.Size.{size-con}
use Rattle.laws.proofs.Sized.{sized-kept, sized-long, sized-deep}
use Rattle.products.proofs.Held.{law}
use Rattle.records.specs.Cut.{cut}
use Rattle.records.proofs.Cut.{cut-length, short-con}
use Rattle.records.specs.Good.{Ends, GoodCon, goodCon, goodTy, numbers, holding}
use Rattle.records.specs.Holds.{HoldsCon}
use Rattle.records.specs.Parsed.{only-con}
use Rattle.queries.proofs.GoodOpens.{names-small}
use Rattle.queries.specs.declared.name_set.NameSet.{NameSet}
use Rattle.queries.specs.Marks.{Has, Small}
use Rattle.judge_meaning.specs.Truth.{True}
use Rattle.replace.specs.declared.substitution.Substitution.{Substitution}
use Rattle.replace.proofs.Came.{Came}
use Rattle.replace.proofs.Kept.{cons-weaker}
use Rattle.replace.specs.Leaves.{conBy}
use Rattle.replace.specs.Substitutions.{ALook, one-look}
use Rattle.replace.specs.Well.{Lent}
use Rattle.replace.proofs.Written.{written-cons}
use Rattle.types.specs.declared.writer.Writer.{Writer}
use Rattle.types.specs.Sets.{Cons, IsCons, con-some, one-set}
use Rattle.types.specs.Runs.{HoldsEach}
use Rattle.judge_trials.specs.Trials.{tested, ConStands, Put, SetThere, Plain, lookOf, judgedBy}

-- ══ 6 counts as failure ══

pub six : (k : Refusal) → number_of k ≡ 6 → got false ≡ failed (refused (number_of k))
unfolding failed
six k e = rw (eq-eqb (number_of k) 6 e, failed)

pub not-six : (k : Refusal) → (number_of k ≡ 6 → ⊥) → refused (number_of k) ≡ failed (refused (number_of k))
unfolding failed
not-six k e = rw (ne_eqb (number_of k) 6 e, failed)

never : (n : ℕ) → got true ≡ failed (refused n) → ⊥
unfolding failed
never n e = go (eqb n 6) refl
  where
    go : (b : Bool) → eqb n 6 ≡ b → ⊥
    go true i = let z : got true ≡ got false = rw (i, failed) at e in true≢false (let y : true ≡ false = cc in y)
    go false i = clash (let z : got true ≡ refused n = rw (i, failed) at e in sym z)

module _ (pool table : List ℕ) where
  -- ══ Measured and tested ══

  module _ (table-good : Good pool table) (w : List ℕ) (n : ℕ) (d : Con ℕ) (s : ConStands pool table w n d) (xs : List ℕ) where
    pub long : 2048 < n → refused 8 ≡ tested pool table xs d
    unfolding failed
    long h = let k : 2048 < sizeCon d = omega (arith, s.many) in sym (rw (sized-long (sizeCon d) (depthCon d) d k))

    module _ (h : n ≤ 2048) where
      few : sizeCon d ≤ 2048
      few = omega (arith, s.many)

      pub stands : HoldsCon w d 0
      stands = s.held few

      small : Small (opensCon d)
      small = names-small pool table 0 (opensCon d) (con-known (numbers pool table) (holding pool table) 0 d s.good) (good-laid table-good).few

      pub deep : Ends (GoodCon pool table 0 w 0) None → refused 8 ≡ tested pool table xs d
      unfolding failed
      deep e = go (dec_le (depthCon d) 64)
        where
          go : Dec (depthCon d ≤ 64) → refused 8 ≡ tested pool table xs d
          go (yes k) = absurd (e d (sizeCon d) (record { held = stands; past = omega arith; deep = k; good = s.good }))
          go (no k) = let j : 64 < depthCon d = omega arith in sym (rw (sized-deep (sizeCon d) (depthCon d) d j))

      pub flat : {e : ℕ} {r : Bool} {m : NameSet} (b : Con ℕ) → Ends (GoodCon pool table 0 w 0) (Some e) → True b m r → Has m xs → HoldsCon w b 0
          → got r ≡ tested pool table xs d
      unfolding failed
      flat {e} {r} {m} b (c, g) t marks held =
          let told : True d m r = subst (λ (x : Con ℕ). True x m r) (only-con w b d 0 held stands) t in
          let j : depthCon d ≤ 64 = subst (λ (x : Con ℕ). depthCon x ≤ 64) (only-con w c d 0 g.held stands) g.deep in
          sym (rw (sized-kept (sizeCon d) (depthCon d) d few j, told (names_of (table_of pool table)) xs small marks))

-- whichever way it is told what the names become, it is what the bindings say
pub same-look : (pool table places types : List ℕ) (bs : List (Binding ℕ)) {look : Look ℕ} → Put pool table places types bs
    → Lent pool table places types look → look ≡ bindings (numbers pool table) bs
same-look pool table places types bs {look} p l = ap (λ (k : ALook pool table places types). k.0)
    (one-look pool table places types (look, l) (bindings (numbers pool table) bs, p.lent))

-- so what it gives is without quantified variables
pub plain-look : (pool table places types : List ℕ) (bs : List (Binding ℕ)) {look : Look ℕ} → Put pool table places types bs
    → Lent pool table places types look → (o : Open ℕ) (t : Ty ℕ) → look o ≡ some t → goodTy pool table 0 t ≡ true
plain-look pool table places types bs p l o t e = p.good o t (ap (λ (k : Look ℕ). k o) (sym (same-look pool table places types bs p l)) ∙ e)

module _ (by : Substitution) (c : Con ℕ) where
  abbrev pool : List ℕ
  pool = by.names.pool.now

  abbrev table : List ℕ
  table = by.names.table.now

  module _ (good : goodCon pool table 0 c ≡ true) (plain : Plain by) where
    -- what was put in is well formed, and stands in the buffer
    pub written : {w w' : Writer} → w.at ≡ 0 → length w.words.now ≡ 8192 → (k : Came writeCon w w' (conBy by c))
        → ConStands pool table w'.words.now w'.at k.value
    unfolding all collect HoldsEach
    written {w} {w'} front room k =
        let l = cut-length (writeCon k.value) in
        let m = size-con k.value in
        let put : sizeCon k.value ≤ 2048 → w'.words.now ≡ sets w.words.now 0 (words (collect writeCon (k.value ∷ []))) =
        λ le. k.wrote.words (omega (arith, front, l, m, le)) ∙ ap (λ (i : ℕ). sets w.words.now (i * 4) (words (cut (writeCon k.value)))) front
        ∙ ap (λ rs. sets w.words.now 0 (words rs)) (short-con k.value (omega (arith, le)) ∙ sym (append-nil (writeCon k.value))) in
        record {
          many = omega (arith, k.wrote.at, front, l, m);
          held = λ le.
              let g = and-eq-true_iff (goodCon pool table 0 k.value) true in
              (written-cons pool table w.words.now w'.words.now 0 (k.value ∷ []) (put le) (omega (arith, le, room))
              (cons-weaker pool table (k.value ∷ []) (g.1 (made-good, refl)))).held.0;
          near = λ le. omega (arith, ap length (put le) ∙ length-sets w.words.now 0 (words (collect writeCon (k.value ∷ []))), room);
          good = made-good;
        }
      where
        made-good : goodCon pool table 0 k.value ≡ true
        made-good = (laws.con-kept (numbers pool table) (law pool table) (holding pool table) 0 by.lent.0 plain c good).holds k.value k.is

  -- the answer of the test on what was put in; or replacing refused
  module _ (bs : List (Binding ℕ)) (same : by.lent.0 ≡ lookOf by bs) (xs : List ℕ) where
    pub tried : {w w' : Writer} (k : Came writeCon w w' (conBy by c)) (r : Result Bool Refusal) → told r ≡ tested pool table xs k.value
        → told r ≡ judgedBy by bs xs c
    unfolding judgeCon
    tried k r e = e ∙ sym (rw (← same, k.is))

    pub fails : (k : Refusal) (r : Result Bool Refusal) → conBy by c ≡ refused (number_of k) → told r ≡ failed (refused (number_of k))
        → told r ≡ judgedBy by bs xs c
    unfolding judgeCon
    fails k r i e = e ∙ sym (rw (← same, i))

-- ══ One after another ══

module _ (pool table set : List ℕ) where
  -- a set is at most as many constraints as it has records
  set-few : (cs : List (Con ℕ)) → length cs ≤ sum_of sizeCon cs
  set-few [] = omega arith
  set-few (c ∷ cs) = omega (arith, con-some c, set-few cs)

  module _ (bs : List (Binding ℕ)) (xs : List ℕ) (cs : List (Con ℕ)) where
    -- which constraint fails first, where k come before these
    abbrev fails-in : ℕ → List (Con ℕ) → Got (opt.Option ℕ)
    fails-in k ds = failing (numbers pool table) bounded bs xs k ds

    -- what is left after k of them, and that it decides
    pub record Going (k : ℕ) (rest : List (Con ℕ)) : Type 0 where
      pub few : k + length rest ≤ length set / 4
      pub good : all (goodCon pool table 0) rest ≡ true
      pub decides : fails-in 0 cs ≡ fails-in k rest

    pub going_start : {ds : List (Con ℕ)} → SetThere pool table set cs → IsCons set 0 (length set / 4) ds → Going 0 ds
    going_start {ds} t h = subst (λ (x : Cons set 0 (length set / 4)). Going 0 x.0) (one-set set 0 (length set / 4) (cs, t.held) (ds, h))
        (record { few = omega (arith, t.held.ends, set-few cs); good = t.good; decides = refl })

    module _ {k : ℕ} {now : List (Con ℕ)} (g : Going k now) where
      pub going_end : now ≡ [] → got none ≡ fails-in 0 cs
      unfolding failing
      going_end e = sym (g.decides ∙ ap (fails-in k) e)

      module _ (c : Con ℕ) (left : List (Con ℕ)) (e : now ≡ c ∷ left) where
        parts : (goodCon pool table 0 c ≡ true) × (all (goodCon pool table 0) left ≡ true)
        unfolding all
        parts = (and-eq-true_iff (goodCon pool table 0 c) (all (goodCon pool table 0) left)).0
            (subst (λ (ds : List (Con ℕ)). all (goodCon pool table 0) ds ≡ true) e g.good)

        pub first-good : goodCon pool table 0 c ≡ true
        first-good = parts.0

        pub count-few : k + 1 ≤ length set / 4
        count-few = omega (arith, g.few, ap length e)

        turn : fails-in 0 cs ≡ fails-in k (c ∷ left)
        turn = g.decides ∙ ap (fails-in k) e

        module _ {r : Result Bool Refusal} (t : told r ≡ judgeCon (numbers pool table) bounded bs xs c) where
          said : {q : Result Bool Refusal} → r ≡ q → judgeCon (numbers pool table) bounded bs xs c ≡ told q
          said i = sym t ∙ ap told i

          pub going-refused : {why : Refusal} → r ≡ Err why → refused (number_of why) ≡ fails-in 0 cs
          unfolding failing
          going-refused i = sym (turn ∙ rw (said i))

          pub going-no : {b : Bool} → r ≡ Ok b → b ≡ false → got (some k) ≡ fails-in 0 cs
          unfolding failing
          going-no i j = sym (turn ∙ rw (said i, j))

          pub going_on : {b : Bool} → r ≡ Ok b → b ≡ true → Going (k + 1) left
          unfolding failing
          going_on i j = record { few = omega (arith, g.few, ap length e); good = parts.1; decides = turn ∙ rw (said i, j, add-one k) }
