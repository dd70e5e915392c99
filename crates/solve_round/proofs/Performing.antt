-- What a step wrote, by the answer of the code that tried the rules.
use Rattle.std.proofs.Math.Path.{◌≡◌, refl}
use Rattle.std.proofs.Common.{sym, ap, ap₂, subst, ◌∙◌, append-nil, inl, inr}
use Rattle.std.proofs.lemmas.List.Edits.{sets}
use Rattle.std.specs.Prelude.{true, List, [], ◌∷◌, ◌++◌, ℕ, suc, ◌+◌, ◌≤◌, length, Result, Ok, Err}
use native.Mathlib.Omega.{arith}
use Rattle.std.proofs.Math.Seq.{length-sets}
use Rattle.rules.specs.Base.{Got, got, refused, bounded, all, collect, sum_of}
use Rattle.rules.specs.Refusals.{number_of}
use Rattle.rules.specs.Rounds.{State, Step, bind, split, done, stuck, trySatisfy}
use Rattle.rules.specs.Trees.{Names, Ty, dim, Con, Binding, ◌≔◌, size, sizeCon, sizeBinding, depth, depthCon}
use Rattle.rules.specs.WellFormed.{goodBinding}
use Rattle.rules.specs.Writing.{words, writeCon, writeBinding}
use Rattle.rules.specs.declared.Refusal.{Refusal}
use Rattle.laws.proofs.KeepsGood.{rule-good}
use Rattle.laws.proofs.Lists.{and_both, is_all, each-length}
use Rattle.laws.proofs.Nesting.{most, rule-within}
use Rattle.laws.proofs.RuleCases.{
  Sides,
  Rule,
  none-applies,
  equal-records,
  binds,
  two-functions,
  two-lists,
  two-structs,
  as-product,
  two-dimensions,
  dimension,
  no-factor,
  first-factor,
  closed-struct,
  rule,
}
use Rattle.names.specs.declared.tables.NameTable.{NameTable}
use Rattle.products.proofs.Held.{law}
use Rattle.records.proofs.ByView.{size-pos}
use Rattle.records.specs.Good as records
use Rattle.records.specs.Good.{numbers, holding}
use Rattle.replace.proofs.Kept.{cons-weaker, binds-weaker}
use Rattle.replace.proofs.Written.{written-cons, written-binds}
use Rattle.solve_step.specs.Stepped.{Stepped}
use Rattle.solve_step.specs.declared.Step as code
use Rattle.solve_step.specs.declared.Step.TheVariants.{Bind, Split, Done, Stuck}
use Rattle.types.specs.declared.writer.Writer.{Writer}
use Rattle.types.specs.Binds.{Binds, IsBinds, one-binds}
use Rattle.types.specs.Sets.{Cons, IsCons, one-set}
use Rattle.types.specs.Runs.{HoldsEach}
use Rattle.solve_round.specs.declared.Others.{Others}
use Rattle.solve_round.specs.declared.After.{After}
use Rattle.solve_round.specs.declared.Place.{Place}
use Rattle.solve_round.specs.Parts.{appends, First, Next, Taken}
use Rattle.solve_round.specs.Standing.{Standing, StandsAs, stateOf, Rounds, rounded}
use Rattle.solve_round.specs.States.{Idle, SoundSet, SoundBinds, Turn}
use Rattle.solve_round.proofs.Limits.{sound-parts}
use Rattle.solve_round.proofs.Written.{rounded-as}

-- ══ A binding takes no more room than the constraint it comes from ══

bind-fits : (ν : Names ℕ) (c : Con ℕ) (s : Step ℕ) (x : ℕ) (t : Ty ℕ) → Rule ν bounded c s → s ≡ bind x t → sizeBinding (x ≔ t) ≤ sizeCon c
unfolding sizeCon sizeBinding size
bind-fits ν c s x t (none-applies e) i = absurd (cc)
bind-fits ν c s x t (equal-records u j e) i = absurd (cc)
bind-fits ν c s x t (binds y side u j r n e) i = let z : u ≡ t = cc in go j (ap size z)
  where
    go : Sides c side u → size u ≡ size t → suc (size t) ≤ sizeCon c
    go (inl k) q = rw k (omega (arith, size-pos side))
    go (inr k) q = rw k (omega (arith, size-pos side))
bind-fits ν c s x t (two-functions ps qs r r' n j e) i = absurd (cc)
bind-fits ν c s x t (two-lists u v j e) i = absurd (cc)
bind-fits ν c s x t (two-structs n as' bs fs gs k j e) i = absurd (cc)
bind-fits ν c s x t (as-product y d j m e) i = absurd (cc)
bind-fits ν c s x t (two-dimensions d e r k j f) i = absurd (cc)
bind-fits ν c s x t (dimension p j e) i = absurd (cc)
bind-fits ν c s x t (no-factor j e) i = absurd (cc)
bind-fits ν c s x t (first-factor y k p r n j e) i = let z : dim r ≡ t = cc in rw j (omega (arith, ap size z, each-length _ p r n))
bind-fits ν c s x t (closed-struct n m as' fs u v o f j e) i = absurd (cc)

-- ══ By the answer ══

module _ (pool table : List ℕ) (d : List ℕ) (o : Others) (r : code.Step) (c : Con ℕ) (k : Taken pool table d o r c) where
  abbrev tried : Got (Step ℕ)
  tried = trySatisfy (numbers pool table) bounded c

  pub record TookBind (q : ℕ) : Type 0 where
    pub name : ℕ
    pub type : Ty ℕ
    pub is : trySatisfy (numbers pool table) bounded c ≡ got (bind name type)
    pub there : IsBinds d 0 q (name ≔ type ∷ [])
    pub good : records.goodBinding pool table 0 (name ≔ type) ≡ true
    pub deep : depth type ≤ 64
    pub fits : q ≤ 2048

  pub record TookSplit (q : ℕ) : Type 0 where
    pub cons : List (Con ℕ)
    pub is : trySatisfy (numbers pool table) bounded c ≡ got (split cons)
    pub first : First d q cons
    pub sound : SoundSet pool table cons

  -- what the answer says of the outcome
  answered : {s : code.Step} → r ≡ s → Stepped k.was d 0 (Ok s) tried
  answered i = subst (λ (x : code.Step). Stepped k.was d 0 (Ok x) tried) i k.stepped

  pub took-bind : {q : ℕ} → 8192 ≤ length d → r ≡ Bind q → TookBind q
  unfolding all collect goodBinding
  took-bind {q} room i = go tried refl (answered i)
    where
      go : (R : Got (Step ℕ)) → tried ≡ R → Stepped k.was d 0 (Ok (Bind q)) R → TookBind q
      go (got (bind x t)) j s =
          let f = s.says.0 in
          let z : q ≡ 0 + sizeBinding (x ≔ t) = cc in
          let v = rule (numbers pool table) bounded c (bind x t) j in
          let g = rule-good (numbers pool table) (law pool table) (holding pool table) 0 c (bind x t) v k.good in
          let fits : sizeBinding (x ≔ t) ≤ 2048 = omega (arith, bind-fits (numbers pool table) c (bind x t) x t v refl, k.short) in
          let good : records.goodBinding pool table 0 (x ≔ t) ≡ true = and_both g.name g.type in
          let n : length d ≡ length k.was = ap length s.says.1 ∙ length-sets k.was 0 (words (writeBinding (x ≔ t))) in
          let e : q ≡ 0 + sum_of sizeBinding (x ≔ t ∷ []) = omega (arith, z) in
          let a : d ≡ _ = s.says.1 ∙ ap (λ rs. sets k.was 0 (words rs)) (sym (append-nil (writeBinding (x ≔ t)))) in
          record {
            name = x;
            type = t;
            is = j;
            there = rw e (written-binds pool table k.was d 0 (x ≔ t ∷ []) a (omega (arith, n, fits, room))
                (binds-weaker pool table (x ≔ t ∷ []) (and_both good refl)));
            good = good;
            deep = omega (arith, rule-within (numbers pool table) bounded c (bind x t) v, k.deep);
            fits = omega (arith, z, fits);
          }
      go (got (split cs)) j s = absurd (let f = s.says.0 in cc)
      go (got done) j s = absurd (let f = s.says.0 in cc)
      go (got stuck) j s = absurd (let f = s.says.0 in cc)
      go (refused l) j s = absurd s.says

  pub took-split : {q : ℕ} → 8192 ≤ length d → r ≡ Split q → TookSplit q
  took-split {q} room i = go tried refl (answered i)
    where
      go : (R : Got (Step ℕ)) → tried ≡ R → Stepped k.was d 0 (Ok (Split q)) R → TookSplit q
      go (got (bind x t)) j s = absurd (let f = s.says.0 in cc)
      go (got (split cs)) j s =
          let f = s.says.0 in
          let z : q ≡ 0 + sum_of sizeCon cs = cc in
          let v = rule (numbers pool table) bounded c (split cs) j in
          let g = is_all (records.goodCon pool table 0) cs (rule-good (numbers pool table) (law pool table) (holding pool table) 0 c (split cs) v k.good) in
          let n : length d ≡ length k.was = ap length s.says.1 ∙ length-sets k.was 0 (words (collect writeCon cs)) in
          record {
            cons = cs;
            is = j;
            first = record {
              many = omega (arith, z);
              there = λ few. rw z (written-cons pool table k.was d 0 cs s.says.1 (omega (arith, n, z, few, room)) (cons-weaker pool table cs g));
            };
            sound = record { good = g; flat = omega (arith, most depthCon cs (depthCon c) (rule-within (numbers pool table) bounded c (split cs) v), k.deep) };
          }
      go (got done) j s = absurd (let f = s.says.0 in cc)
      go (got stuck) j s = absurd (let f = s.says.0 in cc)
      go (refused l) j s = absurd s.says

-- whether the constraint is done with, and whether no rule applies
pub done-is : {was d : List ℕ} {out : ℕ} {r : code.Step} {R : Got (Step ℕ)} → Stepped was d out (Ok r) R → r ≡ Done → R ≡ got done
done-is {was} {d} {out} {r} {R} s i = go R (subst (λ (x : code.Step). Stepped was d out (Ok x) R) i s)
  where
    go : (R : Got (Step ℕ)) → Stepped was d out (Ok Done) R → R ≡ got done
    go (got (bind x t)) s = absurd (let f = s.says.0 in cc)
    go (got (split cs)) s = absurd (let f = s.says.0 in cc)
    go (got done) s = refl
    go (got stuck) s = absurd (let f = s.says.0 in cc)
    go (refused l) s = absurd s.says

pub stuck-is : {was d : List ℕ} {out : ℕ} {r : code.Step} {R : Got (Step ℕ)} → Stepped was d out (Ok r) R → r ≡ Stuck → R ≡ got stuck
stuck-is {was} {d} {out} {r} {R} s i = go R (subst (λ (x : code.Step). Stepped was d out (Ok x) R) i s)
  where
    go : (R : Got (Step ℕ)) → Stepped was d out (Ok Stuck) R → R ≡ got stuck
    go (got (bind x t)) s = absurd (let f = s.says.0 in cc)
    go (got (split cs)) s = absurd (let f = s.says.0 in cc)
    go (got done) s = absurd (let f = s.says.0 in cc)
    go (got stuck) s = refl
    go (refused l) s = absurd s.says

pub some-rule : {was d : List ℕ} {out : ℕ} {r : code.Step} {R : Got (Step ℕ)} → Stepped was d out (Ok r) R → (r ≡ Stuck → ⊥) → R ≡ got stuck → ⊥
some-rule {was} {d} {out} {r} {R} s other e = other (let f = (subst (Stepped was d out (Ok r)) e s).says.0 in cc)

pub nothing-there : (s : List ℕ) (at : ℕ) → IsCons s at at []
unfolding HoldsEach
nothing-there s at = record { held = tt; ends = omega arith }

pub none-first : (s : List ℕ) → First s 0 []
none-first s = record { many = refl; there = λ few. nothing-there s 0 }

-- a refusal is the rule's
pub took-refused : {was d : List ℕ} {out : ℕ} {why : Refusal} {R : Got (Step ℕ)} → Stepped was d out (Err why) R → R ≡ refused (number_of why)
took-refused {was} {d} {out} {why} {R} = go R
  where
    go : (R : Got (Step ℕ)) → Stepped was d out (Err why) R → R ≡ refused (number_of why)
    go (got (bind x t)) s = absurd (let f = s.says.0 in cc)
    go (got (split cs)) s = absurd (let f = s.says.0 in cc)
    go (got done) s = absurd (let f = s.says.0 in cc)
    go (got stuck) s = absurd (let f = s.says.0 in cc)
    go (refused j) s = ap refused (sym s.says)

-- whichever constraints or bindings stand there, they are these
pub set-same : (s : List ℕ) (at end : ℕ) (cs : List (Con ℕ)) → IsCons s at end cs → (ds : List (Con ℕ)) → IsCons s at end ds → ds ≡ cs
set-same s at end cs h ds k = ap (λ (z : Cons s at end). z.0) (one-set s at end (ds, k) (cs, h))

pub binds-same : (s : List ℕ) (at end : ℕ) (bs : List (Binding ℕ)) → IsBinds s at end bs → (ds : List (Binding ℕ)) → IsBinds s at end ds → ds ≡ bs
binds-same s at end bs h ds k = ap (λ (z : Binds s at end). z.0) (one-binds s at end (ds, k) (bs, h))

-- what is known of new constraints that stand there is known of these
pub appends-same : {pool table : List ℕ} {w w' : Writer} {r : Turn} (o : Others) {s : List ℕ} {end : ℕ} {cs ds : List (Con ℕ)} → IsCons s 0 end cs
    → SoundSet pool table cs → (SoundSet pool table ds → Next pool table w w' r (appends o ds)) → IsCons s 0 end ds
    → Next pool table w w' r (appends o cs)
appends-same {pool} {table} {w} {w'} {r} o {s} {end} {cs} {ds} h n f k =
    let e = set-same s 0 end cs h ds k in
    subst (λ (xs : List (Con ℕ)). Next pool table w w' r (appends o xs)) e (f (subst (SoundSet pool table) (sym e) n))

-- so the state that stands at a place is that of the three parts that stand there
pub stands-as : (n : NameTable) (s : List ℕ) (p : Place) (st : State ℕ) → Standing n s p st → (o : Others)
    → o.before.words.now ≡ s → o.before.at ≡ p.start → o.before.end ≡ p.stuck
    → o.behind.words.now ≡ s → o.behind.at ≡ p.stuck → o.behind.end ≡ p.ends.constraints
    → o.bindings.words.now ≡ s → o.bindings.at ≡ p.ends.constraints → o.bindings.end ≡ p.ends.bindings → StandsAs n s o st
stands-as n s p st h o w₁ a₁ e₁ w₂ a₂ e₂ w₃ a₃ e₃ =
    let pool = n.pool.now in
    let table = n.table.now in
    let before : o.before.trees.0 ≡ h.front.passed = set-same s p.start p.stuck h.front.passed h.front.there o.before.trees.0
    (rw (w₁, a₁, e₁) at o.before.trees.1) in
    let behind : o.behind.trees.0 ≡ h.front.left = set-same s p.stuck p.ends.constraints h.front.left h.front.stay o.behind.trees.0
    (rw (w₂, a₂, e₂) at o.behind.trees.1) in
    let bindings : o.bindings.trees.0 ≡ st.binds = binds-same s p.ends.constraints p.ends.bindings st.binds h.held.binds o.bindings.trees.0
    (rw (w₃, a₃, e₃) at o.bindings.trees.1) in
    let parts = sound-parts pool table h.front.passed h.front.left (subst (SoundSet pool table) h.front.are h.held.sound_cons) in
    record {
      sound = record {
        sound = record {
          before = subst (SoundSet pool table) (sym before) parts.0;
          behind = subst (SoundSet pool table) (sym behind) parts.1;
          bindings = subst (SoundBinds pool table) (sym bindings) h.held.sound_binds;
        };
        idle = subst (Idle pool table) (sym before) h.front.idle;
        short = omega (arith, e₃, h.held.short);
        same = w₁ ∙ sym w₂;
        joined = e₁ ∙ sym a₂;
        same_bindings = w₃ ∙ sym w₂;
        joined_bindings = a₃ ∙ sym e₂;
      };
      words = w₂;
      is = ap₂ (λ (cs : List (Con ℕ)) (bs : List (Binding ℕ)). record { cons = cs; binds = bs }) (ap₂ ◌++◌ before behind ∙ sym h.front.are) bindings;
    }

-- and what a round makes of the parts it makes of the state; the buffer is told by what it came to
pub rounded-over : (n : NameTable) (o : Others) {s : List ℕ} {st : State ℕ} → StandsAs n s o st → {w w' : List ℕ} {r : Result After Refusal}
    → Rounds n o.behind.words.now w r (rounded n (stateOf o)) → w' ≡ w → Rounds n s w' r (rounded n st)
rounded-over n o {s} {st} h {w} {w'} {r} t e =
    subst (λ (v : List ℕ). Rounds n s v r (rounded n st)) (sym e)
    (subst (λ (v : List ℕ). Rounds n v w r (rounded n st)) h.words
    (rounded-as (sym (ap (rounded n) h.is)) t))
