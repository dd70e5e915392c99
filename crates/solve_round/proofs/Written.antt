-- A state that was written stands there.
use Rattle.std.specs.Prelude.{◌≡◌, refl, true, List, ◌++◌, ℕ, ◌+◌, ◌*◌, ◌≤◌, ◌<◌, min, length, Result, Ok, Err, Some}
use Rattle.std.proofs.Common.{arith, ap, sym, subst, ◌∙◌, length-append}
use Rattle.std.proofs.Math.Option.{Option, none, some}
use Rattle.std.proofs.lemmas.List.Edits.{sets}
use Rattle.std.proofs.Math.Seq.{length-sets}
use Rattle.rules.specs.Base.{Got, got, refused, all, collect, sum_of}
use Rattle.rules.specs.Rounds.{State, sizeState, depthState}
use Rattle.rules.specs.Trees.{Con, sizeCon, sizeBinding}
use Rattle.rules.specs.Writing.{Rec, words, writeCon, writeBinding}
use Rattle.std.proofs.Math.Decide.{dec_le}
use Rattle.rules.specs.Refusals.{number_of}
use Rattle.rules.specs.declared.Refusal.{Refusal}
use Rattle.rules.specs.declared.Refusal.TheVariants.{TooLarge}
use Rattle.laws.proofs.Lists.{clash}
use Rattle.laws.proofs.Contents.{collect-append}
use Rattle.laws.proofs.Size.{set-length, bindings-length}
use Rattle.records.specs.Good.{goodBinding, goodCon}
use Rattle.replace.proofs.Kept.{cons-weaker, binds-weaker}
use Rattle.replace.proofs.Written.{Both, written-both}
use Rattle.types.specs.declared.writer.Writer.{Writer}
use Rattle.types.specs.Binds.{IsBinds}
use Rattle.types.specs.Sets.{IsCons}
use Rattle.types.specs.Written.{last, Writes}
use Rattle.types.proofs.Written.{writes-then}
use Rattle.solve_round.specs.declared.After.{After}
use Rattle.solve_round.specs.declared.Ends.{Ends}
use Rattle.solve_round.specs.declared.Others.{Others}
use Rattle.solve_round.specs.declared.Place.{Place}
use Rattle.solve_round.specs.States.{Front, StateHeld, Rounded, RoundLeft, Stands, TurnLeft, SoundSet, Turn, Turned, written}
use Rattle.solve_round.specs.Parts.{appends, keeps, Limited, others, SoundOthers, Made, Next}
use Rattle.solve_round.proofs.Limits.{kept, long, deep, size-is, depth-is, sound-both, sum_both}

-- a turn after the same outcome
pub turned-as : {pool table w : List ℕ} {r : Turn} {R S : Got (Option (State ℕ))} → R ≡ S → Turned pool table w r S → Turned pool table w r R
turned-as {pool} {table} {w} {r} e t = subst (Turned pool table w r) (sym e) t

abbrev pub stateRecs : State ℕ → List Rec
stateRecs st = collect writeCon st.cons ++ collect writeBinding st.binds

pub state-long : (st : State ℕ) → length (stateRecs st) ≡ sizeState st
state-long st = omega (
  arith,
  length-append (collect writeCon st.cons) (collect writeBinding st.binds),
  set-length st.cons,
  bindings-length st.binds,
  size-is st,
)

module _ (pool table : List ℕ) (st : State ℕ) {w w₁ w₂ : Writer} (front : w.at ≡ 0) (room : 8192 ≤ length w.words.now) where
  -- constraints were written, and then bindings
  module _ (p : Writes w w₁ (collect writeCon st.cons)) (q : Writes w₁ w₂ (collect writeBinding st.binds)) where
    pub all-written : Writes w w₂ (stateRecs st)
    all-written = writes-then (collect writeCon st.cons) (collect writeBinding st.binds) p q

    pub many : min w₂.at last ≡ min (sizeState st) last
    many = omega (arith, all-written.at, front, state-long st)

    module _ (good : all (goodCon pool table 0) st.cons ≡ true) (sound : all (goodBinding pool table 0) st.binds ≡ true) (few : w₂.at ≤ 2048) where
      first-long : w₁.at ≡ sum_of sizeCon st.cons
      first-long = omega (arith, p.at, front, set-length st.cons, many, few, size-is st)

      both-there : Both w₂.words.now st.cons st.binds
      both-there =
          let n = state-long st in
          let e : w₂.words.now ≡ sets w.words.now 0 (words (stateRecs st)) =
          all-written.words (omega (arith, front, n, many, few)) ∙ ap (λ (i : ℕ). sets w.words.now (i * 4) (words (stateRecs st))) front in
          written-both pool table w.words.now w₂.words.now st.cons st.binds e (omega (arith, many, few, size-is st, room))
          (cons-weaker pool table st.cons good) (binds-weaker pool table st.binds sound)

      pub long-same : length w₂.words.now ≡ length w.words.now
      long-same =
          let n = state-long st in
          ap length (all-written.words (omega (arith, front, n, many, few))) ∙ length-sets w.words.now (w.at * 4) (words (stateRecs st))

      pub cons-there : IsCons w₂.words.now 0 w₁.at st.cons
      cons-there = rw first-long both-there.cons

      pub binds-there : IsBinds w₂.words.now w₁.at w₂.at st.binds
      binds-there =
          let e : w₂.at ≡ sum_of sizeCon st.cons + sum_of sizeBinding st.binds = omega (arith, many, few, size-is st) in
          rw (first-long, e) both-there.binds

-- ══ New constraints behind the others ══

module _ (pool table : List ℕ) (o : Others) (new : List (Con ℕ)) (s : SoundOthers pool table o) (n : SoundSet pool table new) {w w₁ w₂ w₃ w₄ : Writer}
    (front : w.at ≡ 0) (room : 8192 ≤ length w.words.now) (p : Writes w w₁ (collect writeCon o.before.trees.0))
    (q : Writes w₁ w₂ (collect writeCon o.behind.trees.0))
    (r : Writes w₂ w₃ (collect writeCon new)) (t : Writes w₃ w₄ (collect writeBinding o.bindings.trees.0)) where
  abbrev appended : State ℕ
  appended = record { cons = others o ++ new; binds = o.bindings.trees.0 }

  cons-written : Writes w w₃ (collect writeCon (others o ++ new))
  cons-written =
      let a = collect writeCon o.before.trees.0 in
      let b = collect writeCon o.behind.trees.0 in
      let e : (a ++ b) ++ collect writeCon new ≡ collect writeCon (others o ++ new) =
      sym (collect-append writeCon (others o) new
      ∙ ap (λ (l : List Rec). l ++ collect writeCon new) (collect-append writeCon o.before.trees.0 o.behind.trees.0)) in
      subst (Writes w w₃) e (writes-then (a ++ b) (collect writeCon new) (writes-then a b p q) r)

  ghost_same : w₄.words.ghost_name ≡ w.words.ghost_name
  ghost_same = t.same ∙ r.same ∙ q.same ∙ p.same

  pub append-long : 2048 < w₄.at → Next pool table w w₄ (Err TooLarge) (appends o new)
  append-long h = record {
    same = ghost_same;
    turned = turned-as (long appended (omega (arith, h, many pool table appended front room cons-written t))) (record { says = refl });
  }

  pub append-kept : w₄.at ≤ 2048 → Next pool table w w₄ (Ok (Some (record { constraints = w₃.at; bindings = w₄.at }))) (appends o new)
  append-kept h =
      let m = many pool table appended front room cons-written t in
      let c = sound-both pool table (others o) new (sound-both pool table o.before.trees.0 o.behind.trees.0 s.before s.behind) n in
      let e : keeps appended ≡ got (some appended) = kept appended (omega (arith, h, m)) (omega (arith, depth-is appended, c.flat, s.bindings.flat)) in
      record {
        same = ghost_same;
        turned = turned-as e (record {
          says = record {
            ends = record { constraints = w₃.at; bindings = w₄.at };
            is = refl;
            held = record {
              cons = cons-there pool table appended front room cons-written t c.good s.bindings.good h;
              binds = binds-there pool table appended front room cons-written t c.good s.bindings.good h;
              sound_cons = c;
              sound_binds = s.bindings;
              short = h;
            };
          };
        });
      }

-- more new constraints than a state may have records
pub append-over : (o : Others) (new : List (Con ℕ)) → 2048 < sum_of sizeCon new → appends o new ≡ refused 8
append-over o new h =
    let st : State ℕ = record { cons = others o ++ new; binds = o.bindings.trees.0 } in
    long st (omega (arith, h, size-is st, sum_both sizeCon (others o) new))

-- ══ A state that keeps the limits, or not ══

module _ (pool table w : List ℕ) (ends : Ends) (st : State ℕ) (m : Made pool table w ends st) where
  small-of : keeps st ≡ got (some st) → sizeState st ≤ 2048
  small-of e = go (dec_le (sizeState st) 2048)
    where
      go : Dec (sizeState st ≤ 2048) → sizeState st ≤ 2048
      go (yes k) = k
      go (no k) = clash (sym (long st (omega arith)) ∙ e)

  flat-of : keeps st ≡ got (some st) → depthState st ≤ 64
  flat-of e = go (dec_le (depthState st) 64)
    where
      go : Dec (depthState st ≤ 64) → depthState st ≤ 64
      go (yes k) = k
      go (no k) = clash (sym (deep st (omega arith)) ∙ e)

  pub limited-turned : (r : Turn) {R : Got (Option (State ℕ))} → R ≡ keeps st → Limited ends st r (keeps st) → Turned pool table w r R
  limited-turned (Ok o) e l =
      let few : ends.bindings ≤ 2048 = omega (arith, m.many, small-of l.0) in
      let f = flat-of l.0 in
      turned-as (e ∙ l.0) (record {
        says = record {
          ends = ends;
          is = ap Ok l.1;
          held = record {
            cons = m.cons few;
            binds = m.binds few;
            sound_cons = record { good = m.good_cons; flat = omega (arith, f, depth-is st) };
            sound_binds = record { good = m.good_binds; flat = omega (arith, f, depth-is st) };
            short = few;
          };
        };
      })
  limited-turned (Err k) e l = turned-as (e ∙ l.0) (record { says = ap number_of l.1 })

pub next-as : {pool table : List ℕ} {w w' : Writer} {r : Turn} {R S : Got (Option (State ℕ))} → R ≡ S → Next pool table w w' r S → Next pool table w w' r R
next-as e n = record { same = n.same; turned = turned-as e n.turned }

pub next-stops : {pool table : List ℕ} {w w' : Writer} {k : Refusal} {R : Got (Option (State ℕ))} → w'.words.ghost_name ≡ w.words.ghost_name
    → R ≡ refused (number_of k)
    → Next pool table w w' (Err k) R
next-stops s e = record { same = s; turned = turned-as e (record { says = refl }) }

-- ══ What a round leaves ══

-- whatever is known of its front
placed : {pool table w : List ℕ} {p : Place} {st : State ℕ} (k : ℕ) → StateHeld pool table w p st
    → StateHeld pool table w (record { start = p.start; stuck = k; ends = p.ends }) st
placed k h = record { cons = h.cons; binds = h.binds; sound_cons = h.sound_cons; sound_binds = h.sound_binds; short = h.short }

module _ {pool table s w : List ℕ} where
  pub rounded-as : {r : Result After Refusal} {R S : Got (Option (State ℕ))} → R ≡ S → Rounded pool table s w r S → Rounded pool table s w r R
  rounded-as {r} e t = subst (Rounded pool table s w r) (sym e) t

  -- what was written stands there
  pub wrote : {k : ℕ} {r : Turn} {R : Got (Option (State ℕ))} → Turned pool table w r R
      → ((st : State ℕ) (ends : Ends) → R ≡ got (some st) → StateHeld pool table w (record { start = 0; stuck = 0; ends = ends }) st
      → Front pool table w (record { start = 0; stuck = k; ends = ends }) st.cons)
      → Rounded pool table s w (written k r) R
  wrote {k} {r} {R} t f = record { says = go R r f t.says }
    where
      go : (R : Got (Option (State ℕ))) (r : Turn)
          → ((st : State ℕ) (ends : Ends) → R ≡ got (some st) → StateHeld pool table w (record { start = 0; stuck = 0; ends = ends }) st
          → Front pool table w (record { start = 0; stuck = k; ends = ends }) st.cons)
          → TurnLeft pool table w r R → RoundLeft pool table s w (written k r) R
      go (got (some st)) r f h = subst (λ (x : Turn). Stands pool table s w (written k x) st) (sym h.is)
          (record { held = placed k h.held; front = f st h.ends refl h.held })
      go (got none) r f h = ap (written k) h
      go (refused j) (Ok o) f h = absurd h
      go (refused j) (Err x) f h = h
