-- What a call of replacing makes, from what its walk leaves in the work buffer.
use Rattle.std.specs.Prelude.{Result, Err, ◌≡◌, refl, true, List, [], ◌++◌, ℕ, ◌+◌, ◌*◌, ◌≤◌, leb, max, min, Bool, false, length, take, drop}
use Rattle.std.proofs.Common.{sym, ap, ap₂, subst, ◌∙◌, arith, append_assoc, length-append, take_at}
use Rattle.std.proofs.Math.Option.{some}
use Rattle.std.proofs.lemmas.List.Edits.{sets, sets-eq}
use Rattle.std.proofs.Math.Seq.{length-sets}
use Rattle.rules.specs.Base.{Got, got, refused, ◌>>=◌, allow, bounded, sized, all, each, collect, sum_of, max_of}
use Rattle.rules.specs.Names.{table_of}
use Rattle.rules.specs.Refusals.{told}
use Rattle.rules.specs.Replacing.{Look, bindings, replaceTy, replaceCon}
use Rattle.rules.specs.Rounds.{State, limited, sizeState, depthState}
use Rattle.rules.specs.Trees.{Open, Ty, Con, Binding, size, depth, sizeCon, depthCon}
use Rattle.rules.specs.WellFormed.{goodTy, goodBinding}
use Rattle.rules.specs.Writing.{Rec, words, writeTy, writeCon}
use Rattle.rules.specs.declared.Refusal.{Refusal}
use Rattle.laws.proofs.KeepsGood as laws
use Rattle.laws.specs.Lists.{Every}
use Rattle.laws.proofs.Lists.{clash, every-all, is_all}
use Rattle.laws.proofs.Size.{size-ty, set-length}
use Rattle.laws.proofs.Sized.{sized_same, sized-small}
use Rattle.laws.proofs.Weaker.{ty-weaker}
use Rattle.products.proofs.Held.{law}
use Rattle.laws.proofs.Size.{words-length}
use Rattle.records.proofs.Buffers.{stored}
use Rattle.records.specs.Cut.{cut}
use Rattle.records.proofs.Cut.{cut-length, short-all, short-con, short-ty}
use Rattle.records.specs.Good as records
use Rattle.records.specs.Good.{numbers, holding}
use Rattle.records.proofs.Held.{held}
use Rattle.records.specs.Views.{from}
use Rattle.replace.proofs.Came.{Came, stopped}
use Rattle.replace.proofs.Kept.{cons-kept, cons-weaker, binds-weaker}
use Rattle.replace.specs.Leaves.{Leaves}
use Rattle.replace.proofs.Runs.{looked-good}
use Rattle.replace.specs.Substitutions.{ALook, one-look}
use Rattle.replace.specs.Well.{GoodCon, GoodTy, Lent, Listed}
use Rattle.replace.proofs.Written.{ty-fits, written-cons}
use Rattle.types.specs.Fine.{FineBindings}
use Rattle.types.specs.declared.Bindings.{Bindings}
use Rattle.types.specs.declared.writer.Writer.{Writer}
use Rattle.types.specs.Sets.{IsCons}
use Rattle.types.specs.Written.{last}
use Rattle.records_buffers.specs.Told.{Front, Made}
use Rattle.replace_calls.specs.Made.{limitedTo, madeSet}
use Rattle.replace_calls.specs.Stands.{counted, TypeStands, SetStands}

-- ══ From a walk to what was made, whatever it writes ══

-- records that were written from the start, where they fit, stand at the front
front : (d d' behind : List ℕ) (rs : List Rec) → 8192 ≤ length d → d' ≡ sets d 0 (words rs) → length rs ≤ 2048 → Front rs (d' ++ behind)
front d d' behind rs room e le =
    let n = words-length rs in
    let left = drop (0 + length (words rs)) d in
    let z : d' ≡ words rs ++ left = e ∙ sets-eq (words rs) d 0 (omega arith) in
    let y : d' ++ behind ≡ words rs ++ (left ++ behind) = ap (λ (l : List ℕ). l ++ behind) z ∙ append_assoc (words rs) left behind in
    record {
      few = le;
      room = omega (arith, length-append d' behind, ap length e ∙ length-sets d 0 (words rs));
      there = ap (take (length rs * 4)) y ∙ take_at (words rs) (left ++ behind) (length rs * 4) n;
    }

module _ {A : Type 0} (long deep : A → ℕ) (write : A → List Rec) (lengths : (a : A) → length (write a) ≡ long a) where
  count-is : (a : A) (m : Got A) → (m >>= λ b. got (long b)) ≡ ((m >>= λ b. got (write b)) >>= λ rs. got (length rs))
  count-is a (got b) = ap got (sym (lengths b))
  count-is a (refused k) = refl

  written : (a : A) (m : Got A) (rs : List Rec) → (m >>= λ b. got (write b)) ≡ got rs → (b : A) × ((m ≡ got b) × (write b ≡ rs))
  written a (got b) rs e = let z : write b ≡ rs = cc in (b, (refl, z))
  written a (refused k) rs e = clash e

  -- a short value is written with its own lengths
  module _ (short : (a : A) → long a ≤ 65_535 → cut (write a) ≡ write a) (w w' : Writer) (start : w.at ≡ 0) (room : 8192 ≤ length w.words.now) where
    module _ {R : Got A} (c : Came write w w' R) where
      pub many : min w'.at last ≡ min (long c.value) last
      many = omega (arith, c.wrote.at, start, cut-length (write c.value), lengths c.value)

      pub buffer : long c.value ≤ 2048 → w'.words.now ≡ sets w.words.now 0 (words (write c.value))
      buffer h = c.wrote.words (omega (arith, start, cut-length (write c.value), lengths c.value, h))
          ∙ ap₂ (λ (i : ℕ) (rs : List Rec). sets w.words.now (i * 4) (words rs)) start (short c.value (omega (arith, h)))

    -- the walk came to its end
    pub made-to : (R : Got A) (d behind : List ℕ) (r : Result ℕ Refusal) (c : Came write w w' R) → d ≡ w'.words.now → told r ≡ counted long deep c.value
        → Made (limitedTo long deep write R) (d ++ behind) r
    made-to R d behind r c i h = record {
      answer = h ∙ count-is a (sized bounded (long a) (deep a) a) ∙ sym (ap (λ (m : Got A). limitedTo long deep write m >>= λ rs. got (length rs)) c.is);
      front = λ rs e.
          let (b, (g, z)) = written a (sized bounded (long a) (deep a) a) rs (sym (ap (limitedTo long deep write) c.is) ∙ e) in
          let k : a ≡ b = sized_same (long a) (deep a) a bounded b g in
          let le = sized-small (long a) (deep a) a b g in
          subst (λ (x : List Rec). Front x (d ++ behind)) (ap write k ∙ z)
          (front w.words.now d behind (write a) room (i ∙ buffer c le) (omega (arith, lengths a)));
    }
      where
        a : A
        a = c.value

    -- or stopped
    pub made-stop : {r : Result (Unit {0}) Refusal} {k : Refusal} (R : Got A) (d : List ℕ) → r ≡ Err k → Leaves write w w' r R
        → Made (limitedTo long deep write R) d (Err k)
    made-stop {r} {k} R d i left =
        subst (λ (S : Got A). Made (limitedTo long deep write S) d (Err k)) (sym (stopped i left)) (record { answer = refl; front = λ rs e. clash e })

pub short-set : (cs : List (Con ℕ)) → sum_of sizeCon cs ≤ 65_535 → cut (collect writeCon cs) ≡ collect writeCon cs
short-set cs h = short-all sizeCon writeCon short-con cs h

-- ══ A set has the limits of a state without bindings ══

module _ (pool table : List ℕ) where
  -- the same, with the two limits of a list
  abbrev pub madeCons : Got (List (Con ℕ)) → Got (List Rec)
  madeCons R = limitedTo (sum_of sizeCon) (max_of depthCon) (collect writeCon) R

  abbrev alone : List (Con ℕ) → State ℕ
  alone cs = record { cons = cs; binds = [] }

  abbrev consOf : Got (State ℕ) → Got (List Rec)
  consOf m = m >>= λ s. got (collect writeCon s.cons)

  same-limits : (cs : List (Con ℕ)) → consOf (limited bounded (alone cs)) ≡ madeCons (got cs)
  unfolding limited sizeState depthState
  same-limits cs =
      let n : sum_of sizeCon cs + 0 ≡ sum_of sizeCon cs = omega arith in
      let d : max (max_of depthCon cs) 0 ≡ max_of depthCon cs = omega arith in
      rw (n, d) (go (leb (sum_of sizeCon cs) 2048) (leb (max_of depthCon cs) 64))
    where
      go : (a b : Bool) → consOf (allow a 8 (alone cs) >>= λ t. allow b 8 t) ≡ ((allow a 8 cs >>= λ t. allow b 8 t) >>= λ ds. got (collect writeCon ds))
      go true true = refl
      go true false = refl
      go false b = refl

  pub set-made : (cs : List (Con ℕ)) (bs : List (Binding ℕ)) (w : List ℕ) (r : Result ℕ Refusal)
      → Made (madeCons (each (replaceCon (numbers pool table) bounded (bindings (numbers pool table) bs)) cs)) w r
      → Made (madeSet (table_of pool table) cs bs) w r
  set-made cs bs w r h = subst (λ (m : Got (List Rec)). Made m w r)
      (go (each (replaceCon (numbers pool table) bounded (bindings (numbers pool table) bs)) cs)) h
    where
      go : (R : Got (List (Con ℕ))) → madeCons R ≡ (R >>= λ r. limited bounded (record { cons = r; binds = [] }) >>= λ s. got (collect writeCon s.cons))
      go (got ds) = sym (same-limits ds)
      go (refused k) = refl

-- ══ What the walks ask, and what they leave ══

-- bindings that passed their test, as they are noted
pub listed : (pool table : List ℕ) (b : Bindings) → FineBindings pool table b.trees.0 → Listed pool table b.words.now b.at b.end b.trees.0
listed pool table b f = record {
  run = b.trees.1;
  good = is_all (goodBinding (numbers pool table) (holding pool table) 4_294_967_296) b.trees.0
      (every-all _ b.trees.0 (binds-weaker pool table b.trees.0 f.good));
  short = omega (arith, b.trees.1.ends, f.small);
  near = b.near;
}

module _ (pool table : List ℕ) (bs : List (Binding ℕ)) (fine : FineBindings pool table bs) where
  abbrev look : Look ℕ
  look = bindings (numbers pool table) bs

  -- what names become is well formed
  becomes-good : (o : Open ℕ) (u : Ty ℕ) → look o ≡ some u → goodTy (numbers pool table) (holding pool table) 0 u ≡ true
  becomes-good o u q = looked-good (numbers pool table) (holding pool table) 0 bs o u fine.good q

  -- whichever way it is told what names become
  same-look : {places v : List ℕ} → Lent pool table places v look → (p : ALook pool table places v) → look ≡ p.0
  same-look {places} {v} l p = ap (λ (k : ALook pool table places v). k.0) (one-look pool table places v (look, l) p)

  module _ (t : Ty ℕ) (good : goodTy (numbers pool table) (holding pool table) 0 t ≡ true) where
    pub type-good : GoodTy pool table t
    type-good = ty-weaker (numbers pool table) (holding pool table) 0 4_294_967_296 (omega arith) t good

    pub type-left : {places v : List ℕ} → Lent pool table places v look → (p : ALook pool table places v) {x y : Writer} {r : Result (Unit {0}) Refusal}
        → Leaves writeTy x y r (replaceTy (numbers pool table) bounded p.0 t) → Leaves writeTy x y r (replaceTy (numbers pool table) bounded look t)
    type-left l p h = rw (same-look l p) h

    type-kept : (u : Ty ℕ) → replaceTy (numbers pool table) bounded look t ≡ got u → goodTy (numbers pool table) (holding pool table) 0 u ≡ true
    type-kept u e = (laws.ty_kept (numbers pool table) (law pool table) (holding pool table) 0 look becomes-good t good).holds u e

    pub type-stands : {w w' : Writer} {d : List ℕ} → w.at ≡ 0 → 8192 ≤ length w.words.now → d ≡ w'.words.now
        → (k : Came writeTy w w' (replaceTy (numbers pool table) bounded look t)) → TypeStands pool table d w'.at k.value
    type-stands {w} {w'} {d} start room q k = record {
      many = many size depth writeTy size-ty short-ty w w' start room k;
      held = λ le.
          let u : Ty ℕ = k.value in
          let i = size-ty u in
          let b = q ∙ buffer size depth writeTy size-ty short-ty w w' start room k le in
          held d u 0 (from w.words.now (0 + length (writeTy u))) (ty-fits (numbers pool table) (holding pool table) 0 u (type-kept u k.is))
          (ap (λ (x : List ℕ). from x 0) b ∙ stored w.words.now (writeTy u) 0 (omega arith));
      good = type-kept k.value k.is;
    }

  module _ (cs : List (Con ℕ)) (good : all (records.goodCon pool table 0) cs ≡ true) where
    pub set-good : Every (GoodCon pool table) cs
    set-good = cons-weaker pool table cs good

    pub set-left : {places v : List ℕ} → Lent pool table places v look → (p : ALook pool table places v) {x y : Writer} {r : Result (Unit {0}) Refusal}
        → Leaves (collect writeCon) x y r (each (replaceCon (numbers pool table) bounded p.0) cs)
        → Leaves (collect writeCon) x y r (each (replaceCon (numbers pool table) bounded look) cs)
    set-left l p h = rw (same-look l p) h

    set-kept : (ds : List (Con ℕ)) → each (replaceCon (numbers pool table) bounded look) cs ≡ got ds → all (records.goodCon pool table 0) ds ≡ true
    set-kept ds e = (cons-kept pool table look becomes-good cs good).holds ds e

    pub set-stands : {w w' : Writer} {d : List ℕ} → w.at ≡ 0 → length w.words.now ≡ 8192 → d ≡ w'.words.now
        → (k : Came (collect writeCon) w w' (each (replaceCon (numbers pool table) bounded look) cs))
        → SetStands pool table d w'.at k.value
    set-stands {w} {w'} {d} start room q k =
        let long = many (sum_of sizeCon) (max_of depthCon) (collect writeCon) set-length short-set w w' start (omega (arith, room)) k in
        let b = buffer (sum_of sizeCon) (max_of depthCon) (collect writeCon) set-length short-set w w' start (omega (arith, room)) k in
        let stands : sum_of sizeCon k.value ≤ 2048 → d ≡ sets w.words.now 0 (words (collect writeCon k.value)) = λ le. q ∙ b le in record {
          many = long;
          held = λ le.
              let i : 0 + sum_of sizeCon k.value ≡ w'.at = omega (arith, long, le) in
              subst (λ (n : ℕ). IsCons d 0 n k.value) i
              (written-cons pool table w.words.now d 0 k.value (stands le) (omega (arith, room, le))
              (cons-weaker pool table k.value (set-kept k.value k.is)));
          near = λ le. omega (arith, ap length (stands le) ∙ length-sets w.words.now 0 (words (collect writeCon k.value)), room);
          good = set-kept k.value k.is;
        }
