-- What follows from the definitions of specs/Parts: a type by its parts: its record is counted at its first byte, its parts are entered behind it, and then
-- the record is written.
use Rattle.std.specs.Prelude.{◌≡◌, refl, List, ◌∷◌, ◌++◌, ℕ, suc, ◌+◌, ◌≤◌, min, length, Ok, Err}
use Rattle.std.proofs.Common.{sym, ap, ap₂, ◌∙◌, arith, length-append}
use Rattle.std.proofs.Math.Path.{subst}
use Rattle.rules.specs.Names.{Bytes}
use Rattle.rules.specs.Trees.{Ty, opened, basic, dim, fn, struct, list, Tys, nil, cons, Fields, noFields, field, size, sizeTys, sizeFields, count, countFields}
use Rattle.rules.specs.Writing.{Rec, rec, head, writeTy, writeTys, writeFields, writeProduct}
use Rattle.rules.specs.Grammar.{Rule, ascii, column, TyAt, TysAt, nilAt, consAt, function, listed}
use Rattle.rules.specs.TextReading.{Step, onward, give, counted, ty_of, tys_of, fields_of}
use Rattle.laws.proofs.Size.{size-ty, size-tys}
use Rattle.records.specs.Views.{recOf}
use Rattle.records.specs.declared.View.{View}
use Rattle.records.specs.declared.View.TheVariants as view
use Rattle.text_grammar.specs.declared.inner.Point.{Point}
use Rattle.text_grammar.specs.Points.{Reads, Any, marked, columnAt}
use Rattle.text_grammar.specs.Signs.{spelled}
use Rattle.text_grammar.specs.Types.{paramsThere}
use Rattle.text_grammar.proofs.Types.{listed-read, function-read}
use Rattle.text_names.specs.Stands.{place_of, countOf, headPut, Stand}
use Rattle.text_names.specs.Effects.{Lent, lent, Roomy, Halted, Ready, Kept, Did, Effect, Writes, Done, NotBad}
use Rattle.text_names.proofs.Effects.{not-bad, then, gives, maps, alike, grouped}
use Rattle.text_names.specs.Effects.{kept_then}
use Rattle.text_names.proofs.Effects.{kept-last, kept-written, kept-counted, countedIn, headed, head-long, halted-on, at_sign}
use Rattle.text_names.proofs.Inside.{inside-spelled, inside-column}
use Rattle.text_types.specs.Parts.{TysTold}

-- ══ Records that fit into a sheet ══

-- what is written fits into a sheet
short-did : {B : Type 0} {m : Step B} {T : B → List Rec → Type 0} {x y : Lent} {k n k' n' : ℕ} → n' ≤ 2048 → Did m T x y k n k' n'
    → Did m (λ b rs. T b rs × (length rs ≤ 2048)) x y k n k' n'
short-did h d = record { value = d.value; records = d.records; is = d.is; tells = (d.tells, omega (arith, d.grown)); written = d.written; grown = d.grown }

pub short : {B : Type 0} {m : Step B} {T : B → List Rec → Type 0} {x y : Lent} → Roomy y.table y.stand → Effect m T x y
    → Effect m (λ b rs. T b rs × (length rs ≤ 2048)) x y
short h e = record { does = λ k n k' n' p q. short-did (h k' n' q).records (e.does k n k' n' p q); refuses = e.refuses }

-- the records of the parts of b, if they fit into a sheet: behind a record that says v they are what w writes
abbrev pub Behind : {B : Type 0} → View → (B → List Rec) → B → List Rec → Type 0
Behind v w b rs = length rs ≤ 2048 → recOf v (suc (length rs)) ∷ rs ≡ w b

-- a record counted at a sign, its parts, and the record written
pub head_at : {B : Type 0} (v : View) (q : Point) {k : ℕ} (m : Step B) {T W : B → List Rec → Type 0} {x y : Lent} → k ≡ columnAt q → NotBad q → Halted q x.stand
    → Kept (countedIn 1 (place_of q) x) y → Effect m T (countedIn 1 (place_of q) x) y
    → ((b : B) (rs : List Rec) → T b rs → length rs ≤ 2048 → W b (recOf v (suc (length rs)) ∷ rs))
    → (d : List ℕ) → d ≡ headPut v x.stand y.stand y.dst → Effect (λ s. onward (counted 1 k s) (λ u. m)) W x (lent y.pool y.table d y.stand)
head_at v q {k} m {T} {W} {x} {y} e n h kept f o d g =
    at_sign q e n h (λ c. subst (λ (i : ℕ). Effect (λ s. onward (counted 1 i s) (λ u. m)) W x (lent y.pool y.table d y.stand)) (sym c)
    (headed v (place_of q) m kept (short kept.room f) (λ b rs t. o b rs t.0 t.1) d g))

pub head-by : {B : Type 0} (v : View) (w : B → List Rec) (q : Point) {k : ℕ} (m : Step B) {x y : Lent} → k ≡ columnAt q → NotBad q → Halted q x.stand
    → Kept (countedIn 1 (place_of q) x) y → Effect m (Behind v w) (countedIn 1 (place_of q) x) y → (d : List ℕ) → d ≡ headPut v x.stand y.stand y.dst
    → Effect (λ s. onward (counted 1 k s) (λ u. m)) (Writes w) x (lent y.pool y.table d y.stand)
head-by v w q m e n h kept f d g = head_at v q m {T = Behind v w} e n h kept f (λ b rs t l. t l) d g

-- a refusal stays
pub halted-kept : {q : Point} {x y : Lent} → Kept x y → Halted q x.stand → Halted q y.stand
halted-kept {q} {x} {y} k h i n e f = go x.stand refl
  where
    go : (s : Stand) → x.stand ≡ s → ⊥
    go (Ok tally) p = h tally.names tally.records e p
    go (Err stop) p = let o = k.refused stop.why stop.at p in cc

-- from where a record was counted
pub from-counted : {A B : Type 0} {R : Rule A} {f : A → Step B} {T : B → List Rec
    → Type 0} {line : Bytes} {p r : Point} {pool table dst : List ℕ} {s₁ : Stand} {at : ℕ} {y : Lent}
    (q : Point) (s : Stand) → at ≡ place_of q → s₁ ≡ countOf 1 at s → Done line R f T p (lent pool table dst s₁) r y
    → Done line R f T p (lent pool table dst (countOf 1 (place_of q) s)) r y
from-counted {R = R} {f = f} {T = T} {line = line} {p = p} {r = r} {pool = pool} {table = table} {dst = dst} {y = y} q s e g d =
    subst (λ (u : Stand). Done line R f T p (lent pool table dst u) r y) (g ∙ ap (λ (i : ℕ). countOf 1 i s) e) d

-- all that was kept from before the record was counted up to when it was written
pub kept-headed : {x y : Lent} (v : View) (at : ℕ) → Kept x (countedIn 1 at x) → Kept (countedIn 1 at x) y → (d : List ℕ)
    → d ≡ headPut v x.stand y.stand y.dst → Kept x (lent y.pool y.table d y.stand)
kept-headed {x} {y} v at k l d g = kept-written (kept_then k l) (ap length g ∙ head-long v x.stand y.stand y.dst)

pub tys-none : {n : ℕ} {x : Lent} → n ≤ 4096 → Effect (tys_of nilAt) (TysTold n n) x x
unfolding ty_of tys_of fields_of writeTy writeTys writeFields count
tys-none h = gives nil (record { written = refl; counted = omega arith })

pub tys-more : {n m : ℕ} {x y z : Lent} (t : TyAt) (ts : TysAt) → Effect (ty_of t) (Writes writeTy) x y → Kept y z
    → Effect (tys_of ts) (TysTold (min (n + 1) 4096) m) y z
    → Effect (tys_of (consAt t ts)) (TysTold n m) x z
unfolding ty_of tys_of fields_of writeTy writeTys writeFields count
tys-more t ts e k f =
    then (ty_of t) (λ u s. onward (tys_of ts s) (λ us. give (cons u us))) e k
    (λ u rs h. maps (tys_of ts) (cons u) (kept-last k) f (λ us qs g. record { written = ap₂ ◌++◌ h g.written; counted = omega (arith, g.counted) }))

-- each type has a record at least
ty-long : (t : Ty ℕ) → 1 ≤ length (writeTy t)
unfolding writeTy writeTys writeFields writeProduct
ty-long (opened o) = omega arith
ty-long (basic b) = omega arith
ty-long (dim p) = omega arith
ty-long (fn ps r) = omega arith
ty-long (struct n as' fs) = omega arith
ty-long (list t) = omega arith

pub tys_long : (us : Tys ℕ) → count us ≤ length (writeTys us)
unfolding writeTy writeTys writeFields count
tys_long nil = omega arith
tys_long (cons u us) = omega (arith, length-append (writeTy u) (writeTys us), ty-long u, tys_long us)

pub fields-long : (gs : Fields ℕ) → countFields gs ≤ length (writeFields gs)
unfolding writeTy writeTys writeFields countFields
fields-long noFields = omega arith
fields-long (field n t gs) = omega (arith, length-append (writeTy t) (writeFields gs), fields-long gs)

-- ══ Lists and functions ══

list-behind : (u : Ty ℕ) → Behind view.List writeTy (list u) (writeTy u)
unfolding writeTy writeTys writeFields size sizeTys sizeFields
list-behind u h = ap (λ (n : ℕ). rec (head 10 n) 0 0 0 ∷ writeTy u) (ap suc (size-ty u))

fn-behind : (n : ℕ) (us : Tys ℕ) (u : Ty ℕ) (rs qs : List Rec) → TysTold 0 n us rs → qs ≡ writeTy u → Behind (view.Function n) writeTy (fn us u) (rs ++ qs)
unfolding writeTy writeTys writeFields size sizeTys sizeFields
fn-behind n us u rs qs t g h =
    let few : count us ≤ length rs = subst (λ (l : List Rec). count us ≤ length l) (sym t.written) (tys_long us) in
    let c : n ≡ count us = omega (arith, t.counted, few, length-append rs qs) in
    let l : length (rs ++ qs) ≡ sizeTys us + size u = length-append rs qs ∙ ap₂ ◌+◌ (ap length t.written ∙ size-tys us) (ap length g ∙ size-ty u) in
    ap₂ (λ (k : ℕ) (i : ℕ). rec (head 7 (suc k)) i 0 0 ∷ (rs ++ qs)) l c
    ∙ ap₂ (λ (a b : List Rec). rec (head 7 (suc (sizeTys us + size u))) (count us) 0 0 ∷ (a ++ b)) t.written g

module _ (ty : Rule TyAt) {line : Bytes} {x y : Lent} where
  pub list_done : {p q a b c r : Point} → Ready line p x.pool x.table x.stand → Reads line p column (λ (k : ℕ). k ≡ columnAt q) q
      → Reads line q (spelled (ascii "List")) Any a → Reads line a (marked 60) Any b → Done line ty ty_of (Writes writeTy) b (countedIn 1 (place_of q) x) c y
      → Reads line c (marked 62) Any r
      → (d : List ℕ) → d ≡ headPut view.List x.stand y.stand y.dst → Done line (listed ty) ty_of (Writes writeTy) p x r (lent y.pool y.table d y.stand)
  unfolding ty_of tys_of fields_of
  list_done {p} {q} {a} {b} {c} {r} h x1 x2 x3 x4 x5 d g = record {
    reads = listed-read ty x1 x2 x3 x4.reads x5 (λ k t hk ht n.
        let nc = not-bad x5 n in
        alike (grouped (counted 1 k) (λ u. ty_of t) (λ u. give (list u)))
        (head-by view.List writeTy q _ hk (not-bad x2 (not-bad x3 (not-bad x4.reads nc))) (halted-on inside-column x1 h.halted) x4.kept
        (maps (ty_of t) list (kept-last x4.kept) (ht nc) (λ u rs e. subst (Behind view.List writeTy (list u)) (sym e) (list-behind u))) d g));
    kept = kept-headed view.List (place_of q) (kept-counted 1 (place_of q) h.good h.room) x4.kept d g;
    halted = halted-on (inside-spelled _) x5 x4.halted;
  }

  pub function-done : {z : Lent} {p q a b c e f g i r : Point} {n : ℕ} → Ready line p x.pool x.table x.stand → Reads line p column (λ (k : ℕ). k ≡ columnAt q) q
      → Reads line q (spelled (ascii "Fn")) Any a → Reads line a (marked 91) Any b → Reads line b (marked 40) Any c
      → Done line (paramsThere ty) tys_of (TysTold 0 n) c (countedIn 1 (place_of q) x) e z → Reads line e (marked 41) Any f
      → Reads line f (spelled (ascii "->")) Any g
      → Done line ty ty_of (Writes writeTy) g z i y → Reads line i (marked 93) Any r
      → (d : List ℕ) → d ≡ headPut (view.Function n) x.stand y.stand y.dst
      → Done line (function ty) ty_of (Writes writeTy) p x r (lent y.pool y.table d y.stand)
  unfolding ty_of tys_of fields_of
  function-done {z} {p} {q} {a} {b} {c} {e} {f} {g} {i} {r} {n} h x1 x2 x3 x4 x5 x6 x7 x8 x9 d o = record {
    reads = function-read ty x1 x2 x3 x4 x5.reads x6 x7 x8.reads x9 (λ k ps t hk hp ht m.
        let ni = not-bad x9 m in
        let ne = not-bad x6 (not-bad x7 (not-bad x8.reads ni)) in
        alike (grouped (counted 1 k) (λ u. tys_of ps) (λ us s. onward (ty_of t s) (λ u. give (fn us u))))
        (head-by (view.Function n) writeTy q _ hk (not-bad x2 (not-bad x3 (not-bad x4 (not-bad x5.reads ne)))) (halted-on inside-column x1 h.halted)
        (kept_then x5.kept x8.kept)
        (then (tys_of ps) (λ us s. onward (ty_of t s) (λ u. give (fn us u))) (hp ne) x8.kept
        (λ us rs hs. maps (ty_of t) (fn us) (kept-last x8.kept) (ht ni) (λ u qs hu. fn-behind n us u rs qs hs hu))) d o));
    kept = kept-headed (view.Function n) (place_of q) (kept-counted 1 (place_of q) h.good h.room) (kept_then x5.kept x8.kept) d o;
    halted = halted-on (inside-spelled _) x9 x8.halted;
  }
