-- What is read with a nesting limit is nested no deeper.
use Rattle.std.proofs.Math.Option.{Option}
use Rattle.std.specs.Prelude.{List, [], ◌∷◌, length}
use Prim.Native.Nat.{ℕ, zero, suc, ◌≤◌}
use Rattle.std.proofs.Common.{arith}
use Rattle.rules.specs.Trees.{var, quant, par, Ty, opened, basic, boolean, string, datetime, depth, depthTys, depthFields}
use Rattle.rules.specs.Writing.{Rec, rec, kindIn, lengthIn}
use Rattle.rules.specs.Reading.{
  Reader,
  give,
  lasting,
  next,
  readFactors,
  readTys,
  readFields,
  readField,
  fieldTable,
  fieldKinds,
  readDim,
  readFn,
  readStruct,
  readList,
  typeTable,
  typeKinds,
  readTy,
}
use Rattle.laws.specs.Written.{Reads, nothing, given, picked, plain, lasting-read}
use Rattle.laws.proofs.Written.{then}

-- whatever was read
any-read : {A : Type 0} (o : Option (A × List Rec)) → Reads o (λ a rest. Unit {0})
any-read o = record { holds = λ a rest e. tt }

-- whatever length it says
lasts-too : {A : Type 0} (u : ℕ) (P : A → Type 0) (o : Option (A × List Rec)) (rs : List Rec) → Reads o (λ a rest. P a)
    → Reads (lasting (lengthIn u) (suc (length rs)) o) (λ a rest. P a)
lasts-too u P o rs h = record { holds = λ a rest e. ((lasting-read (lengthIn u) (suc (length rs)) o h).holds a rest e).0 }

module _ (d : ℕ) (ty : Reader (Ty ℕ)) (r : (s : List Rec) → Reads (ty s) (λ t rest. depth t ≤ d)) where
  tys-deep : (n : ℕ) (s : List Rec) → Reads (readTys ty n s) (λ ts rest. depthTys ts ≤ d)
  unfolding readTys depth
  tys-deep zero s = given (omega arith)
  tys-deep (suc n) s = then (r s) (λ t s' h. then (tys-deep n s') (λ ts s'' k. given (omega arith)))

  field-deep : (s : List Rec) → Reads (next (fieldKinds ty) s) (λ f rest. depth f.1 ≤ d)
  field-deep [] = nothing
  field-deep (rec u a b c ∷ rs) = lasts-too u (λ f. depth f.1 ≤ d) (fieldKinds ty (kindIn u) a b c rs) rs
      (picked (kindIn u) rs (fieldTable ty a b c) ((λ e. plain (b ∷ c ∷ []) (readField ty a) rs (λ z. then (r rs) (λ t s h. given h))), tt))

  fields-deep : (n : ℕ) (s : List Rec) → Reads (readFields ty n s) (λ fs rest. depthFields fs ≤ d)
  unfolding readFields depth
  fields-deep zero s = given (omega arith)
  fields-deep (suc n) s = then (field-deep s) (λ f s' h. then (fields-deep n s') (λ fs s'' k. given (omega arith)))

  fn-deep : (n : ℕ) (s : List Rec) → Reads (readFn ty n s) (λ t rest. depth t ≤ suc d)
  unfolding depth
  fn-deep n s = then (tys-deep n s) (λ ps s' h. then (r s') (λ t s'' k. given (omega arith)))

  struct-deep : (x n m : ℕ) (s : List Rec) → Reads (readStruct ty x n m s) (λ t rest. depth t ≤ suc d)
  unfolding depth
  struct-deep x n m s = then (tys-deep n s) (λ as' s' h. then (fields-deep m s') (λ fs s'' k. given (omega arith)))

  list-deep : (s : List Rec) → Reads (readList ty s) (λ t rest. depth t ≤ suc d)
  unfolding depth
  list-deep s = then (r s) (λ t s' h. given (omega arith))

dim-deep : (d n : ℕ) (s : List Rec) → Reads (readDim n s) (λ t rest. depth t ≤ suc d)
unfolding depth
dim-deep d n s = then (any-read (readFactors n s)) (λ p s' u. given (omega arith))

leaf-deep : (d : ℕ) (t : Ty ℕ) (s : List Rec) → depth t ≤ 1 → Reads (give t s) (λ t rest. depth t ≤ suc d)
leaf-deep d t s h = given (omega arith)

pub depth-read : (d : ℕ) (s : List Rec) → Reads (readTy d s) (λ t rest. depth t ≤ d)
unfolding readTy depth
depth-read zero s = nothing
depth-read (suc d) [] = nothing
depth-read (suc d) (rec u a b c ∷ rs) = lasts-too u (λ t. depth t ≤ suc d) (typeKinds (readTy d) (kindIn u) a b c rs) rs
    (picked (kindIn u) rs (typeTable (readTy d) a b c) (
      (λ e. plain (b ∷ c ∷ []) (give (opened (var a))) rs (λ z. leaf-deep d (opened (var a)) rs (omega arith))),
      (
        (λ e. plain (b ∷ c ∷ []) (give (opened (par a))) rs (λ z. leaf-deep d (opened (par a)) rs (omega arith))),
        (
          (λ e. plain (b ∷ c ∷ []) (give (opened (quant a))) rs (λ z. leaf-deep d (opened (quant a)) rs (omega arith))),
          (
            (λ e. plain (b ∷ c ∷ []) (readDim a) rs (λ z. dim-deep d a rs)),
            (
              (λ e. plain (a ∷ b ∷ c ∷ []) (give (basic boolean)) rs (λ z. leaf-deep d (basic boolean) rs (omega arith))),
              (
                (λ e. plain (a ∷ b ∷ c ∷ []) (give (basic string)) rs (λ z. leaf-deep d (basic string) rs (omega arith))),
                (
                  (λ e. plain (a ∷ b ∷ c ∷ []) (give (basic datetime)) rs (λ z. leaf-deep d (basic datetime) rs (omega arith))),
                  (
                    (λ e. plain (b ∷ c ∷ []) (readFn (readTy d) a) rs (λ z. fn-deep d (readTy d) (depth-read d) a rs)),
                    (
                      (λ e. struct-deep d (readTy d) (depth-read d) a b c rs),
                      ((λ e. plain (a ∷ b ∷ c ∷ []) (readList (readTy d)) rs (λ z. list-deep d (readTy d) (depth-read d) rs)), tt),
                    ),
                  ),
                ),
              ),
            ),
          ),
        ),
      ),
    ))
