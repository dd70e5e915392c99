-- Quantifying, generalising, instantiating.
use Rattle.std.specs.Prelude.{true, List, [], ◌∷◌, map, ℕ, suc, ◌+◌, eqb, length}
use Rattle.std.proofs.Math.Option.{Option, none, some, get_or}
use Rattle.std.proofs.Math.ListN.{get_elem?}
use Rattle.rules.specs.Base.{Got, got, refused, ◌>>=◌, ◌>>◌, need, Limits, sized, is_yes, only_if, and_then, keep}
use Rattle.rules.specs.Trees.{Open, var, quant, par, Names, Ty, opened, opens, size, depth}
use Rattle.rules.specs.Contents.{sort, namesIn, among}
use Rattle.rules.specs.Plain.{plain}
use Rattle.rules.specs.Replacing.{Look, replaceTy}

-- a concrete type; or a count of quantified variables, a type, and bounds: each a name or an index
pub data Scheme (N : Type 0) : Type 0 where
  concrete : Ty N → Scheme N
  scheme : ℕ → Ty N → List (Open N) → Scheme N

module _ {N : Type 0} where
  -- open names for open names, as a replacement
  abbrev pub renamed : (Open N → Option (Open N)) → Look N
  renamed f o = and_then (f o) (λ o'. some (opened o'))

  -- the same in bounds
  unfoldable pub renamedBounds : (Open N → Option (Open N)) → List (Open N) → List (Open N)
  renamedBounds f bs = map (λ o. get_or (f o) o) bs

  -- 'so too the result of .. scheme calls': records and nesting, 8
  unfoldable pub schemeLimited : {A : Type 0} → Limits → ℕ → Ty N → List (Open N) → A → Got A
  schemeLimited l heads t bs a = sized l (heads + (size t + length bs)) (depth t) a

  -- 'puts given variables back': quantified variable i is the i-th of these
  unfoldable pub back : List N → Open N → Option (Open N)
  back vs (var x) = none
  back vs (quant i) = and_then (get_elem? vs i) (λ x. some (var x))
  back vs (par x) = none

module _ {N : Type 0} (ν : Names N) where
  -- 'variables, and parameters of that name'
  unfoldable pub quantifies : ℕ → N → Open N → Option (Open N)
  quantifies i v (var x) = only_if (is_yes (ν.same v x)) (quant i)
  quantifies i v (quant j) = none
  quantifies i v (par x) = only_if (is_yes (ν.same v x)) (quant i)

module _ {N : Type 0} (ν : Names N) (l : Limits) where
  -- 'by quantified 0, 1, .. in turn'
  unfoldable pub quantifyFrom : ℕ → List N → Ty N → List (Open N) → Got (Ty N × List (Open N))
  quantifyFrom i [] t bs = got (t, bs)
  quantifyFrom i (v ∷ vs) t bs = do
    t' ← replaceTy ν l (renamed (quantifies ν i v)) t
    quantifyFrom (suc i) vs t' (renamedBounds (quantifies ν i v) bs)

  -- 'a repeated name finds nothing the second time but counts'
  unfoldable pub quantify : List N → Ty N → List (Open N) → Got (Scheme N)
  quantify vs t bs = do
    r ← quantifyFrom 0 vs t bs
    schemeLimited l 1 r.0 r.1 (scheme (length vs) r.0 r.1)

  -- 'all open names sorted, and bounds, in the order given, only names the type contains; a scheme not concrete is unchanged'
  unfoldable pub generalise : List N → Scheme N → Got (Scheme N)
  generalise bs (scheme n t os) = got (scheme n t os)
  generalise bs (concrete t) = quantify names t (map var (keep (λ b. among ν b names) bs))
    where
      names : List N
      names = sort ν (namesIn (opens t))

  -- 'puts given variables back and merges products; one that is then a variable to the power 1 comes back as that variable'
  unfoldable pub put_back : List N → Ty N → List (Open N) → Got (Ty N × List (Open N))
  put_back vs t bs = do
    t' ← replaceTy ν l (renamed (back vs)) t
    schemeLimited l 0 (plain t' true) bs (plain t' true, renamedBounds (back vs) bs)

  -- 'wrong count of variables for a scheme, or a concrete type instantiated': 9
  unfoldable pub instantiate : List N → Scheme N → Got (Ty N × List (Open N))
  instantiate vs (concrete t) = refused 9
  instantiate vs (scheme n t bs) = need (eqb n (length vs)) 9 >> put_back vs t bs
