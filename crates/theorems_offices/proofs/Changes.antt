-- Replacing and the scheme calls: lists that read alike are answered alike.
use Rattle.std.specs.Prelude.{◌≡◌, ℕ}
use Rattle.std.proofs.Common.{ap, ap₂}
use mathlib.Core.List.{List, [], ◌∷◌, map}
use Rattle.rules.specs.Base.{bounded, sized, each, collect}
use Rattle.rules.specs.Trees.{Open, Ty, Con, Binding, opens, opensCon, size, depth}
use Rattle.rules.specs.Names.{Table, table_of, numbersOf}
use Rattle.rules.specs.Replacing.{replaceTy, replaceCon, bindings}
use Rattle.rules.specs.Rounds.{limited}
use Rattle.rules.specs.Schemes.{Scheme, quantify, generalise, instantiate}
use Rattle.rules.specs.Writing.{word_of}
use Rattle.rules.specs.Calls.{lent, opensBinding, replacedType}
use Rattle.rules.specs.Calls.{
  replacedSet,
  replaceTypeCall,
  replaceSetCall,
  quantified,
  generalised,
  instantiated,
  quantifyCall,
  generaliseCall,
  instantiateCall,
}
use Rattle.rules.specs.Offices.{nameNo, Name, byBytes, mapTy, mapCon, mapBinding, NumbersAlike, LentAlike, WrittenAlike}
use Rattle.laws.specs.NameTable.{Good}
use Rattle.theorems_offices.proofs.Over.{Over, each_over, sized-over}
use Rattle.laws.proofs.Alike.{both, onward}
use Rattle.theorems_offices.proofs.Both.{Both, through, checked, two-checks}
use Rattle.theorems_offices.proofs.Sizes.{size-map, depth-map, mapState}
use Rattle.theorems_offices.proofs.Replacing.{ty-map, con-map, looks-map}
use Rattle.theorems_offices.proofs.Rounds.{limited-map}
use Rattle.theorems_offices.proofs.Schemes.{quantify-map, generalise-map, instantiate-map}
use Rattle.theorems_offices.proofs.Naming.{keeps}
use Rattle.theorems_offices.proofs.Writing.{type-written, set-written, scheme-written, opened-written}
use Rattle.theorems_offices.proofs.Results.{writing-alike}
use Rattle.theorems_offices.proofs.Given.{Alike, as_long, as_many, short, few, kept-alike, lent_alike, constraints-given, type-given, scheme-given}
use Rattle.theorems_offices.proofs.Given.{
  bindings-given,
  bounds-given,
  names-given,
  numbers-given,
  apart-alike,
  opens-alike,
  set-opens,
  binding-opens,
  scheme-opens,
  joined,
}

module _ {pool table pool' table' : List ℕ} (good : Good pool table) (good' : Good pool' table') where
  -- the two tables, and the names of their numbers
  abbrev T₁ : Table
  T₁ = table_of pool table

  abbrev T₂ : Table
  T₂ = table_of pool' table'

  abbrev ν₁ : ℕ → Name
  ν₁ = nameNo T₁

  abbrev ν₂ : ℕ → Name
  ν₂ = nameNo T₂

  -- ══ Replacing ══

  -- a type or a set in which bindings are put in
  type-replaced : (u u' : Ty ℕ) (bs bs' : List (Binding ℕ)) → mapTy ν₁ u ≡ mapTy ν₂ u' → map (mapBinding ν₁) bs ≡ map (mapBinding ν₂) bs'
      → Both (mapTy ν₁) (mapTy ν₂) (replaceTy (numbersOf T₁) bounded (bindings (numbersOf T₁) bs) u)
      (replaceTy (numbersOf T₂) bounded (bindings (numbersOf T₂) bs') u')
  type-replaced u u' bs bs' e f = through
      (ty-map _ byBytes ν₁ (keeps good) bounded _ (bindings byBytes (map (mapBinding ν₁) bs)) (looks-map _ byBytes ν₁ (keeps good) bs) u)
      (ty-map _ byBytes ν₂ (keeps good') bounded _ (bindings byBytes (map (mapBinding ν₂) bs')) (looks-map _ byBytes ν₂ (keeps good') bs') u')
      (ap₂ (λ (cs : List (Binding Name)) (v : Ty Name). replaceTy byBytes bounded (bindings byBytes cs) v) f e)

  set-replaced : (cs cs' : List (Con ℕ)) (bs bs' : List (Binding ℕ)) → map (mapCon ν₁) cs ≡ map (mapCon ν₂) cs'
      → map (mapBinding ν₁) bs ≡ map (mapBinding ν₂) bs'
      → Both (map (mapCon ν₁)) (map (mapCon ν₂)) (each (replaceCon (numbersOf T₁) bounded (bindings (numbersOf T₁) bs)) cs)
      (each (replaceCon (numbersOf T₂) bounded (bindings (numbersOf T₂) bs')) cs')
  set-replaced cs cs' bs bs' e f = through
      (each_over _ _ _ _ (con-map _ byBytes ν₁ (keeps good) bounded _ (bindings byBytes (map (mapBinding ν₁) bs)) (looks-map _ byBytes ν₁ (keeps good) bs)) cs)
      (each_over _ _ _ _ (con-map _ byBytes ν₂ (keeps good') bounded _ (bindings byBytes (map (mapBinding ν₂) bs'))
      (looks-map _ byBytes ν₂ (keeps good') bs')) cs')
      (ap₂ (λ (xs : List (Binding Name)) (ds : List (Con Name)). each (replaceCon byBytes bounded (bindings byBytes xs)) ds) f e)

  sized-type : (u u' : Ty ℕ) → mapTy ν₁ u ≡ mapTy ν₂ u'
      → Both (mapTy ν₁) (mapTy ν₂) (sized bounded (size u) (depth u) u) (sized bounded (size u') (depth u') u')
  sized-type u u' e = through (over ν₁ u) (over ν₂ u') (ap (λ (v : Ty Name). sized bounded (size v) (depth v) v) e)
    where
      over : (f : ℕ → Name) (u : Ty ℕ) → Over (mapTy f) (sized bounded (size u) (depth u) u) (sized bounded (size (mapTy f u)) (depth (mapTy f u)) (mapTy f u))
      over f u = rw (size-map f u, depth-map f u) (sized-over (mapTy f) bounded (size u) (depth u) u)

  limited-set : (cs cs' : List (Con ℕ)) → map (mapCon ν₁) cs ≡ map (mapCon ν₂) cs'
      → Both (mapState ν₁) (mapState ν₂) (limited bounded (record { cons = cs; binds = [] })) (limited bounded (record { cons = cs'; binds = [] }))
  limited-set cs cs' e = through (limited-map ν₁ bounded (record { cons = cs; binds = [] }))
      (limited-map ν₂ bounded (record { cons = cs'; binds = [] }))
      (ap (λ (ds : List (Con Name)). limited bounded (record { cons = ds; binds = [] })) e)

  pub replace-type : (ws ws' bs bs' result result' work work' : List ℕ) → Alike good good' ws ws' → Alike good good' bs bs'
      → LentAlike result result' work work'
      → WrittenAlike T₁ T₂ (replaceTypeCall pool table ws bs result work) (replaceTypeCall pool' table' ws' bs' result' work')
  unfolding replaceTypeCall replacedType
  replace-type ws ws' bs bs' result result' work work' e f r = rw (lent_alike good good' result result' work work' r)
      (writing-alike T₁ T₂ (lent pool' table' result' work') _ _ result result' work work'
      (checked (short (ws ∷ bs ∷ []) (ws' ∷ bs' ∷ []) (rw (as_long e, as_long f)))
      (checked (kept-alike good good')
      (onward _ _ (type-given good good' ws ws' e) (λ u u' i.
      onward _ _ (bindings-given good good' bs bs' f) (λ xs xs' j.
      checked (apart-alike good good' _ _
      (joined good good' (opens u) (opens u') (collect opensBinding xs) (collect opensBinding xs') (opens-alike good good' u u' i)
      (binding-opens good good' xs xs' j)))
      (onward _ _ (type-replaced u u' xs xs' i j) (λ v v' k.
      onward _ _ (sized-type v v' k) (λ w w' l. both (type-written T₁ T₂ w w' l))))))))))

  pub replace-set : (ws ws' bs bs' result result' work work' : List ℕ) → Alike good good' ws ws' → Alike good good' bs bs' → LentAlike result result' work work'
      → WrittenAlike T₁ T₂ (replaceSetCall pool table ws bs result work) (replaceSetCall pool' table' ws' bs' result' work')
  unfolding replaceSetCall replacedSet
  replace-set ws ws' bs bs' result result' work work' e f r = rw (lent_alike good good' result result' work work' r)
      (writing-alike T₁ T₂ (lent pool' table' result' work') _ _ result result' work work'
      (checked (short (ws ∷ bs ∷ []) (ws' ∷ bs' ∷ []) (rw (as_long e, as_long f)))
      (checked (kept-alike good good')
      (onward _ _ (constraints-given good good' ws ws' e) (λ cs cs' i.
      onward _ _ (bindings-given good good' bs bs' f) (λ xs xs' j.
      checked (apart-alike good good' _ _
      (joined good good' (collect opensCon cs) (collect opensCon cs') (collect opensBinding xs) (collect opensBinding xs')
      (set-opens good good' cs cs' i) (binding-opens good good' xs xs' j)))
      (onward _ _ (set-replaced cs cs' xs xs' i j) (λ ds ds' k.
      onward _ _ (limited-set ds ds' k) (λ s s' l. both (set-written T₁ T₂ s.cons s'.cons (ap (λ z. z.cons) l)))))))))))

  -- ══ Quantifying, generalising, instantiating ══

  pub quantify-alike : (ws ws' bs bs' ns ns' result result' work work' : List ℕ) → Alike good good' ws ws' → Alike good good' bs bs'
      → NumbersAlike T₁ T₂ ns ns' → LentAlike result result' work work'
      → WrittenAlike T₁ T₂ (quantifyCall pool table ws bs ns result work) (quantifyCall pool' table' ws' bs' ns' result' work')
  unfolding quantifyCall quantified
  quantify-alike ws ws' bs bs' ns ns' result result' work work' e f n r = rw (lent_alike good good' result result' work work' r)
      (writing-alike T₁ T₂ (lent pool' table' result' work') _ _ result result' work work'
      (checked (two-checks (short (ws ∷ bs ∷ []) (ws' ∷ bs' ∷ []) (rw (as_long e, as_long f))) (few ns ns' (as_many n)))
      (checked (kept-alike good good')
      (onward _ _ (type-given good good' ws ws' e) (λ u u' i.
      onward _ _ (bounds-given good good' bs bs' f) (λ os os' j.
      checked (numbers-given good good' ns ns' n.names)
      (checked (apart-alike good good' _ _ (opens-alike good good' u u' i))
      (onward _ _ (through (quantify-map _ byBytes ν₁ (keeps good) bounded ns u os) (quantify-map _ byBytes ν₂ (keeps good') bounded ns' u' os')
      (quantified-alike n.names i j)) (λ s s' k.
      both (scheme-written T₁ T₂ s s' k))))))))))
    where
      quantified-alike : {xs ys : List Name} {u v : Ty Name} {os ps : List (Open Name)} → xs ≡ ys → u ≡ v → os ≡ ps
          → quantify byBytes bounded xs u os ≡ quantify byBytes bounded ys v ps
      quantified-alike e f g = rw (e, f, g)

  pub generalise-alike : (ws ws' bs bs' result result' work work' : List ℕ) → Alike good good' ws ws' → Alike good good' bs bs'
      → LentAlike result result' work work'
      → WrittenAlike T₁ T₂ (generaliseCall pool table ws bs result work) (generaliseCall pool' table' ws' bs' result' work')
  unfolding generaliseCall generalised
  generalise-alike ws ws' bs bs' result result' work work' e f r = rw (lent_alike good good' result result' work work' r)
      (writing-alike T₁ T₂ (lent pool' table' result' work') _ _ result result' work work'
      (checked (short (ws ∷ bs ∷ []) (ws' ∷ bs' ∷ []) (rw (as_long e, as_long f)))
      (checked (kept-alike good good')
      (onward _ _ (scheme-given good good' ws ws' e) (λ s s' i.
      onward _ _ (names-given good good' bs bs' f) (λ os os' j.
      checked (apart-alike good good' _ _ (scheme-opens good good' s s' i))
      (onward _ _ (through (generalise-map _ byBytes ν₁ (keeps good) bounded (map word_of os) s)
      (generalise-map _ byBytes ν₂ (keeps good') bounded (map word_of os') s')
      (ap₂ (λ (xs : List Name) (z : Scheme Name). generalise byBytes bounded xs z) j i)) (λ z z' k.
      both (scheme-written T₁ T₂ z z' k)))))))))

  pub instantiate-alike : (ws ws' ns ns' result result' work work' : List ℕ) → Alike good good' ws ws' → NumbersAlike T₁ T₂ ns ns'
      → LentAlike result result' work work'
      → WrittenAlike T₁ T₂ (instantiateCall pool table ws ns result work) (instantiateCall pool' table' ws' ns' result' work')
  unfolding instantiateCall instantiated
  instantiate-alike ws ws' ns ns' result result' work work' e n r = rw (lent_alike good good' result result' work work' r)
      (writing-alike T₁ T₂ (lent pool' table' result' work') _ _ result result' work work'
      (checked (two-checks (short (ws ∷ []) (ws' ∷ []) (rw (as_long e))) (few ns ns' (as_many n)))
      (checked (kept-alike good good')
      (onward _ _ (scheme-given good good' ws ws' e) (λ s s' i.
      checked (numbers-given good good' ns ns' n.names)
      (checked (apart-alike good good' _ _ (scheme-opens good good' s s' i))
      (onward _ _ (through (instantiate-map _ byBytes ν₁ (keeps good) bounded ns s) (instantiate-map _ byBytes ν₂ (keeps good') bounded ns' s')
      (ap₂ (λ (xs : List Name) (z : Scheme Name). instantiate byBytes bounded xs z) n.names i)) (λ z z' k.
      both (opened-written T₁ T₂ z.0 z'.0 z.1 z'.1 (ap (λ v. v.0) k) (ap (λ v. v.1) k))))))))))
