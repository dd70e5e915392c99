-- What adding's Violated is worth (the request on adding): a line that is shown as final. The words stand in Excepted, the proofs in Unmet, the sets in
-- Instances.
use Rattle.std.specs.Prelude.{◌≡◌, Bool, true, false, ℕ}
use Rattle.std.proofs.Common.{sym, ap, ◌∙◌}
use mathlib.Core.List.{List, [], ◌∷◌, Memᴰ}
use Rattle.rules.specs.Base.{got, bounded}
use Rattle.rules.specs.Trees.{Names, Con, Binding}
use Rattle.rules.specs.Contents.{closed}
use Rattle.rules.specs.Plain.{plain}
use Rattle.rules.specs.Adding.{violated, addTest}
use Rattle.rules.specs.Solving.{accepted, solve}
use Rattle.rules.specs.Meaning.{TrueUnder, Premise}
use Rattle.rules.specs.Judging.{judge}
use Rattle.rules.specs.Names.{table_of, numbersOf}
use Rattle.rules.specs.Rules.{rules}
use Rattle.laws.specs.Lists.{in_head}
use Rattle.laws.proofs.Lists.{true≢false}
use Rattle.theorems_soundness.specs.Claims.{Ordered, Given, Fails, SoundAnswer}
use Rattle.theorems_soundness.specs.Excepted.{OtherFields, ViolatedLine}
use Rattle.theorems_soundness.proofs.Alike.{same-means}
use Rattle.theorems_soundness.proofs.Runs as Runs
use Rattle.theorems_soundness.proofs.Judged as Judged
use Rattle.theorems_soundness.proofs.Unmet as Unmet
use Rattle.theorems_soundness.specs.Examples.{names, held, fields, product-left, product, products, products-bindings}
use Rattle.theorems_soundness.proofs.Instances.{
  ordered,
  fields-given,
  fields-accepted,
  fields-premise,
  fields-violated,
  products-given,
  products-accepted,
  products-judged,
  product-violated,
}

-- ══ A Violated constraint has no solution, except for one exception ══

module _ {N : Type 0} (ν : Names N) where
  -- whatever the bindings and bounds, and whoever proposed them: they don't make it true
  pub violated-final : (c : Con N) → addTest ν c ≡ violated → (bs : List (Binding N)) (bounds : List N) → TrueUnder ν bs bounds c → OtherFields ν c
  violated-final c says bs bounds holding = Unmet.untrue ν bs bounds c says holding

  -- the exception is exact: such an equality is answered Violated (Unmet's `other-violated`), and is true under all bindings and bounds
  pub exception-true : (c : Con N) → OtherFields ν c → (bs : List (Binding N)) (bounds : List N) → TrueUnder ν bs bounds c
  exception-true c other bs bounds = Unmet.other-true ν bs bounds c other

  -- it is about fields alone: reading (`plain`) changes neither type, and leaving out the fields of structs makes them equal
  pub exception-fields : (c : Con N) (o : OtherFields ν c)
      → (plain o.left true ≡ o.left) × (plain o.right true ≡ o.right) × (plain o.left false ≡ plain o.right false)
  exception-fields c o = (Unmet.unread o.left o.left-closed, Unmet.unread o.right o.right-closed, same-means ν o.left o.right o.same-meaning)

  -- ══ So no accepted set holds one, under the premise of soundness; nor does the judge say yes to a set that does ══

  pub none-violated : (held : N → Bool) (order : Ordered ν held) (cs : List (Con N)) (given : Given ν held cs) (bs : List (Binding N))
      (bounds : List N) (rounds : ℕ)
      → solve ν bounded cs ≡ accepted bs bounds rounds → Premise ν cs bs → (c : Con N) → Memᴰ c cs → addTest ν c ≡ violated → OtherFields ν c
  none-violated held order cs given bs bounds rounds accepts premise c within says =
      violated-final c says bs bounds (Runs.solves ν held order cs bs bounds given rounds accepts premise c within)

  pub none-judged : (cs : List (Con N)) (bs : List (Binding N)) (bounds : List N) → judge ν bounded bs bounds cs ≡ got true → (c : Con N) → Memᴰ c cs
      → addTest ν c ≡ violated → OtherFields ν c
  none-judged cs bs bounds judged c within says = violated-final c says bs bounds (Judged.yes-solves ν bs bounds cs judged c within)

-- ══ The calls on words ══

module _ (pool table con : List ℕ) where
  -- what `addCall` answers Violated was read as a constraint (Unmet's `add-call`); an answer that `solveCall` accepted, of a set that holds it
  pub accepted-line : {set result work : List ℕ} {records bounds rounds : ℕ} (line : ViolatedLine pool table con)
      (answer : SoundAnswer pool table set result work records bounds rounds)
      → Premise (numbersOf (table_of pool table)) answer.cs answer.bs → Memᴰ line.constraint answer.cs
      → OtherFields (numbersOf (table_of pool table)) line.constraint
  accepted-line line answer premise within = line.final answer.bs answer.ns (answer.sound premise line.constraint within)

-- ══ The exception is real, and the premise is needed ══

-- P{} = P{f: boolean} is Violated on adding, and solving accepts it in 1 round, under the premise
pub exception-met : OtherFields names fields
exception-met = none-violated names held ordered (fields ∷ []) fields-given [] [] 1 fields-accepted fields-premise fields in_head fields-violated

pub exception-needed : ¬ ((cs : List (Con ℕ)) (bs : List (Binding ℕ)) (bounds : List ℕ) (rounds : ℕ) → Given names held cs
    → solve names bounded cs ≡ accepted bs bounds rounds → Premise names cs bs → (c : Con ℕ) → Memᴰ c cs → ¬ (addTest names c ≡ violated))
exception-needed claim = claim (fields ∷ []) [] [] 1 fields-given fields-accepted fields-premise fields in_head fields-violated

-- {x y = boolean, y = scalar} is accepted with x y = boolean Violated, and that is no such equality: x, in a product, is bound to boolean. The judge
-- says no to it
pub product-fails : Fails names products products-bindings []
product-fails = Judged.no-fails names products-bindings [] products products-judged

no-exception : ¬ (OtherFields names product)
unfolding rules
no-exception o = let l : product-left ≡ o.left = cc in true≢false (sym (ap closed l ∙ o.left-closed))

pub premise-needed : ¬ ((cs : List (Con ℕ)) (bs : List (Binding ℕ)) (bounds : List ℕ) (rounds : ℕ) → Given names held cs
    → solve names bounded cs ≡ accepted bs bounds rounds → (c : Con ℕ) → Memᴰ c cs → addTest names c ≡ violated → OtherFields names c)
premise-needed claim = no-exception (claim products products-bindings [] 2 products-given products-accepted product in_head product-violated)
