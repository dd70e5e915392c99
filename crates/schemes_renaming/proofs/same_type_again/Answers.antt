use Rattle.schemes_renaming.proofs.Again.{type-again}
use Rattle.schemes_renaming.proofs.same_type_again.Goals as goal

pub returns : goal.returns
returns g c = λ ν held q o vs t h a. type-again ν o.lawful held q o.tells vs t h.few h.well_formed h.unmixed_names a
