use Rattle.schemes_renaming.proofs.Again.{back-again}
use Rattle.schemes_renaming.proofs.quantified_and_back.Goals as goal

pub returns : goal.returns
returns g c = λ ν held q o vs t h a. back-again ν o.lawful held q o.tells vs t h.few h.well_formed h.unmixed_names a
