use Rattle.schemes_renaming.proofs.InTurn.{quantify-once}
use Rattle.schemes_renaming.proofs.quantifying_at_once.Goals as goal

pub returns : goal.returns
returns g c = λ ν held q o vs t bs h. quantify-once ν o.lawful held q o.tells vs t bs h.few h.well_formed h.unmixed_names
