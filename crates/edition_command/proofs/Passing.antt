-- Where the counts agree, every sheet passes.
use Rattle.std.proofs.Common.{◌≡◌, ◌≤◌, Bool, ℕ, List, ltb, ◌||◌, if◌then◌else◌, arith}
use Rattle.std.proofs.lemmas.Grind.{common_steps}
use Rattle.edition_verify.specs.Verifying.{Had}
use Rattle.edition_checks.proofs.Passing.{counts-pass, certified-pass}
use Rattle.edition_status.specs.declared.status.Status.{Status}
use Rattle.edition_status.specs.declared.status.Status.TheVariants.{Accepted, Refused}
use Rattle.edition_command.specs.Promise.{CountsBy, PassesBy}
use Rattle.edition_options.specs.declared.options.Form.{Form}
use Rattle.edition_options.specs.declared.options.Form.TheVariants.{Text, Json, Html, Verified}

pub agree-pass : (form : Form) (separate : Bool) (files : List Had) (sheets accepted : ℕ)
    → CountsBy form separate files sheets accepted → sheets ≤ accepted → PassesBy form separate files
agree-pass (Verified path) separate files sheets accepted c h = certified-pass files sheets accepted c h
agree-pass Text separate files sheets accepted c h = counts-pass separate files sheets accepted c h
agree-pass Json separate files sheets accepted c h = counts-pass separate files sheets accepted c h
agree-pass (Html path) separate files sheets accepted c h = counts-pass separate files sheets accepted c h

-- a run is accepted only where all sheets are
pub all-accepted : (sheets accepted : ℕ) (noted : Bool)
    → (if ltb accepted sheets || noted then Refused else Accepted) ≡ Accepted → sheets ≤ accepted
all-accepted sheets accepted noted h = grind (arith, common_steps)
