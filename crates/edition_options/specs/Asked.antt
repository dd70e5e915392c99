-- What a command line asks for: the files that its options name.
use Rattle.std.specs.Prelude.{Bool, true, false, ℕ, List, codes, Option, Some, option_map}
use Rattle.std.specs.Borrow.{Bor}
use Rattle.edition_options.specs.declared.options.Form.{Form}
use Rattle.edition_options.specs.declared.options.Form.TheVariants.{Html, Verified}
use Rattle.edition_options.specs.declared.options.Options.{Options}
use Rattle.edition_options.specs.declared.output.Output.{Output}
use Rattle.edition_options.specs.declared.output.Output.TheVariants.{Certificate, Page}

-- the file that something is written into
abbrev pub fileOf : Output → Bor (List ℕ)
fileOf (Certificate path) = path
fileOf (Page path) = path

-- what is written, in words
abbrev pub kindOf : Output → List ℕ
kindOf (Certificate path) = codes "certificate"
kindOf (Page path) = codes "page of this program"

-- a page is written where one is asked for, else the certificate that is
abbrev pub outputBy : Form → Option (Bor (List ℕ)) → Option Output
outputBy (Html path) kept = Some (Page path)
outputBy form kept = option_map Certificate kept

abbrev pub outputOf : Options → Option Output
outputOf o = outputBy o.form o.certificate

-- an option names the certificate that sheets are judged by, else the file that is written
abbrev pub pathBy : Form → Option Output → Option (Bor (List ℕ))
pathBy (Verified path) written = Some path
pathBy form written = option_map fileOf written

abbrev pub pathOf : Options → Option (Bor (List ℕ))
pathOf o = pathBy o.form (outputOf o)

-- a page to look at
abbrev pub isPage : Form → Bool
isPage (Html path) = true
isPage form = false
