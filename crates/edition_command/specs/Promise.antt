-- What it means that files come to the status 0; and which words ask for help or the version alone, which come to it too.
use Rattle.std.specs.Prelude.{Bool, false, ℕ, List, [], ◌∷◌, codes}
use Rattle.std.specs.List.{list_any}
use Rattle.std.specs.Str.{bytes_eq}
use Rattle.rules.specs.Names.{Bytes}
use Rattle.edition_verify.specs.Verifying.{Had}
use Rattle.edition_checks.specs.Counts.{CountsOf, CountsCertified, Passed, PassedCertified}
use Rattle.edition_options.specs.declared.options.Form.{Form}
use Rattle.edition_options.specs.declared.options.Form.TheVariants.{Verified}

-- help or the version: the one word behind the program's name
unfoldable pub isHelp : Bytes → Bool
isHelp word = list_any (bytes_eq word) (codes "-h" ∷ codes "--help" ∷ codes "-V" ∷ codes "--version" ∷ [])

abbrev pub asksAlone : List Bytes → Bool
asksAlone (program ∷ word ∷ []) = isHelp word
asksAlone words = false

-- what is counted of files: by a certificate, or else of one edition, or of each as an edition by itself
abbrev pub CountsBy : Form → Bool → List Had → ℕ → ℕ → Type 0
CountsBy (Verified path) separate files sheets accepted = CountsCertified files sheets accepted
CountsBy form separate files sheets accepted = CountsOf separate files sheets accepted

-- every sheet of them passes: this is what the status 0 means
abbrev pub PassesBy : Form → Bool → List Had → Type 0
PassesBy (Verified path) separate files = PassedCertified files
PassesBy form separate files = Passed separate files
