-- What is had of a file that is lent.
use Rattle.edition.specs.Files.{text_of}
use Rattle.edition.specs.declared.model.File.{File}
use Rattle.edition_verify.specs.Verifying.{Had}

unfoldable pub had : File → Had
had f = (f.name.now, text_of f)
