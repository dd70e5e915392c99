-- What is kept of sheets for a certificate: lines made from a page, and a sheet more.
use Rattle.std.specs.Prelude.{◌≡◌, Bool, ◌&&◌, if◌then◌else◌, eqb, ℕ, List, [], ◌∷◌, ◌++◌, drop, map, Option, None, Some}
use lib.Pointwise.{pointwise}
use Rattle.std.specs.List.{starts_with, slice_split, list_any}
use Rattle.sha2.specs.Sha256.{sha256}
use Rattle.rules.specs.Base.{collect}
use Rattle.rules.specs.Grammar.{ascii}
use Rattle.rules.specs.Names.{Bytes}
use Rattle.edition_certificate_file.specs.declared.Entry.{Entry}
use Rattle.edition_certificate_file.specs.Files.{Kept, keptOf, writtenName}
use Rattle.edition_certificate_file.specs.Reading.{isKept, lineFeed}
use Rattle.edition_certificate_file.specs.Writable.{beginsBlank, indentedLine}
use Rattle.edition_certified.specs.declared.Verdict.{Verdict}
use Rattle.edition_verify.specs.Verifying.{KeptOf, NotKept}

-- a page shows a bound without a mark, and a certificate has one there; a row that begins with the mark is a binding's
abbrev pub marked : Bytes → Bytes
marked row = if starts_with eqb row (ascii "?") then row else ascii "?" ++ row

-- of a page's line that begins with two blanks the line of a certificate, with its line feed
abbrev pub certifiedLine : Bytes → Bytes
certifiedLine line = if beginsBlank line then indentedLine (marked (drop 2 line)) else []

-- of a page the lines below its first
unfoldable pub certifiedLines : Bytes → Bytes
certifiedLines page = collect certifiedLine (drop 1 (slice_split lineFeed page))

-- what is kept of a sheet more stands behind the others, unless one of its name is there
abbrev pub withEntry : List Entry → Entry → List Entry
withEntry es e = if isKept e.name.items (map keptOf es) then es else es ++ e ∷ []

-- what is kept once a sheet is added
pub record Added (name text lines : Bytes) (old new : List Entry) : Type 0 where
  pub entry : Entry
  pub kept : KeptOf name text lines entry
  pub added : new ≡ withEntry old entry

-- a sheet more; or nothing is kept of it, and what is judged of its lines
abbrev pub IsAdded : Bytes → Bytes → Bytes → List Entry → List Entry → Option Verdict → Type 0
IsAdded name text lines old new None = Added name text lines old new
IsAdded name text lines old new (Some v) = (new ≡ old) × NotKept text lines v

-- what is kept is a file's: it has its name as it is written, and the digest of its bytes
abbrev pub isFile : Bytes → List ℕ → Kept → Bool
isFile name digest k = pointwise eqb k.name name && pointwise eqb k.digest digest

abbrev pub holdsFile : Bytes → Bytes → List Entry → Bool
holdsFile name text es = list_any (isFile (writtenName name) (sha256 text)) (map keptOf es)
