-- What is said of files by a certificate, with nothing solved.
use Rattle.std.specs.Prelude.{
  ◌≡◌,
  Bool,
  true,
  false,
  not,
  if◌then◌else◌,
  ℕ,
  eqb,
  ◌+◌,
  ◌-◌,
  List,
  [],
  ◌∷◌,
  ◌++◌,
  map,
  length,
  Option,
  Some,
  None,
  Result,
  Ok,
  Err,
}
use Rattle.sha2.specs.Sha256.{sha256}
use Rattle.rules.specs.Base.{any, collect, oneIf, sum_of}
use Rattle.rules.specs.Grammar.{ascii}
use Rattle.rules.specs.Names.{Bytes, sameBytes}
use Rattle.rules.specs.Reports.{amount, quantity, refusedText, shown, unseenText}
use Rattle.rules.specs.declared.Unseen.{Unseen}
use Rattle.edition_certificate_file.specs.Files.{writtenName}
use Rattle.edition_certificate_file.specs.declared.Entry.{Entry}
use Rattle.edition_certified.specs.Certified.{Said, yes, changed, unread, linesUnread, untrue, refusedAs, certified, said}
use Rattle.edition_certified.specs.Truth.{Certified}
use Rattle.edition_certified.specs.declared.Verdict.{Verdict}
use Rattle.edition_verify.specs.declared.Answer.{Answer}
use Rattle.edition_verify.specs.declared.Answer.TheVariants as answer

-- what is had of a file: its name, and its bytes, or why they can't be had
abbrev pub Had : Type 0
Had = Bytes × Result Bytes Unseen

-- ══ What is said of a file ══

-- what the certificate keeps under a name, the first if there are several
unfoldable pub findEntry : Bytes → List Entry → Option Entry
findEntry name [] = None
findEntry name (e ∷ es) = if sameBytes e.name.items name then Some e else findEntry name es

-- it keeps nothing of the file; the file can't be had; the digest and the lines that it keeps, judged over the file
pub data Word : Type 0 where
  unkept : Word
  unseen : Unseen → Word
  judged : Said → Word

abbrev pub wordBy : Entry → Result Bytes Unseen → Word
wordBy e (Ok text) = judged (certified e.digest text e.lines.items)
wordBy e (Err why) = unseen why

abbrev pub wordFrom : Option Entry → Result Bytes Unseen → Word
wordFrom None text = unkept
wordFrom (Some e) text = wordBy e text

unfoldable pub wordOf : List Entry → Had → Word
wordOf es h = wordFrom (findEntry (writtenName h.0) es) h.1

-- the code's answer as that of the definition
abbrev pub word : Answer → Word
word answer.Unkept = unkept
word (answer.Unseen why) = unseen why
word (answer.Judged v) = judged (said v)

abbrev pub isYesSaid : Said → Bool
isYesSaid yes = true
isYesSaid changed = false
isYesSaid (unread n l c) = false
isYesSaid (linesUnread n l c) = false
isYesSaid untrue = false
isYesSaid (refusedAs n) = false

abbrev pub isYes : Word → Bool
isYes unkept = false
isYes (unseen why) = false
isYes (judged s) = isYesSaid s

-- ══ What a yes is worth ══

abbrev pub CertifiedBy : Entry → Result Bytes Unseen → Type 0
CertifiedBy e (Ok text) = Certified e.digest text e.lines.items
CertifiedBy e (Err why) = ⊥

-- the certificate keeps a sheet of this name, the file has its digest, and by its lines each of the file's constraints is true
pub record TrueBy (es : List Entry) (h : Had) : Type 0 where
  pub entry : Entry
  pub kept : findEntry (writtenName h.0) es ≡ Some entry
  pub certified : CertifiedBy entry h.1

abbrev pub YesIsTrue : List Entry → Had → Type 0
YesIsTrue es h = isYes (wordOf es h) ≡ true → TrueBy es h

-- what is kept of a sheet, under its name and with the lines that were given: they are judged to make each constraint of its file true, and do
pub record KeptOf (name text lines : Bytes) (e : Entry) : Type 0 where
  pub named : e.name.items ≡ writtenName name
  pub given : e.lines.items ≡ lines
  pub verified : certified (sha256 text) text lines ≡ yes
  pub certified : Certified e.digest text e.lines.items

-- nothing is kept: what is judged of the lines, which isn't yes
pub record NotKept (text lines : Bytes) (v : Verdict) : Type 0 where
  pub told : said v ≡ certified (sha256 text) text lines
  pub no : isYesSaid (said v) ≡ false

abbrev pub IsKeptOf : Bytes → Bytes → Bytes → Result Entry Verdict → Type 0
IsKeptOf name text lines (Ok e) = KeptOf name text lines e
IsKeptOf name text lines (Err v) = NotKept text lines v

-- ══ As text ══

-- why lines that were read are refused: 1 and 12 have other causes there than in a sheet
abbrev pub linesRefused : ℕ → Bytes
linesRefused n = if eqb n 1 then ascii "not accepted (1): a variable is bound twice, or bounded names don't rise by their bytes\n"
    else (if eqb n 12 then ascii "not accepted (12): a line is neither ?x ~ type nor ?x: DType\n" else (refusedText n ++ ascii "\n"))

abbrev pub saidText : Said → Bytes
saidText yes = ascii ": verified\n"
saidText changed = ascii ": not verified: the file isn't the one that was certified: its digest is another\n"
saidText (unread n l c) = ascii ":" ++ (amount l ++ (ascii ":" ++ (amount c ++ (ascii ": not verified: " ++ (refusedText n ++ ascii "\n")))))
saidText (linesUnread n l c) = ascii ": not verified: of the certificate's lines for it line "
    ++ (amount l ++ (ascii ", column " ++ (amount c ++ (ascii ", is " ++ (refusedText n ++ ascii "\n")))))
saidText untrue = ascii ": not verified: a constraint isn't true by the certificate's lines\n"
saidText (refusedAs n) = ascii ": not verified: the certificate's lines for it are " ++ linesRefused n

abbrev pub wordText : Word → Bytes
wordText unkept = ascii ": not verified: the certificate has no such sheet\n"
wordText (unseen why) = ascii ": " ++ unseenText why
wordText (judged s) = saidText s

-- a file's line
unfoldable pub fileText : List Entry → Had → Bytes
fileText es h = map shown h.0 ++ wordText (wordOf es h)

unfoldable pub isNamed : List Had → Entry → Bool
isNamed hs e = any (λ (h : Had). sameBytes e.name.items (writtenName h.0)) hs

-- the line of a sheet that the certificate keeps and that wasn't named
abbrev pub otherWhere : Bool → Entry → Bytes
otherWhere true e = []
otherWhere false e = map shown e.name.items ++ ascii ": not verified: it stands in the certificate and wasn't named\n"

abbrev pub otherText : List Had → Entry → Bytes
otherText hs e = otherWhere (isNamed hs e) e

unfoldable pub lastText : ℕ → ℕ → Bytes
lastText sheets verified = quantity sheets (ascii " sheet") ++ (ascii ", " ++ (amount verified ++ (ascii " verified, " ++ (amount (sheets - verified)
    ++ ascii " not verified\n"))))

-- ══ Counted ══

abbrev pub verifiedIn : List Entry → List Had → ℕ
verifiedIn es hs = sum_of (λ (h : Had). oneIf (isYes (wordOf es h))) hs

abbrev pub othersIn : List Had → List Entry → ℕ
othersIn hs es = sum_of (λ (e : Entry). oneIf (not (isNamed hs e))) es

abbrev pub sheetsIn : List Entry → List Had → ℕ
sheetsIn es hs = length hs + othersIn hs es

-- the whole: the files in order, then the sheets of the certificate that aren't among them
unfoldable pub verifiedText : List Entry → List Had → Bytes
verifiedText es hs = collect (fileText es) hs ++ (collect (otherText hs) es ++ lastText (sheetsIn es hs) (verifiedIn es hs))
