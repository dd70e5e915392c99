-- Why a sheet isn't accepted: where constraints remain, the lines among them that conflict, told under its page.
use Rattle.std.specs.Prelude.{Bool, true, false, List, [], ◌++◌, map, ℕ, length}
use Rattle.std.proofs.Math.Option.{Option, none, some}
use Rattle.rules.specs.Base.{Got, got, refused, collect}
use Rattle.rules.specs.Conflicts.{Line, conflictOf}
use Rattle.rules.specs.Grammar.{ascii}
use Rattle.rules.specs.Names.{Bytes, Table, table_of}
use Rattle.rules.specs.Writing.{words, writeCon}
use Rattle.rules.specs.declared.Shown.{Shown}
use Rattle.rules.specs.Reports.{
  Finding,
  unseen,
  unread,
  agrees,
  denied,
  unjudged,
  remains,
  stops,
  findingOf,
  Content,
  holding,
  refusing,
  lacking,
  Page,
  pageShown,
  Edition,
  acceptedIn,
  totalText,
  shown,
  amount,
  constraintLine,
  lineIn,
  partShown,
  refusedText,
}

-- lines that conflict are looked for in a set of which constraints remain, and nowhere else
abbrev pub ifRemains : Finding → Got (Option (List (Line ℕ))) → Got (Option (List (Line ℕ)))
ifRemains (unseen u) m = got none
ifRemains (unread n l c) m = got none
ifRemains (agrees bs ns k) m = got none
ifRemains (denied i) m = got none
ifRemains (unjudged n) m = got none
ifRemains (remains ds k) m = m
ifRemains (stops n k) m = got none

abbrev pub conflictIn : Table → Content → Got (Option (List (Line ℕ)))
conflictIn t (holding cs) = conflictOf t (words (collect writeCon cs))
conflictIn t (refusing n l c) = got none
conflictIn t (lacking u) = got none

unfoldable pub conflictOn : Table → Content → Got (Option (List (Line ℕ)))
conflictOn t c = ifRemains (findingOf t c) (conflictIn t c)

-- ══ What is told of it ══

unfoldable pub conflictHead : Bytes
conflictHead = ascii "  these lines conflict, and without any one of them the others don't:\n"

-- where 7 or 8 is met on the way
unfoldable pub unknownText : ℕ → Bytes
unknownText n = ascii "  looking for lines that conflict: " ++ (refusedText n ++ ascii "\n")

abbrev pub numbered : ℕ → Bytes
numbered n = ascii ":" ++ (amount n ++ ascii ":")

-- of a sheet with this name and this text
module _ (name text : Bytes) where
  -- the line with this number, behind its place as editors and build tools read it
  abbrev pub lineTold : ℕ → Bytes
  lineTold n = ascii "  " ++ (map shown name ++ (numbered n ++ partShown 0 (lineIn n text)))

  -- the line of the constraint k, counted from 0
  unfoldable pub whyLine : ℕ → Bytes
  whyLine k = lineTold (constraintLine k text)

  abbrev pub whyShown : Got (Option (List (Line ℕ))) → Bytes
  whyShown (got none) = []
  whyShown (got (some ls)) = conflictHead ++ collect whyLine (map (λ l. l.0) ls)
  whyShown (refused n) = unknownText n

unfoldable pub whyText : Table → Page → Bytes
whyText t p = whyShown p.name p.text (conflictOn t p.content)

-- ══ An edition with it ══

-- a page is followed by its why, if that was asked for
abbrev pub pageTold : Bool → Shown → Table → Page → Bytes
pageTold false = pageShown
pageTold true = λ how t p. pageShown how t p ++ whyText t p

unfoldable pub editionTold : Bool → Shown → Edition → Bytes
editionTold why how e = collect (pageTold why how t) e.pages ++ totalText (length e.pages) (acceptedIn t e.pages) t.count
  where
    t : Table
    t = table_of e.pool e.table

-- with every why
abbrev pub editionWhy : Shown → Edition → Bytes
editionWhy how e = editionTold true how e
