-- Signs of several bytes, and the types without a type inside.
use Rattle.rules.specs.Names.{Bytes}
use Rattle.rules.specs.Grammar.{Rule, skip, spell}

-- a sign's bytes, behind blanks
abbrev pub spelled : Bytes → Rule (Unit {0})
spelled ws = λ p. spell ws (skip p)
