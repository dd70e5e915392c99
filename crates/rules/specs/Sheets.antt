-- Every definition of sheets as text under one name: a proof by computation says `unfolding sheets` (and `rules`) and opens them all.
use Rattle.rules.specs.Grammar.{
  lines_of,
  isBlank,
  isDigit,
  is_plain,
  hexOf,
  skipFrom,
  skip,
  spellFrom,
  spell,
  nameFrom,
  name,
  digitsFrom,
  digitsAt,
  power,
  factor,
  moreFactors,
  dimension,
  moreTys,
  function,
  listed,
  moreFields,
  structure,
  type,
  typed,
  hasField,
  constraint,
  signsAt,
  line,
}
use Rattle.rules.specs.TextReading.{
  counted,
  enterName,
  named,
  powerOf,
  multiplied,
  factorsOf,
  productOf,
  ty_of,
  conOf,
  meant,
  lineRead,
  lines_read,
  sheetRead,
  sheetGiven,
  readTextCall,
}
use Rattle.rules.specs.TextWriting.{
  hexDigit,
  escaped,
  nameText,
  decimal,
  numeratorText,
  denominatorText,
  powerText,
  openText,
  factorText,
  moreFactorsText,
  factorsText,
  dimensionText,
  tyText,
  conText,
  setText,
  text_of,
  writeTextCall,
}

unfoldable pub sheets : Type 0
unfolding lines_of isBlank isDigit is_plain hexOf skipFrom skip spellFrom spell nameFrom name digitsFrom digitsAt power factor moreFactors dimension moreTys
    function listed moreFields structure type typed hasField constraint signsAt line counted enterName named powerOf multiplied factorsOf productOf ty_of
    conOf meant lineRead lines_read sheetRead sheetGiven readTextCall hexDigit escaped nameText decimal numeratorText denominatorText powerText openText
    factorText moreFactorsText factorsText dimensionText tyText conText setText text_of writeTextCall
sheets = Unit {0}
