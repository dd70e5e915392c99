-- Every definition of the rules under one name: a proof by computation says `unfolding rules` and opens them all.
use Rattle.std.proofs.Math.Decide.{ℕ_discrete}
use Rattle.rules.specs.Base.{any, all, keep, list-dec, each, collect}
use Rattle.rules.specs.Exponents.{ℤ-dec, Exp-dec, gcdIn, gcd, lowest, in_range, goodExp, goodStored, neg, plus, mul, inverted, sum, times, negation, quotient}
use Rattle.rules.specs.Trees.{
  open-dec,
  product-dec,
  ty-dec,
  orderOpen,
  orderAtom,
  opens,
  size,
  depth,
  count,
  countFields,
  opensCon,
  sizeCon,
  depthCon,
  sizeBinding,
  depthBinding,
}
use Rattle.rules.specs.Products.{inverse, single, mergeOne, merge, multiply, divide, raise}
use Rattle.rules.specs.Names.{
  orderBytes,
  numbered,
  table_of,
  cut,
  names_of,
  used,
  lengthsGood,
  sameBytes,
  distinct,
  tableGood,
  number_of,
  lentTable,
  tableGiven,
  enterChecks,
  hasRoom,
  enterNew,
  enterKnown,
  enterChecked,
  enter,
  nameAsked,
}
use Rattle.rules.specs.Contents.{closed, variablesIn, parametersIn, namesIn, among, contains, containsName, fieldIn, sorted, sort, variables, unmixed}
use Rattle.rules.specs.Plain.{plainDim, plain}
use Rattle.rules.specs.Replacing.{asProduct, replaceFactors, replaceProduct, replaceDim, replaceTy, replaceCon, replaceBinding, find, bindings}
use Rattle.rules.specs.Adding.{countsDiffer, solid, kindsDiffer, addEqual, addDim, addTest, stored, add}
use Rattle.rules.specs.Rounds.{
  pairs,
  asProducts,
  variableLeft,
  functions,
  lists,
  bindTo,
  firstRules,
  structs,
  dimensions,
  by_kind,
  dimensionParts,
  otherSide,
  fieldStep,
  trySatisfy,
  taken,
  sizeState,
  depthState,
  limited,
  firstStep,
  perform,
  performed,
  round,
}
use Rattle.rules.specs.Solving.{boundOf, finished, finish, after, run, solve}
use Rattle.rules.specs.Schemes.{renamedBounds, schemeLimited, back, quantifies, quantifyFrom, quantify, generalise, put_back, instantiate}
use Rattle.rules.specs.Meaning.{means, amongBounds, holds, inProducts, productsOf}
use Rattle.rules.specs.Judging.{failed, judgeCon, judge, failing}
use Rattle.rules.specs.Writing.{
  head,
  kindIn,
  lengthIn,
  twos,
  by_sign,
  signed,
  writeFactor,
  writeProduct,
  writeTy,
  writeCon,
  writeBinding,
  writeBound,
  writeScheme,
  words,
}
use Rattle.rules.specs.Reading.{readFactors, readTys, readFields, readTy, readCon, readBinding, readBound, read_all, records, schemeOf}
use Rattle.rules.specs.WellFormed.{rising, goodOpen, goodFactor, goodProduct, goodTy, goodCon, goodBinding}
use Rattle.rules.specs.Values.{
  sumCall,
  timesCall,
  negationCall,
  quotientCall,
  kind_of,
  number_in,
  atomIn,
  value_of,
  factorIn,
  factorsIn,
  productValue,
  productIn,
  productGiven,
  multiplyCall,
  divideCall,
  inverseCall,
  raiseCall,
}
use Rattle.rules.specs.Calls.{
  lentResult,
  lentWork,
  lent,
  shortLists,
  shortNumbers,
  only,
  listGiven,
  tableKept,
  setGiven,
  typeGiven,
  bindingsGiven,
  boundsGiven,
  goodScheme,
  schemeGiven,
  numbersGiven,
  apart,
  opensBinding,
  opensScheme,
  over,
  resultAfter,
  workAfter,
  writing,
  listing,
  aloneGiven,
  setCall,
  typeCall,
  schemeCall,
  bindingsCall,
  containsCall,
  closedCall,
  variablesCall,
  replacedType,
  replacedSet,
  replaceTypeCall,
  replaceSetCall,
  bufferAfter,
  addedTo,
  addCall,
  solvedOf,
  solvedWords,
  solvedSet,
  solveCall,
  quantified,
  generalised,
  instantiated,
  quantifyCall,
  generaliseCall,
  instantiateCall,
  differ,
  type_at,
  bindingOf,
  entriesGiven,
  risingBounds,
  judgedSet,
  judgeCall,
}

unfoldable pub rules : Type 0
unfolding ℕ_discrete any all keep list-dec each collect ℤ-dec Exp-dec gcdIn gcd lowest in_range goodExp goodStored neg plus mul inverted sum times negation
    quotient open-dec product-dec ty-dec orderOpen orderAtom opens size depth count countFields opensCon sizeCon depthCon sizeBinding depthBinding inverse
    single mergeOne merge multiply divide raise orderBytes numbered table_of cut names_of used lengthsGood sameBytes distinct tableGood number_of lentTable
    tableGiven enterChecks hasRoom enterNew enterKnown enterChecked enter nameAsked closed variablesIn parametersIn namesIn among contains containsName
    fieldIn sorted sort variables unmixed plainDim plain asProduct replaceFactors replaceProduct replaceDim replaceTy replaceCon replaceBinding find bindings
    countsDiffer solid kindsDiffer addEqual addDim addTest stored add pairs asProducts variableLeft functions lists bindTo firstRules structs dimensions
    by_kind dimensionParts otherSide fieldStep trySatisfy taken sizeState depthState limited firstStep perform performed round boundOf finished finish after
    run solve renamedBounds schemeLimited back quantifies quantifyFrom quantify generalise put_back instantiate means amongBounds holds inProducts productsOf
    failed judgeCon judge failing head kindIn lengthIn twos by_sign signed writeFactor writeProduct writeTy writeCon writeBinding writeBound writeScheme words
    readFactors readTys readFields readTy readCon readBinding readBound read_all records schemeOf rising goodOpen goodFactor goodProduct goodTy goodCon
    goodBinding sumCall timesCall negationCall quotientCall kind_of number_in atomIn value_of factorIn factorsIn productValue productIn productGiven
    multiplyCall divideCall inverseCall raiseCall lentResult lentWork lent shortLists shortNumbers only listGiven tableKept setGiven typeGiven bindingsGiven
    boundsGiven goodScheme schemeGiven numbersGiven apart opensBinding opensScheme over resultAfter workAfter writing listing aloneGiven setCall typeCall
    schemeCall bindingsCall containsCall closedCall variablesCall replacedType replacedSet replaceTypeCall replaceSetCall bufferAfter addedTo addCall solvedOf
    solvedWords solvedSet solveCall quantified generalised instantiated quantifyCall generaliseCall instantiateCall differ type_at bindingOf entriesGiven
    risingBounds judgedSet judgeCall
rules = Unit {0}
