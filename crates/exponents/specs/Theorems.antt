-- What is proved of the calls by themselves. The functions of src/theorems.rt promise these statements.
use Rattle.std.specs.Prelude.{◌≡◌, ℕ, pos, negsuc, Result}
use Rattle.rules.specs.Base.{Got, got, refused}
use Rattle.rules.specs.Exponents.{Exp, frac}
use Rattle.rules.specs.Numbers.{power, number}
use Rattle.rules.specs.Refusals.{toldBy, numberAnswer}
use Rattle.rules.specs.Values.{sumCall, timesCall, negationCall, quotientCall}
use Rattle.rules.specs.Writing.{signed}
use Rattle.rules.specs.declared.Refusal.{Refusal}
use Rattle.exponents.specs.declared.Exponent.{Exponent}
use Rattle.exponents.specs.Answers.{expOf}

-- two results that a clause `toldBy expOf result ≡ g` allows are the same
abbrev pub OneAnswer : Got Exp → Type 0
OneAnswer g = (p q : Result Exponent Refusal) → toldBy expOf p ≡ g → toldBy expOf q ≡ g → p ≡ q

pub record CallsDetermined : Type 0 where
  pub adding : (a b : Exp) → OneAnswer (sumCall a b)
  pub multiplying : (a b : Exp) → OneAnswer (timesCall a b)
  pub dividing : (a b : Exp) → OneAnswer (quotientCall a b)
  pub negating : (a : Exp) → OneAnswer (negationCall a)
  pub reading : (b c : ℕ) (p q : Exponent) → expOf p ≡ frac (signed b) c → expOf q ≡ frac (signed b) c → p ≡ q

-- and the number of such a result is the rules': 0, or that of its refusal
abbrev pub Numbered : Got Exp → Type 0
Numbered g = (p : Result Exponent Refusal) → toldBy expOf p ≡ g → numberAnswer p ≡ number (power g)

pub record CallsNumbered : Type 0 where
  pub adding : (a b : Exp) → Numbered (sumCall a b)
  pub multiplying : (a b : Exp) → Numbered (timesCall a b)
  pub dividing : (a b : Exp) → Numbered (quotientCall a b)
  pub negating : (a : Exp) → Numbered (negationCall a)

-- a few answers, as a reader expects them
pub record ExamplesComputed : Type 0 where
  -- 1/2 - 1/3 = 1/6
  pub less-a-third : sumCall (frac (pos 1) 2) (frac (negsuc 0) 3) ≡ got (frac (pos 1) 6)
  -- 2/3 times 3/2 = 1
  pub times-inverse : timesCall (frac (pos 2) 3) (frac (pos 3) 2) ≡ got (frac (pos 1) 1)
  -- 1/2 divided by -3/4 = -2/3
  pub by-negative : quotientCall (frac (pos 1) 2) (frac (negsuc 2) 4) ≡ got (frac (negsuc 1) 3)
  pub by_zero : quotientCall (frac (pos 1) 2) (frac (pos 0) 1) ≡ refused 7
  -- the ends of the range
  pub largest : sumCall (frac (pos 2_147_483_646) 1) (frac (pos 1) 1) ≡ got (frac (pos 2_147_483_647) 1)
  pub past-largest : sumCall (frac (pos 2_147_483_647) 1) (frac (pos 1) 1) ≡ refused 7
  pub past-least : sumCall (frac (negsuc 2_147_483_646) 1) (frac (negsuc 0) 1) ≡ refused 7
  pub turned : negationCall (frac (negsuc 2_147_483_646) 1) ≡ got (frac (pos 2_147_483_647) 1)
  -- what is not well formed
  pub not-lowest : timesCall (frac (pos 2) 4) (frac (pos 1) 1) ≡ refused 1
  pub no-denominator : negationCall (frac (pos 1) 0) ≡ refused 1
  pub too_small : negationCall (frac (negsuc 2_147_483_647) 1) ≡ refused 1
