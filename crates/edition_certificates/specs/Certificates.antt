-- What a certificate proposes, and what is said to it. A certificate is a set of lines `?x ~ type` and `?x: DType`, over the names of a sheet.
use Rattle.std.specs.Prelude.{List, [], ◌∷◌, ◌++◌, map, ℕ, ◌+◌, replicate, Bool, true, false, Option, Some, None, is_some}
use Rattle.std.proofs.Math.Option as may
use Rattle.rules.specs.Base.{Got, ◌>>=◌, ◌>>◌, need, all}
use Rattle.rules.specs.Trees.{Ty, Con, equal, isDim, is_scalar, hasField, Binding, ◌≔◌, var, sizeCon}
use Rattle.rules.specs.Names.{table_of}
use Rattle.rules.specs.Views.{asVar}
use Rattle.rules.specs.Writing.{words, writeBound}
use Rattle.rules.specs.Calls.{setCall, setGiven, judgeCall}
use Rattle.judge_pairs.specs.Pairs.{entriesIn}
use Rattle.edition_certificates.specs.declared.inner.Line.{Line}
use Rattle.edition_certificates.specs.declared.inner.Line.TheVariants.{Binds, Bounds}

-- ══ Lines ══

abbrev pub saying : Bool → may.Option ℕ → Option Line
saying binds may.none = None
saying true (may.some x) = Some (Binds x)
saying false (may.some x) = Some (Bounds x)

-- what is said of a variable, if a type is one
abbrev pub ofVariable : Bool → Ty ℕ → Option Line
ofVariable binds t = saying binds (asVar t)

-- `?x ~ type` binds x, `?x: DType` bounds it; no other line says anything
unfoldable pub lineOf : Con ℕ → Option Line
lineOf (equal l r) = ofVariable true l
lineOf (isDim t) = ofVariable false t
lineOf (is_scalar p) = None
lineOf (hasField x t u) = None

-- the variable of a line that binds, and the place of its right side: behind the record that begins the line, and the variable's
abbrev pub pairOf : ℕ → Option Line → List ℕ
pairOf at None = []
pairOf at (Some (Binds x)) = x ∷ (at + 2) ∷ []
pairOf at (Some (Bounds x)) = []

-- those of all lines, the first at a place
unfoldable pub pairsOf : ℕ → List (Con ℕ) → List ℕ
pairsOf at [] = []
pairsOf at (c ∷ cs) = pairOf at (lineOf c) ++ pairsOf (at + sizeCon c) cs

-- the name of a line that bounds one
abbrev pub nameOf : Option Line → List ℕ
nameOf None = []
nameOf (Some (Binds x)) = []
nameOf (Some (Bounds x)) = x ∷ []

unfoldable pub boundNames : List (Con ℕ) → List ℕ
boundNames [] = []
boundNames (c ∷ cs) = nameOf (lineOf c) ++ boundNames cs

-- as records
abbrev pub boundWords : List ℕ → List ℕ
boundWords ns = words (map (λ n. writeBound (var n)) ns)

abbrev pub boundsOf : List (Con ℕ) → List ℕ
boundsOf ds = boundWords (boundNames ds)

-- what all lines together say that variables stand for
abbrev pub boundTo : Ty ℕ → may.Option ℕ → List (Binding ℕ)
boundTo t may.none = []
boundTo t (may.some x) = x ≔ t ∷ []

unfoldable pub bindingsIn : List (Con ℕ) → List (Binding ℕ)
bindingsIn [] = []
bindingsIn (equal l r ∷ cs) = boundTo r (asVar l) ++ bindingsIn cs
bindingsIn (isDim t ∷ cs) = bindingsIn cs
bindingsIn (is_scalar p ∷ cs) = bindingsIn cs
bindingsIn (hasField x t u ∷ cs) = bindingsIn cs

unfoldable pub proposes : Con ℕ → Bool
proposes c = is_some (lineOf c)

-- ══ The verdict ══

module _ (pool table set certificate : List ℕ) where
  -- the judge on these pairs and bounds
  abbrev pub judged : List ℕ → List ℕ → Got Bool
  judged pairs bounds = (judgeCall pool table set (entriesIn pairs) certificate bounds (replicate 16384 0)).answer

  unfoldable pub verified : Got Bool
  verified = do
    setCall pool table certificate
    ds ← setGiven (table_of pool table) certificate
    need (all proposes ds) 12
    judged (pairsOf 0 ds) (boundsOf ds)
