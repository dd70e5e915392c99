-- What one record says: its view, with the words that it doesn't use tested, and the length of the part that it begins.
use Rattle.std.specs.Prelude.{Bool, true, false, List, [], ◌∷◌, ℕ, ◌*◌, eqb, drop}
use Rattle.rules.specs.Base.{all}
use Rattle.rules.specs.Writing.{Rec, rec, head, kindIn, lengthIn}
use Rattle.records.specs.declared.Open.{Open}
use Rattle.records.specs.declared.Open.TheVariants.{Var, Quant, Par}
use Rattle.records.specs.declared.Atom.{Atom}
use Rattle.records.specs.declared.Atom.TheVariants.{Free, Base}
use Rattle.records.specs.declared.Basic.{Basic}
use Rattle.records.specs.declared.Words.{Words}
use Rattle.records.specs.declared.Basic.TheVariants.{Boolean, Text, Datetime}
use Rattle.records.specs.declared.View.{View}
use Rattle.records.specs.declared.View.TheVariants as view

abbrev pub either : Bool → View → View → View
either true v w = v
either false v w = w

-- v, where these words are 0
unfoldable pub plain : List ℕ → View → View
plain ws v = either (all (λ w. eqb w 0) ws) v view.Bad

-- the view that a table gives for a kind
abbrev pub pick : ℕ → List (ℕ × View) → View
pick k [] = view.Bad
pick k (x ∷ xs) = either (eqb k x.0) x.1 (pick k xs)

abbrev pub boundTable : ℕ → ℕ → List (ℕ × View)
boundTable a c = (0, plain (c ∷ []) (view.Bound (Var a))) ∷ (1, plain (c ∷ []) (view.Bound (Quant a))) ∷ []

abbrev pub schemeTable : ℕ → List (ℕ × View)
schemeTable a = (0, view.Scheme a) ∷ (1, plain (a ∷ []) view.Concrete) ∷ []

-- the kinds of types, and the others
abbrev pub typeTable : ℕ → ℕ → ℕ → List (ℕ × View) → List (ℕ × View)
typeTable a b c more =
    (1, plain (b ∷ c ∷ []) (view.Opened (Var a)))
    ∷ (2, plain (b ∷ c ∷ []) (view.Opened (Par a)))
    ∷ (14, plain (b ∷ c ∷ []) (view.Opened (Quant a)))
    ∷ (3, plain (b ∷ c ∷ []) (view.Dim a))
    ∷ (4, plain (a ∷ b ∷ c ∷ []) (view.Basic Boolean))
    ∷ (5, plain (a ∷ b ∷ c ∷ []) (view.Basic Text))
    ∷ (6, plain (a ∷ b ∷ c ∷ []) (view.Basic Datetime))
    ∷ (7, plain (b ∷ c ∷ []) (view.Function a))
    ∷ (8, view.Struct a b c)
    ∷ (10, plain (a ∷ b ∷ c ∷ []) view.List)
    ∷ more

abbrev pub otherTable : ℕ → ℕ → ℕ → List (ℕ × View)
otherTable a b c =
    (9, plain (b ∷ c ∷ []) (view.Field a))
    ∷ (11, view.Factor (Free (Var a)) b c)
    ∷ (12, view.Factor (Free (Par a)) b c)
    ∷ (13, view.Factor (Base a) b c)
    ∷ (15, view.Factor (Free (Quant a)) b c)
    ∷ (20, plain (a ∷ b ∷ c ∷ []) view.Equal)
    ∷ (21, plain (a ∷ b ∷ c ∷ []) view.IsDim)
    ∷ (22, plain (a ∷ b ∷ c ∷ []) view.IsScalar)
    ∷ (23, plain (b ∷ c ∷ []) (view.HasField a))
    ∷ (24, plain (b ∷ c ∷ []) (view.Binding a))
    ∷ (25, pick b (boundTable a c))
    ∷ (26, plain (c ∷ []) (pick b (schemeTable a)))
    ∷ []

unfoldable pub shape_of : ℕ → ℕ → ℕ → ℕ → View
shape_of k a b c = pick k (typeTable a b c (otherTable a b c))

unfoldable pub view_of : Rec → View
unfolding shape_of
view_of (rec w a b c) = shape_of (kindIn w) a b c

unfoldable pub longOf : Rec → ℕ
longOf (rec w a b c) = lengthIn w

-- the record that says a view, with its kind alone in word 0
abbrev pub recOpen : Open → Rec
recOpen (Var x) = rec 1 x 0 0
recOpen (Quant i) = rec 14 i 0 0
recOpen (Par x) = rec 2 x 0 0

abbrev pub recFree : Open → ℕ → ℕ → Rec
recFree (Var x) n d = rec 11 x n d
recFree (Quant i) n d = rec 15 i n d
recFree (Par x) n d = rec 12 x n d

abbrev pub recFactor : Atom → ℕ → ℕ → Rec
recFactor (Free o) n d = recFree o n d
recFactor (Base x) n d = rec 13 x n d

abbrev pub recBound : Open → Rec
recBound (Var x) = rec 25 x 0 0
recBound (Quant i) = rec 25 i 1 0
recBound (Par x) = rec 25 x 0 0

abbrev pub kindOfBasic : Basic → ℕ
kindOfBasic Boolean = 4
kindOfBasic Text = 5
kindOfBasic Datetime = 6

abbrev pub bareOf : View → Rec
bareOf (view.Opened o) = recOpen o
bareOf (view.Basic b) = rec (kindOfBasic b) 0 0 0
bareOf (view.Dim n) = rec 3 n 0 0
bareOf (view.Function n) = rec 7 n 0 0
bareOf (view.Struct x n m) = rec 8 x n m
bareOf view.List = rec 10 0 0 0
bareOf (view.Field x) = rec 9 x 0 0
bareOf (view.Factor f n d) = recFactor f n d
bareOf view.Equal = rec 20 0 0 0
bareOf view.IsDim = rec 21 0 0 0
bareOf view.IsScalar = rec 22 0 0 0
bareOf (view.HasField x) = rec 23 x 0 0
bareOf (view.Binding x) = rec 24 x 0 0
bareOf (view.Bound o) = recBound o
bareOf (view.Scheme n) = rec 26 n 0 0
bareOf view.Concrete = rec 26 0 1 0
bareOf view.Bad = rec 0 0 0 0

-- and with the length of a part of n records
abbrev pub lengthened : ℕ → Rec → Rec
lengthened n (rec k a b c) = rec (head k n) a b c

abbrev pub recOf : View → ℕ → Rec
recOf v n = lengthened n (bareOf v)

abbrev pub toldWords : Words → Rec
toldWords w = rec w.kind w.a w.b w.c

-- the records of a list of words, as far as they are whole
unfoldable pub recs : List ℕ → List Rec
recs [] = []
recs (k ∷ []) = []
recs (k ∷ a ∷ []) = []
recs (k ∷ a ∷ b ∷ []) = []
recs (k ∷ a ∷ b ∷ c ∷ ws) = rec k a b c ∷ recs ws

-- the records from a place on
unfoldable pub from : List ℕ → ℕ → List Rec
from s at = recs (drop (at * 4) s)

abbrev pub viewFirst : List Rec → View
viewFirst [] = view.Bad
viewFirst (r ∷ rs) = view_of r

-- what the record at a place says; Bad where there is none
unfoldable pub viewAt : List ℕ → ℕ → View
viewAt s at = viewFirst (from s at)

abbrev pub longFirst : List Rec → ℕ
longFirst [] = 0
longFirst (r ∷ rs) = longOf r

-- and how long the part is that it begins; 0 where there is none
unfoldable pub longAt : List ℕ → ℕ → ℕ
longAt s at = longFirst (from s at)
