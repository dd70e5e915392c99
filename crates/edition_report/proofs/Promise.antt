-- Why 'accepted' is told of a sheet where the solver accepts its set and the judge says yes, and nowhere else; no name adds a line.
use Rattle.std.specs.Prelude.{◌≡◌, Bool, false, ◌||◌, List, [], ◌∷◌, ◌++◌, map, ℕ, zero, suc, ◌+◌, ◌/◌, ◌%◌, ◌≤◌, ◌<◌, eqb, ltb, length, take, drop}
use Rattle.std.proofs.Math.Path.{refl}
use Rattle.std.proofs.Math.Option.{Option, none, some}
use Rattle.std.proofs.Common.{sym, ap, ◌∙◌, arith, ne_eqb, ltb-false, ltb-true, append_assoc, length-append}
use Rattle.std.proofs.Math.Bool.{true}
use Rattle.rules.specs.Base.{Got, got, refused, ◌>>=◌, bounded, collect, is_none}
use Rattle.rules.specs.Trees.{Names, Con, Binding}
use Rattle.rules.specs.Names.{Bytes, Table, numbersOf}
use Rattle.rules.specs.Writing.{words, writeCon}
use Rattle.rules.specs.Calls.{solvedSet}
use Rattle.rules.specs.Solving.{Answer, accepted, remaining, stopped}
use Rattle.rules.specs.Judging.{judge, failing}
use Rattle.rules.specs.Grammar.{ascii}
use Rattle.rules.specs.TextWriting.{decimal, namesIn}
use Rattle.rules.specs.declared.Unseen.TheVariants.{NotOpened, NotRead, TooLong}
use Rattle.laws.specs.Lists.{Every}
use Rattle.laws.proofs.Lists.{every_append, true≢false}
use Rattle.text_laws.specs.Lengths.{NotFeed}
use Rattle.judge_trials.proofs.Failing.{none-fails}
use Rattle.edition_report.specs.Theorems.{SaysAccepted, Accepted, AcceptedOn}
use Rattle.rules.specs.Reports.{
  Finding,
  unseen,
  unread,
  agrees,
  denied,
  unjudged,
  remains,
  stops,
  judgedBy,
  finding,
  isAccepted,
  constraintLine,
  shown,
  shownBy,
  amount,
  refusedText,
  unseenText,
  placeText,
  findingText,
  reportText,
  Content,
  holding,
  refusing,
  lacking,
  Page,
  findingOf,
  constraintsIn,
  pageText,
}

-- ══ What the words say ══

behind-name : (name r : Bytes) → drop (length name + 2) (map shown name ++ r) ≡ drop 2 r
behind-name [] r = refl
behind-name (b ∷ n) r = let e : suc (length n) + 2 ≡ suc (length n + 2) = omega arith in rw e (behind-name n r)

-- 110 is "n", as in 'not accepted'; 97 is "a"
not-n : {A : Type 0} {bs cs : Bytes} → 110 ∷ bs ≡ 97 ∷ cs → A
not-n e = let z : ◌≡◌ {A = ℕ} 110 97 = cc in absurd (omega (arith, z))

-- digits, and the ":" behind them, come before every letter
abbrev Early : ℕ → Type 0
Early b = b < 59

not-early : {A : Type 0} {b : ℕ} {bs cs : Bytes} → Early b → b ∷ bs ≡ 97 ∷ cs → A
not-early {b = b} h e = let z : ◌≡◌ {A = ℕ} b 97 = cc in absurd (omega (arith, z, h))

digits-early : (k n : ℕ) → Every Early (decimal k n)
unfolding decimal
digits-early zero n = tt
digits-early (suc k) n = go (ltb n 10) refl (digits-early k (n / 10))
  where
    go : (t : Bool) → ltb n 10 ≡ t → Every Early (decimal k (n / 10)) → Every Early (decimal (suc k) n)
    go true e h = rw (e, decimal) (let l = ltb-true n 10 e in omega (arith, l), tt)
    go false e h = rw (e, decimal) (every_append Early (decimal k (n / 10)) ((n % 10 + 48) ∷ []) h (omega arith, tt))

some-digit : (k n : ℕ) → 1 ≤ length (decimal (suc k) n)
unfolding decimal
some-digit k n = go (ltb n 10) refl
  where
    go : (t : Bool) → ltb n 10 ≡ t → 1 ≤ length (decimal (suc k) n)
    go true e = rw (e, decimal) (omega arith)
    go false e = rw (e, decimal) (simp length-append (omega arith))

digits-only : {A : Type 0} (ds t : Bytes) → 1 ≤ length ds → Every Early ds → take 8 (drop 1 (ds ++ (58 ∷ t))) ≡ ascii "accepted" → A
digits-only [] t h k e = absurd (omega (arith, h))
digits-only (d ∷ []) t h k e = not-early (omega arith) e
digits-only (d ∷ b ∷ ds) t h k e = not-early k.1.0 e

number-only : {A : Type 0} (n : ℕ) (t : Bytes) → take 8 (drop 1 (amount n ++ (58 ∷ t))) ≡ ascii "accepted" → A
number-only n t e = digits-only (amount n) t (some-digit 9 n) (digits-early 10 n) e

module _ (name_of : ℕ → Bytes) (text : Bytes) (cs new : ℕ) where
  abbrev behind : Finding → Bytes
  behind f = drop 2 (placeText text f ++ (ascii ": " ++ findingText name_of text cs new f))

  words-only : (f : Finding) → take 8 (behind f) ≡ ascii "accepted" → isAccepted f ≡ true
  unfolding placeText findingText refusedText unseenText
  words-only (unseen NotOpened) e = not-n e
  words-only (unseen NotRead) e = not-n e
  words-only (unseen TooLong) e = not-n e
  words-only (unread n l c) e =
      number-only l (amount c ++ (ascii ": " ++ findingText name_of text cs new (unread n l c)))
      (rw (append_assoc (amount l) (58 ∷ amount c)) at e)
  words-only (agrees bs ns k) e = refl
  words-only (denied i) e = number-only (constraintLine i text) (32 ∷ findingText name_of text cs new (denied i)) e
  words-only (unjudged n) e = not-n e
  words-only (remains ds k) e = not-n e
  words-only (stops n k) e = not-n e

  words-there : (f : Finding) → isAccepted f ≡ true → take 8 (behind f) ≡ ascii "accepted"
  unfolding placeText findingText
  words-there (unseen u) e = absurd (true≢false (sym e))
  words-there (unread n l c) e = absurd (true≢false (sym e))
  words-there (agrees bs ns k) e = refl
  words-there (denied i) e = absurd (true≢false (sym e))
  words-there (unjudged n) e = absurd (true≢false (sym e))
  words-there (remains ds k) e = absurd (true≢false (sym e))
  words-there (stops n k) e = absurd (true≢false (sym e))

  behind-is : (name : Bytes) (f : Finding) → drop (length name + 2) (reportText name_of name text cs new f) ≡ behind f
  unfolding reportText
  behind-is name f = behind-name name (placeText text f ++ (ascii ": " ++ findingText name_of text cs new f))

  pub says-only : (name : Bytes) (f : Finding) → SaysAccepted name (reportText name_of name text cs new f) → isAccepted f ≡ true
  says-only name f e = words-only f (ap (take 8) (sym (behind-is name f)) ∙ e)

  pub says-it : (name : Bytes) (f : Finding) → isAccepted f ≡ true → SaysAccepted name (reportText name_of name text cs new f)
  says-it name f e = ap (take 8) (behind-is name f) ∙ words-there f e

-- ══ What is found ══

module _ (ν : Names ℕ) (cs : List (Con ℕ)) where
  -- the judge says yes where no constraint fails, and there alone
  yes-none : (bs : List (Binding ℕ)) (ns : List ℕ) → failing ν bounded bs ns 0 cs ≡ got none → judge ν bounded bs ns cs ≡ got true
  yes-none bs ns e = none-fails ν bounded bs ns 0 cs ∙ ap (λ (m : Got (Option ℕ)). m >>= λ o. got (is_none o)) e

  none-yes : (bs : List (Binding ℕ)) (ns : List ℕ) → judge ν bounded bs ns cs ≡ got true → failing ν bounded bs ns 0 cs ≡ got none
  none-yes bs ns e = go (failing ν bounded bs ns 0 cs) (sym (none-fails ν bounded bs ns 0 cs) ∙ e)
    where
      go : (m : Got (Option ℕ)) → (m >>= λ o. got (is_none o)) ≡ got true → m ≡ got none
      go (got none) q = refl
      go (got (some i)) q = let z : false ≡ true = cc q in absurd (true≢false (sym z))
      go (refused n) q = let z : ◌≡◌ {A = ℕ} 0 1 = cc q in absurd (omega (arith, z))

  pub found-only : (a : Got (Answer ℕ)) → isAccepted (finding ν cs a) ≡ true → Accepted ν cs a
  unfolding finding
  found-only (refused n) e = absurd (true≢false (sym e))
  found-only (got (remaining ds k)) e = absurd (true≢false (sym e))
  found-only (got (stopped n k)) e = absurd (true≢false (sym e))
  found-only (got (accepted bs ns k)) e = go (failing ν bounded bs ns 0 cs) refl e
    where
      go : (j : Got (Option ℕ)) → failing ν bounded bs ns 0 cs ≡ j → isAccepted (judgedBy j bs ns k) ≡ true → Accepted ν cs (got (accepted bs ns k))
      go (got none) q e = record { binds = bs; bounds = ns; rounds = k; solved = refl; judged = yes-none bs ns q }
      go (got (some i)) q e = absurd (true≢false (sym e))
      go (refused n) q e = absurd (true≢false (sym e))

  pub found-is : (a : Got (Answer ℕ)) → (x : Accepted ν cs a) → finding ν cs a ≡ agrees x.binds x.bounds x.rounds
  unfolding finding
  found-is a x = rw (x.solved, none-yes x.binds x.bounds x.judged) refl

-- so a report of what is found says 'accepted' exactly there
module _ (name_of : ℕ → Bytes) (name text : Bytes) (n new : ℕ) (ν : Names ℕ) (cs : List (Con ℕ)) (a : Got (Answer ℕ)) where
  pub report-only : SaysAccepted name (reportText name_of name text n new (finding ν cs a)) → Accepted ν cs a
  report-only e = found-only ν cs a (says-only name_of text n new name (finding ν cs a) e)

  pub report-there : Accepted ν cs a → SaysAccepted name (reportText name_of name text n new (finding ν cs a))
  report-there x = says-it name_of text n new name (finding ν cs a) (ap isAccepted (found-is ν cs a x))

-- ══ A page ══

content-only : (t : Table) (c : Content) → isAccepted (findingOf t c) ≡ true → AcceptedOn t c
unfolding findingOf
content-only t (holding cs) e = found-only (numbersOf t) cs (solvedSet t (words (collect writeCon cs))) e
content-only t (refusing n l c) e = absurd (true≢false (sym e))
content-only t (lacking u) e = absurd (true≢false (sym e))

content-there : (t : Table) (c : Content) → AcceptedOn t c → isAccepted (findingOf t c) ≡ true
unfolding findingOf
content-there t (holding cs) x = ap isAccepted (found-is (numbersOf t) cs (solvedSet t (words (collect writeCon cs))) x)
content-there t (refusing n l c) x = absurd x
content-there t (lacking u) x = absurd x

-- 'accepted' is printed only for a set that the solver accepts and the judge says yes to
pub page-only : (t : Table) (p : Page) → SaysAccepted p.name (pageText t p) → AcceptedOn t p.content
unfolding pageText
page-only t p e = content-only t p.content (says-only (namesIn t) p.text (constraintsIn p.content) p.new p.name (findingOf t p.content) e)

-- and it is printed for each of them
pub page-there : (t : Table) (p : Page) → AcceptedOn t p.content → SaysAccepted p.name (pageText t p)
unfolding pageText
page-there t p x = says-it (namesIn t) p.text (constraintsIn p.content) p.new p.name (findingOf t p.content) (content-there t p.content x)

-- ══ Names ══

-- nothing that is shown ends a line
pub shown-flat : (b : ℕ) → NotFeed (shown b)
unfolding shown
shown-flat b = go (ltb b 32) (eqb b 127) refl
  where
    go : (u v : Bool) → ltb b 32 ≡ u → NotFeed (shownBy (u || v) b)
    go true v e = refl
    go false true e = refl
    go false false e = ne_eqb b 10 (λ q. let h : 32 ≤ b = ltb-false b 32 e in omega (arith, q, h))

pub name-flat : (name : Bytes) → Every NotFeed (map shown name)
name-flat [] = tt
name-flat (b ∷ n) = (shown-flat b, name-flat n)
