-- Entries that were placed, as the walks and the checks ask for them.
use Rattle.std.specs.Prelude.{◌≡◌, ℕ, ◌≤◌, ◌<◌, eqb, length, get_or}
use Rattle.std.proofs.Math.Path.{refl}
use Rattle.std.proofs.Common.{ap, sym, ◌∙◌}
use Rattle.std.proofs.Math.Bool.{true, false, and-eq-true_iff}
use mathlib.Core.List.{List, [], ◌∷◌, map}
use Rattle.std.proofs.Math.Option.{Option, none, some}
use Rattle.std.proofs.Math.Decide.{dec_lt}
use native.Mathlib.Omega.{arith}
use borrow.Author.Tests.{ltb-true, ne_eqb}
use Rattle.rules.specs.Base.{all, any}
use Rattle.rules.specs.Calls.{Entry}
use Rattle.rules.specs.Names.{table_of, names_of, is_held}
use Rattle.rules.specs.Replacing.{find, bindings}
use Rattle.rules.specs.Trees.{Open, Ty, Binding, ◌≔◌, size}
use Rattle.rules.specs.WellFormed.{goodTy, goodBinding}
use Rattle.laws.proofs.Lists.{some≢none}
use Rattle.laws.specs.NameTable.{Good}
use Rattle.laws.proofs.NameTable.{good-laid}
use Rattle.laws.proofs.Weaker.{ty-weaker}
use Rattle.records.specs.ByView.{ends-in}
use Rattle.records.specs.Good as records
use Rattle.records.specs.Good.{numbers, holding}
use Rattle.judge_entries.proofs.Tables as tables
use Rattle.judge_entries.proofs.Answers.{Bound}
use Rattle.replace.specs.Places.{SaysAt, word_of}
use Rattle.replace.proofs.Runs.{looked-good}
use Rattle.replace_table.proofs.Filling as filling
use Rattle.judge_proposals.specs.Mixed.{variable, Table}
use Rattle.judge_proposals.proofs.Order.{find-no}
use Rattle.judge_trials.specs.Trials.{Put}

module _ (pool table types places : List ℕ) (es : List Entry) (bs : List (Binding ℕ)) (b : Bound pool table es types places bs)
    (good : Good pool table) (short : length types ≤ 8192) (long : length places ≡ 256) where
  abbrev look : Open ℕ → Option (Ty ℕ)
  look = bindings (numbers pool table) bs

  -- only held names are bound
  held_below : (cs : List (Binding ℕ)) (x : ℕ) → all (records.goodBinding pool table 0) cs ≡ true → 256 ≤ x → any (eqb x) (map variable cs) ≡ false
  unfolding any all goodBinding table_of
  held_below [] x g le = refl
  held_below (y ≔ t ∷ cs) x g le =
      let r = (and-eq-true_iff (records.goodBinding pool table 0 (y ≔ t)) (all (records.goodBinding pool table 0) cs)).0 g in
      let k = (and-eq-true_iff (is_held (table_of pool table) y) (goodTy (numbers pool table) (holding pool table) 0 t)).0 r.0 in
      let l : x ≡ y → ⊥ = λ e. absurd (omega (arith, e, ltb-true y (get_or table 0 0) k.0, (good-laid good).few)) in
      rw (ne_eqb x y l) (held_below cs x r.1 le)

  below : (x : ℕ) (t : Ty ℕ) → find (numbers pool table) bs x ≡ some t → x < 256
  below x t e = go (dec_lt x 256)
    where
      go : Dec (x < 256) → x < 256
      go (yes l) = l
      go (no l) = let f = find-no (names_of (table_of pool table)) x bs (held_below bs x b.good (omega arith))
          in absurd (some≢none (sym e ∙ f))

  same_word : (w : ℕ) (m : Option (Ty ℕ)) → tables.SaysAt pool table types w m → SaysAt types w m
  same_word w none h = h
  same_word w (some t) h = record { at = h.at; word = h.word; held = h.held }

  says : (x : ℕ) → x < 256 → SaysAt types (get_or places x 0) (find (numbers pool table) bs x)
  says x l = same_word (get_or places x 0) (find (numbers pool table) bs x) (b.tabled.says x l)

  word : (o : Open ℕ) → SaysAt types (word_of places o) (look o)
  word = filling.word (numbers pool table) places types bs long below says

  few : (o : Open ℕ) (t : Ty ℕ) → look o ≡ some t → size t ≤ 2048
  few o t e = go (look o) (word o) e
    where
      go : (m : Option (Ty ℕ)) → SaysAt types (word_of places o) m → m ≡ some t → size t ≤ 2048
      go none h q = absurd (some≢none (sym q))
      go (some u) h q = let z : u ≡ t = cc in let k = ends-in types u h.at h.held in omega (arith, ap size z)

  plain : (o : Open ℕ) (t : Ty ℕ) → look o ≡ some t → goodTy (numbers pool table) (holding pool table) 0 t ≡ true
  plain o t e = looked-good (numbers pool table) (holding pool table) 0 bs o t b.good e

  pub put : Put pool table places types bs
  put = record {
    lent = record {
      tabled = record { says = word; few = few };
      good = λ o t e. ty-weaker (numbers pool table) (holding pool table) 0 4_294_967_296 (omega arith) t (plain o t e);
      near = omega arith;
    };
    good = plain;
  }

  pub tabled : Table types places (names_of (table_of pool table)) bs
  tabled = record { says = says; once = b.once; below = below }
