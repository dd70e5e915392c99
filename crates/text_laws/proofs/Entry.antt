-- What entering a name keeps: the table is well formed, its names stand in their order, and the number that is told is held.
use Rattle.std.specs.Prelude.{◌≡◌, refl, List, [], ◌∷◌, ◌++◌, ℕ, ◌+◌, ◌≤◌, ◌<◌, length, drop, get_or}
use Rattle.std.proofs.Common.{sym, ap, ◌∙◌, append-nil, arith, length-append, length-take, length-drop, length-set}
use Rattle.rules.specs.Base.{Got, got, refused}
use Rattle.rules.specs.Names.{Bytes, Entered, table_of, names_of, enterChecks, enter, enterNew}
use Rattle.rules.specs.TextReading.{newIn, enterName}
use Rattle.rules.specs.declared.Was.{Was}
use Rattle.rules.specs.declared.Was.TheVariants.{Known}
use Rattle.laws.specs.NameTable.{Good}
use Rattle.laws.proofs.NameTable.{good-given, new_is, good-laid}
use Rattle.laws.proofs.Entering.{Enters, Case, stopped, known, full, new, enter-case, count-with, names-with, good-with, pool-behind, table-behind}

pub record Entry (pool table pool' table' : List ℕ) (a : Got (ℕ × Was)) : Type 0 where
  pub good : Good pool' table'
  pub more : List Bytes
  pub names : names_of (table_of pool' table') ≡ names_of (table_of pool table) ++ more
  pub held : get_or table 0 0 ≤ get_or table' 0 0
  pub pool-long : length pool' ≡ length pool
  pub table-long : length table' ≡ length table
  pub pool-behind : drop 8192 pool' ≡ drop 8192 pool
  pub table-behind : drop 257 table' ≡ drop 257 table
  pub number : (i : ℕ) (w : Was) → a ≡ got (i, w) → (i < get_or table' 0 0) × (get_or table 0 0 + newIn w ≤ get_or table' 0 0)

module _ {pool table : List ℕ} (g : Good pool table) where
  entry-same : (a : Got (ℕ × Was)) → ((i : ℕ) (w : Was) → a ≡ got (i, w) → (i < get_or table 0 0) × (get_or table 0 0 + newIn w ≤ get_or table 0 0))
      → Entry pool table pool table a
  entry-same a h = record {
    good = g;
    more = [];
    names = sym (append-nil (names_of (table_of pool table)));
    held = omega arith;
    pool-long = refl;
    table-long = refl;
    pool-behind = refl;
    table-behind = refl;
    number = h;
  }

  no_number : (k : ℕ) → Entry pool table pool table (refused k)
  no_number k = entry-same (refused k) (λ i w e. absurd (cc))

  one_answer : {i j : ℕ} {v w : Was} → ◌≡◌ {A = Got (ℕ × Was)} (got (i, v)) (got (j, w)) → (i ≡ j) × (v ≡ w)
  one_answer {i} {j} {v} {w} e = let p : ◌≡◌ {A = ℕ × Was} (i, v) (j, w) = cc in (ap (λ q. q.0) p, ap (λ q. q.1) p)

  module _ (n : Bytes) where
    is-enter : enterName pool table n ≡ enter pool table n
    unfolding enterName enter enterChecks
    is-enter = rw (good-given g)

    new-entry : Enters pool table n → Entry pool table (enterNew pool table n).pool (enterNew pool table n).table (enterNew pool table n).answer
    new-entry en =
        let e = new_is (good-laid g) n in
        let c = count-with en in
        record {
          good = good-with en;
          more = n ∷ [];
          names = names-with en;
          held = omega arith;
          pool-long = ap (λ (r : Entered). length r.pool) e ∙ simp (length-append, length-take, length-drop) (omega (arith, en.bytes, g.bytes));
          table-long = ap (λ (r : Entered). length r.table) e ∙ simp length-set;
          pool-behind = pool-behind en;
          table-behind = table-behind en;
          number = λ i w q. let y = one_answer (sym (ap (λ (r : Entered). r.answer) e) ∙ q) in let z : newIn w ≡ 1 = ap newIn (sym y.1) in
              (omega (arith, y.0), omega arith);
        }

    pub entry : Entry pool table (enterName pool table n).pool (enterName pool table n).table (enterName pool table n).answer
    entry = rw is-enter (go (enter-case pool table n))
      where
        go : Case pool table n → Entry pool table (enter pool table n).pool (enter pool table n).table (enter pool table n).answer
        go (stopped k z e) = rw e (no_number k)
        go (full h a m e) = rw e (no_number 3)
        go (known i a e) =
            rw e (entry-same (got (i, Known)) (λ j w q. let y = one_answer q in let z : newIn w ≡ 0 = ap newIn (sym y.1) in
            (omega (arith, y.0, a.held), omega arith)))
        go (new en e) = rw e (new-entry en)
