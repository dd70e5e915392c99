-- What follows from the definitions of specs/Standing: a set as it stands in a buffer.
use Rattle.std.specs.Prelude.{◌≡◌, true, ℕ, ◌+◌, ◌*◌, ◌-◌, ◌/◌, ◌≤◌, ◌<◌, take}
use Rattle.std.proofs.Math.Path.{refl, sym, ap}
use Rattle.std.proofs.Common.{subst, ◌∙◌}
use mathlib.Core.List.{List, [], ◌∷◌}
use native.Mathlib.Omega.{arith}
use Rattle.std.proofs.Math.ListN.{length}
use Rattle.std.proofs.lemmas.List.Edits.{sets}
use Rattle.std.proofs.Math.Seq.{slice, take-length}
use Rattle.rules.specs.Base.{all, collect, sum_of}
use Rattle.rules.specs.Trees.{Con, opensCon, sizeCon, depthCon}
use Rattle.rules.specs.WellFormed.{goodCon}
use Rattle.rules.specs.Writing.{words, writeCon}
use Rattle.laws.specs.NameTable.{Good}
use Rattle.laws.proofs.NameTable.{good-laid}
use Rattle.laws.specs.Nesting.{Within}
use Rattle.laws.proofs.Nesting.{most}
use Rattle.laws.proofs.KnownNames.{set_known}
use Rattle.laws.proofs.Size.{words-length, set-length}
use Rattle.records.specs.Good.{Chain, numbers, holding}
use Rattle.records.specs.Holds.{HoldsCon}
use Rattle.queries.specs.Marks.{Small}
use Rattle.queries.specs.Scans.{opensFrom, opensIn}
use Rattle.queries.proofs.ScanLaws.{con-opens, chain-opens}
use Rattle.queries.proofs.GoodOpens.{names-small}
use Rattle.replace.proofs.Kept.{cons-weaker}
use Rattle.replace.proofs.Written.{written-cons}
use Rattle.types.specs.Sets.{IsCons}
use Rattle.types.proofs.OnSets.{HoldsCons}
use Rattle.types.specs.Runs.{HoldsEach}
use Rattle.lines.proofs.Slices.{slice-there, own-slice}
use Rattle.solve.specs.Running.{Begun}
use Rattle.types.specs.Written.{Writes}
use Rattle.types.specs.declared.writer.Writer.{Writer}
use Rattle.lines.specs.Standing.{SetStands}

module _ (pool table : List ℕ) where
  -- ══ The set that was written ══

  module _ (cs : List (Con ℕ)) (good : all (goodCon (numbers pool table) (holding pool table) 0) cs ≡ true) (flat : Within 64 cs) where
    abbrev ws : List ℕ
    ws = words (collect writeCon cs)

    many : length ws ≡ sum_of sizeCon cs * 4
    many = words-length (collect writeCon cs) ∙ ap (λ (n : ℕ). n * 4) (set-length cs)

    words-held : IsCons ws 0 (length ws / 4) cs
    words-held =
        let e : ws ≡ sets ws 0 (words (collect writeCon cs)) = own-slice 0 (length ws) ws (omega arith) (omega arith) ∙ ap (sets ws 0) (take-length ws) in
        let n : 0 + sum_of sizeCon cs ≡ length ws / 4 = omega (arith, many) in
        rw n at (written-cons pool table ws ws 0 cs e (omega (arith, n)) (cons-weaker pool table cs good))

    words-stand : sum_of sizeCon cs ≤ 2048 → SetStands pool table ws cs
    words-stand h = record {
      there = record { held = words-held; good = good };
      admitted = record { good = good; small = h };
      short = omega (arith, many);
      even = omega (arith, many);
      flat = flat;
    }

    -- the part of a buffer that was written from its front on
    module _ (w w' : Writer) (p : Writes w w' (collect writeCon cs)) (front : w.at ≡ 0) (few : w'.at ≤ 2048) where
      pub set-many : w'.at ≡ sum_of sizeCon cs
      set-many = omega (arith, p.at, front, few, set-length cs)

      pub set-stands : 8192 ≤ length w.words.now → (d : List ℕ) → d ≡ w'.words.now → SetStands pool table (take (w'.at * 4 - 0) d) cs
      set-stands room d back =
          let z : w'.at * 4 - 0 ≡ 0 + length ws = omega (arith, many, set-many) in
          let laid : w'.words.now ≡ sets w.words.now 0 ws =
          p.words (omega (arith, front, few, set-many, set-length cs)) ∙ ap (λ (k : ℕ). sets w.words.now (k * 4) ws) front in
          let s : take (w'.at * 4 - 0) d ≡ ws = ap (take (w'.at * 4 - 0)) (back ∙ laid) ∙ ap (λ (k : ℕ). slice 0 k (sets w.words.now 0 ws)) z
          ∙ slice-there w.words.now 0 ws (omega (arith, z, few)) in
          subst (λ (l : List ℕ). SetStands pool table l cs) (sym s) (words-stand (omega (arith, set-many, few)))

    -- it has over 2,048 records
    pub set-large : (w w' : Writer) → Writes w w' (collect writeCon cs) → w.at ≡ 0 → 2048 < w'.at → 2048 < sum_of sizeCon cs
    set-large w w' p front h = omega (arith, p.at, front, h, set-length cs)

  -- ══ Its open names ══

  module _ (set : List ℕ) (cs : List (Con ℕ)) (h : SetStands pool table set cs) where
    abbrev Part : ℕ → Con ℕ → ℕ → Type 0
    Part at c e = HoldsCon set c at × (e ≡ at + sizeCon c)

    parts : (cs : List (Con ℕ)) (at end : ℕ) → HoldsCons set cs at → end ≡ at + sum_of sizeCon cs → Chain Part end cs at
    unfolding HoldsEach
    parts [] at end h e = omega (arith, e)
    parts (c ∷ cs) at end h e = (at + sizeCon c, ((h.0, refl), parts cs (at + sizeCon c) end h.1 (omega (arith, e))))

    one-opens : (at : ℕ) (c : Con ℕ) (e : ℕ) → Part at c e → (at ≤ e) × (opensIn set at e ≡ opensCon c)
    one-opens at c e p = let z : e - at ≡ sizeCon c = omega (arith, p.1) in (omega (arith, p.1), ap (λ (n : ℕ). opensFrom set n at) z ∙ con-opens set c at p.0)

    pub set-opens : opensIn set 0 (length set / 4) ≡ collect opensCon cs
    set-opens = (chain-opens set Part opensCon one-opens cs 0 (length set / 4) (parts cs 0 (length set / 4) h.there.held.held h.there.held.ends)).1

    pub set-small : Good pool table → Small (opensIn set 0 (length set / 4))
    set-small g = rw set-opens (names-small pool table 0 (collect opensCon cs)
        (set_known (numbers pool table) (holding pool table) 0 cs h.admitted.good) (good-laid g).few)

    -- ══ What solving asks ══

    pub begun : Begun pool table set cs
    begun = record { held = h.there.held; sound = record { good = h.admitted.good; flat = most depthCon cs 64 h.flat }; short = h.short; admitted = h.admitted }
