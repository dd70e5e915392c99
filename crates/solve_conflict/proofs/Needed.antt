-- What is left of lines, once what isn't needed is left out, conflicts: on trees, over names whose order is lawful and tells the held ones apart.
use Rattle.std.specs.Prelude.{◌≡◌, refl, Bool, true, false, List, [], ◌∷◌, ◌++◌, ◌⊎◌, map, ℕ, zero, suc, ◌+◌, ◌/◌, ◌≤◌, length, take, drop}
use Rattle.std.proofs.Common.{ap, sym, subst, ◌∙◌, arith, append_assoc, append-nil, length-append, inl, inr}
use Rattle.std.proofs.Math.Decide.{dec_le}
use Rattle.std.proofs.lemmas.List.{take-append-drop, length-take-le, length-drop}
use mathlib.Core.List.{Memᴰ}
use mathlib.Core.List.Memᴰ
use Rattle.rules.specs.Base.{Got, got, refused, bounded, all, keep}
use Rattle.rules.specs.Choices.{wide, ChoosingWide, completedWide}
use Rattle.rules.specs.Conflicts.{Conflict, Line, wideOf, remains, conflicting, leaveOut}
use Rattle.rules.specs.Solving.{Answer, accepted, remaining, stopped, solve}
use Rattle.rules.specs.Trees.{Names, Con}
use Rattle.rules.specs.WellFormed.{goodCon}
use Rattle.laws.specs.Lists.{All, all_nil}
use Rattle.laws.proofs.Lists.{all_append, is_all, bound-step, clash, true≢false, map-from, map-to}
use Rattle.laws.specs.Order.{Lawful, Tells}
use Rattle.theorems_completeness.specs.Claims.{Five, Stopped, WideSet}
use Rattle.theorems_completeness.specs.Theorems.{WideDecided}
use Rattle.theorems_completeness.proofs.Completeness.{wide-decided}
use Rattle.theorems_completeness.proofs.Runs.{kept-in}
use Rattle.solve_conflict.specs.Theorems.{PartOf}
use Rattle.solve_conflict.proofs.Halving.{out-all, out-refused, out-kept, out-halves}

-- ══ Lists ══

in-keep : {A : Type 0} (p : A → Bool) (xs : List A) (a : A) → Memᴰ a xs → p a ≡ true → Memᴰ a (keep p xs)
unfolding keep
in-keep p [] a m e = absurd (Memᴰ.not-nil m)
in-keep p (x ∷ xs) a m e = go (p x) refl (Memᴰ.cases_cons m) (λ i. in-keep p xs a i e)
  where
    go : (b : Bool) → p x ≡ b → (a ≡ x) ⊎ Memᴰ a xs → (Memᴰ a xs → Memᴰ a (keep p xs)) → Memᴰ a (elim b [ true ↦ x ∷ keep p xs | false ↦ keep p xs ])
    go true q (inl i) r = Memᴰ.head i
    go true q (inr i) r = Memᴰ.tail (r i)
    go false q (inl i) r = absurd (true≢false (sym e ∙ ap p i ∙ q))
    go false q (inr i) r = r i

module _ {A : Type 0} where
  -- in one of four
  four : {x : A} {P : Type 0} (a b c d : List A) → (Memᴰ x a → P) → (Memᴰ x b → P) → (Memᴰ x c → P) → (Memᴰ x d → P) → Memᴰ x (a ++ (b ++ (c ++ d))) → P
  four {x} {P} a b c d f g h i m = first (Memᴰ.append_cases a m)
    where
      third : Memᴰ x c ⊎ Memᴰ x d → P
      third (inl k) = h k
      third (inr k) = i k

      second : Memᴰ x b ⊎ Memᴰ x (c ++ d) → P
      second (inl k) = g k
      second (inr k) = third (Memᴰ.append_cases c k)

      first : Memᴰ x a ⊎ Memᴰ x (b ++ (c ++ d)) → P
      first (inl k) = f k
      first (inr k) = second (Memᴰ.append_cases b k)

  part-in : (xs ys : List A) → PartOf xs ys → (x : A) → Memᴰ x xs → Memᴰ x ys
  part-in [] ys p x m = absurd (Memᴰ.not-nil m)
  part-in (a ∷ xs) [] p x m = absurd p
  part-in (a ∷ xs) (b ∷ ys) (inl p) x m = go (Memᴰ.cases_cons m) (part-in xs ys p.1 x)
    where
      go : (x ≡ a) ⊎ Memᴰ x xs → (Memᴰ x xs → Memᴰ x ys) → Memᴰ x (b ∷ ys)
      go (inl e) f = Memᴰ.head (e ∙ p.0)
      go (inr i) f = Memᴰ.tail (f i)
  part-in (a ∷ xs) (b ∷ ys) (inr p) x m = Memᴰ.tail (part-in (a ∷ xs) ys p x m)

  part-more : (xs ys zs : List A) → PartOf xs zs → PartOf xs (ys ++ zs)
  part-more [] ys zs p = tt
  part-more (x ∷ xs) [] zs p = p
  part-more (x ∷ xs) (y ∷ ys) zs p = inr (part-more (x ∷ xs) ys zs p)

  part-both : (xs ys zs ws : List A) → PartOf xs ys → PartOf zs ws → PartOf (xs ++ zs) (ys ++ ws)
  part-both [] ys zs ws p q = part-more zs ys ws q
  part-both (x ∷ xs) [] zs ws p q = absurd p
  part-both (x ∷ xs) (y ∷ ys) zs ws (inl p) q = inl (p.0, part-both xs ys zs ws p.1 q)
  part-both (x ∷ xs) (y ∷ ys) zs ws (inr p) q = inr (part-both (x ∷ xs) ys zs ws p q)

  -- where one element of two lists one after the other stands
  record InFirst (xs ys before : List A) (a : A) (after : List A) : Type 0 where
    rest : List A
    is : xs ≡ before ++ a ∷ rest
    behind : after ≡ rest ++ ys

  record InSecond (xs ys before : List A) (a : A) (after : List A) : Type 0 where
    rest : List A
    is : ys ≡ rest ++ a ∷ after
    before-it : before ≡ xs ++ rest

  split-at : (xs ys before : List A) (a : A) (after : List A) → xs ++ ys ≡ before ++ a ∷ after → InFirst xs ys before a after ⊎ InSecond xs ys before a after
  split-at [] ys before a after e = inr (record { rest = before; is = e; before-it = refl })
  split-at (x ∷ xs) ys [] a after e =
      let h : x ≡ a = cc in
      let t : xs ++ ys ≡ after = cc in
      inl (record { rest = xs; is = ap (λ (y : A). y ∷ xs) h; behind = sym t })
  split-at (x ∷ xs) ys (b ∷ before) a after e = go (split-at xs ys before a after (let t : xs ++ ys ≡ before ++ a ∷ after = cc in t))
    where
      h : x ≡ b
      h = cc

      go : InFirst xs ys before a after ⊎ InSecond xs ys before a after → InFirst (x ∷ xs) ys (b ∷ before) a after ⊎ InSecond (x ∷ xs) ys (b ∷ before) a after
      go (inl p) = inl (record { rest = p.rest; is = ap (λ (y : A). y ∷ xs) h ∙ ap (b ∷◌) p.is; behind = p.behind })
      go (inr p) = inr (record { rest = p.rest; is = p.is; before-it = ap (λ (y : A). y ∷ before) (sym h) ∙ ap (x ∷◌) p.before-it })

-- twice as many at each halving
unfoldable pub span : ℕ → ℕ
span zero = 1
span (suc d) = span d + span d

module _ {N : Type 0} (ν : Names N) (held : N → Bool) (lawful : Lawful ν.order) (tells : Tells (λ n. held n ≡ true) ν.order) where
  abbrev pub Good : List (Line N) → Type 0
  Good ls = All (λ l. goodCon ν held 0 l.1 ≡ true) ls

  -- a choice makes all wide ones true; none does
  abbrev pub Choosable : List (Line N) → Type 0
  Choosable ls = ChoosingWide ν.same (wideOf ls)

  abbrev pub Empty : List (Line N) → Type 0
  Empty ls = Choosable ls → ⊥

  -- ══ One test ══

  module _ (ls : List (Line N)) where
    -- a wide constraint of lines, and where it comes from
    pub record WideIn (c : Con N) : Type 0 where
      pub line : Line N
      pub within : Memᴰ line ls
      pub is : c ≡ line.1
      pub sided : wide c ≡ true

    pub wide-from : (c : Con N) → Memᴰ c (wideOf ls) → WideIn c
    wide-from c m =
        let k = kept-in wide (map (λ l. l.1) ls) c m in
        let i = map-from (λ (l : Line N). l.1) ls c k.0 in
        record { line = i.one; within = i.within; is = i.is; sided = k.1 }

    pub wide-to : (l : Line N) → Memᴰ l ls → wide l.1 ≡ true → Memᴰ l.1 (wideOf ls)
    wide-to l m w = in-keep wide (map (λ l. l.1) ls) l.1 (map-to (λ (l : Line N). l.1) ls l m) w

    wide-set : Good ls → WideSet ν held (wideOf ls)
    wide-set g = record {
      well-formed = is_all (goodCon ν held 0) (wideOf ls) (λ c m. let w = wide-from c m in rw w.is (g w.line w.within));
      sides = is_all wide (wideOf ls) (λ c m. (wide-from c m).sided);
    }

    module _ (g : Good ls) where
      abbrev decided : WideDecided ν (wideOf ls)
      decided = wide-decided ν held lawful tells (wideOf ls) (wide-set g)

      exactly : (a : Answer N) → solve ν bounded (wideOf ls) ≡ a → (Stopped a → ⊥) → Five a → Empty ls
      exactly a i n f = (decided.five-exactly (λ s. n (subst Stopped i s))).0 (subst Five (sym i) f)

      pub yes-empty : conflicting ν ls ≡ got true → Empty ls
      unfolding conflicting remains
      yes-empty e = go (solve ν bounded (wideOf ls)) refl e
        where
          go : (a : Answer N) → solve ν bounded (wideOf ls) ≡ a → remains a ≡ got true → Empty ls
          go (accepted bs ns k) i h = absurd (true≢false (let z : true ≡ false = cc in z))
          go (remaining rs k) i h = exactly (remaining rs k) i (λ s. s) tt
          go (stopped n k) i h = clash h

      pub no-choice : conflicting ν ls ≡ got false → Choosable ls
      unfolding conflicting remains all
      no-choice e = go (solve ν bounded (wideOf ls)) refl e
        where
          go : (a : Answer N) → solve ν bounded (wideOf ls) ≡ a → remains a ≡ got false → Choosable ls
          go (accepted bs ns k) i h =
              let b = (decided.all-choices bs ns k i).completes (λ x. []) (λ x. refl) in
              record { choice = completedWide ν.same bs (λ x. []); rational = b.0; makes = b.1 }
          go (remaining rs k) i h = absurd (true≢false (let z : true ≡ false = cc in z))
          go (stopped n k) i h = clash h

  -- fewer wide lines are true more easily
  pub fewer-lines : (ks ls : List (Line N)) → ((l : Line N) → Memᴰ l ks → wide l.1 ≡ true → Memᴰ l ls) → Choosable ls → Choosable ks
  fewer-lines ks ls f c = record {
    choice = c.choice;
    rational = c.rational;
    makes = λ k m.
        let w = wide-from ks k m in
        let s : wide w.line.1 ≡ true = ap wide (sym w.is) ∙ w.sided in
        c.makes k (subst (λ (x : Con N). Memᴰ x (wideOf ls)) (sym w.is) (wide-to ls w.line (f w.line w.within s) s));
  }

  -- ══ What is left ══

  pub record Out (kept ls behind final : List (Line N)) : Type 0 where
    pub new : List (Line N)
    pub is : final ≡ kept ++ new
    pub part : PartOf new ls
    pub sides : All (λ l. wide l.1 ≡ true) new
    pub empty : Empty (final ++ behind)
    pub needed : (before : List (Line N)) (l : Line N) (after : List (Line N)) → new ≡ before ++ l ∷ after → Choosable (kept ++ (before ++ (after ++ behind)))

  none-out : (kept ls behind final : List (Line N)) → kept ≡ final → Empty (kept ++ behind) → Out kept ls behind final
  none-out kept ls behind final e f = record {
    new = [];
    is = sym e ∙ sym (append-nil kept);
    part = tt;
    sides = all_nil (λ l. wide l.1 ≡ true);
    empty = subst (λ (xs : List (Line N)). Empty (xs ++ behind)) e f;
    needed = λ before l after h. absurd (omega (arith, ap length h, length-append before (l ∷ after)));
  }

  lone-out : (kept ls behind final : List (Line N)) → length ls ≤ 1 → kept ++ ls ≡ final → Empty (kept ++ (ls ++ behind)) → Choosable (kept ++ behind)
      → Out kept ls behind final
  lone-out kept [] behind final k e f c = absurd (f c)
  lone-out kept (l ∷ x ∷ ls) behind final k e f c = absurd (omega (arith, k))
  lone-out kept (l ∷ []) behind final k e f c = record {
    new = l ∷ [];
    is = sym e;
    part = inl (refl, tt);
    sides = λ j m. rw (Memᴰ.eq_of_singleton m) sided;
    empty = subst Empty (sym (append_assoc kept (l ∷ []) behind) ∙ ap (λ (xs : List (Line N)). xs ++ behind) e) f;
    needed = lone;
  }
    where
      sided : wide l.1 ≡ true
      sided = go (wide l.1) refl
        where
          go : (b : Bool) → wide l.1 ≡ b → wide l.1 ≡ true
          go true i = i
          go false i = absurd (f (fewer-lines (kept ++ l ∷ behind) (kept ++ behind) (λ j m w. other j w (Memᴰ.append_cases kept m)) c))
            where
              later : (j : Line N) → wide j.1 ≡ true → (j ≡ l) ⊎ Memᴰ j behind → Memᴰ j (kept ++ behind)
              later j w (inl q) = absurd (true≢false (sym w ∙ ap (λ (x : Line N). wide x.1) q ∙ i))
              later j w (inr m) = Memᴰ.append_right kept m

              other : (j : Line N) → wide j.1 ≡ true → Memᴰ j kept ⊎ Memᴰ j (l ∷ behind) → Memᴰ j (kept ++ behind)
              other j w (inl m) = Memᴰ.append_left behind m
              other j w (inr m) = later j w (Memᴰ.cases_cons m)

      lone : (before : List (Line N)) (j : Line N) (after : List (Line N)) → l ∷ [] ≡ before ++ j ∷ after → Choosable (kept ++ (before ++ (after ++ behind)))
      lone [] j [] h = c
      lone [] j (x ∷ after) h = absurd (omega (arith, ap length h))
      lone (x ∷ before) j after h = absurd (omega (arith, ap length h, length-append before (j ∷ after)))

  two-out : (kept xs ys behind more final : List (Line N)) → Out kept xs (ys ++ behind) more → Out more ys behind final → Out kept (xs ++ ys) behind final
  two-out kept xs ys behind more final a b = record {
    new = a.new ++ b.new;
    is = b.is ∙ ap (λ (zs : List (Line N)). zs ++ b.new) a.is ∙ append_assoc kept a.new b.new;
    part = part-both a.new xs b.new ys a.part b.part;
    sides = all_append (λ l. wide l.1 ≡ true) a.new a.sides b.sides;
    empty = b.empty;
    needed = λ before l after e. go before l after (split-at a.new b.new before l after e);
  }
    where
      go : (before : List (Line N)) (l : Line N) (after : List (Line N)) → InFirst a.new b.new before l after ⊎ InSecond a.new b.new before l after
          → Choosable (kept ++ (before ++ (after ++ behind)))
      go before l after (inl p) =
          fewer-lines (kept ++ (before ++ (after ++ behind))) (kept ++ (before ++ (p.rest ++ (ys ++ behind))))
          (λ j m w. four kept before after behind
          (λ i. Memᴰ.append_left _ i)
          (λ i. Memᴰ.append_right kept (Memᴰ.append_left _ i))
          (λ i. Memᴰ.append_right kept (Memᴰ.append_right before (rests j (Memᴰ.append_cases p.rest (subst (λ (zs : List (Line N)). Memᴰ j zs) p.behind i)))))
          (λ i. Memᴰ.append_right kept (Memᴰ.append_right before (Memᴰ.append_right p.rest (Memᴰ.append_right ys i)))) m)
          (a.needed before l p.rest p.is)
        where
          rests : (j : Line N) → Memᴰ j p.rest ⊎ Memᴰ j b.new → Memᴰ j (p.rest ++ (ys ++ behind))
          rests j (inl i) = Memᴰ.append_left (ys ++ behind) i
          rests j (inr i) = Memᴰ.append_right p.rest (Memᴰ.append_left behind (part-in b.new ys b.part j i))
      go before l after (inr p) =
          fewer-lines (kept ++ (before ++ (after ++ behind))) (more ++ (p.rest ++ (after ++ behind)))
          (λ j m w. four kept before after behind
          (λ i. Memᴰ.append_left _ (subst (λ (zs : List (Line N)). Memᴰ j zs) (sym a.is) (Memᴰ.append_left a.new i)))
          (λ i. befores j (Memᴰ.append_cases a.new (subst (λ (zs : List (Line N)). Memᴰ j zs) p.before-it i)))
          (λ i. Memᴰ.append_right more (Memᴰ.append_right p.rest (Memᴰ.append_left behind i)))
          (λ i. Memᴰ.append_right more (Memᴰ.append_right p.rest (Memᴰ.append_right after i))) m)
          (b.needed p.rest l after p.is)
        where
          befores : (j : Line N) → Memᴰ j a.new ⊎ Memᴰ j p.rest → Memᴰ j (more ++ (p.rest ++ (after ++ behind)))
          befores j (inl i) = Memᴰ.append_left _ (subst (λ (zs : List (Line N)). Memᴰ j zs) (sym a.is) (Memᴰ.append_right kept i))
          befores j (inr i) = Memᴰ.append_right more (Memᴰ.append_left _ i)

  good-test : (kept ls behind : List (Line N)) → Good (kept ++ (ls ++ behind)) → Good (kept ++ behind)
  good-test kept ls behind g j m = go (Memᴰ.append_cases kept m)
    where
      go : Memᴰ j kept ⊎ Memᴰ j behind → goodCon ν held 0 j.1 ≡ true
      go (inl i) = g j (Memᴰ.append_left (ls ++ behind) i)
      go (inr i) = g j (Memᴰ.append_right kept (Memᴰ.append_right ls i))

  abbrev first-half : List (Line N) → List (Line N)
  first-half ls = take (length ls / 2) ls

  abbrev second-half : List (Line N) → List (Line N)
  second-half ls = drop (length ls / 2) ls

  -- what d halvings leave
  abbrev Outs : ℕ → Type 0
  Outs d = (kept ls behind final : List (Line N)) → Good (kept ++ (ls ++ behind)) → Empty (kept ++ (ls ++ behind)) → length ls ≤ span d
      → leaveOut ν d kept ls behind ≡ got final → Out kept ls behind final

  single-out : Outs 0
  unfolding span
  single-out kept ls behind final g f few h = go (conflicting ν (kept ++ behind)) refl
    where
      go : (t : Got Bool) → conflicting ν (kept ++ behind) ≡ t → Out kept ls behind final
      go (refused n) i = clash (sym (out-refused ν kept ls behind 0 n i) ∙ h)
      go (got true) i =
          let z : got kept ≡ got final = sym (out-all ν kept ls behind 0 i) ∙ h in
          none-out kept ls behind final (cc) (yes-empty (kept ++ behind) (good-test kept ls behind g) i)
      go (got false) i =
          let z : got (kept ++ ls) ≡ got final = sym (out-kept ν kept ls behind 0 i (inl refl)) ∙ h in
          lone-out kept ls behind final few (cc) f (no-choice (kept ++ behind) (good-test kept ls behind g) i)

  halves-out : (d : ℕ) → Outs d → Outs (suc d)
  unfolding span
  halves-out d outs kept ls behind final g f few h = go (conflicting ν (kept ++ behind)) refl
    where
      two : (first-half ls) ++ (second-half ls) ≡ ls
      two = take-append-drop (length ls / 2) ls

      moved : kept ++ (ls ++ behind) ≡ kept ++ ((first-half ls) ++ ((second-half ls) ++ behind))
      moved = ap (λ (zs : List (Line N)). kept ++ (zs ++ behind)) (sym two) ∙ ap (kept ++◌) (append_assoc (first-half ls) (second-half ls) behind)

      half : length ls / 2 ≤ length ls
      half = omega arith

      few-first : length (first-half ls) ≤ span d
      few-first = omega (arith, length-take-le (length ls / 2) ls half, few)

      few-second : length (second-half ls) ≤ span d
      few-second = omega (arith, length-drop (length ls / 2) ls, few)

      both : (more : List (Line N)) → leaveOut ν d kept (first-half ls) ((second-half ls) ++ behind) ≡ got more
          → leaveOut ν d more (second-half ls) behind ≡ got final → Out kept ls behind final
      both more p q =
          let a = outs kept (first-half ls) ((second-half ls) ++ behind) more (subst Good moved g) (subst Empty moved f) few-first p in
          let b = outs more (second-half ls) behind final (λ j m. good-more a j (Memᴰ.append_cases more m)) a.empty few-second q in
          subst (λ (zs : List (Line N)). Out kept zs behind final) two (two-out kept (first-half ls) (second-half ls) behind more final a b)
        where
          good-more : Out kept (first-half ls) ((second-half ls) ++ behind) more → (j : Line N) → Memᴰ j more ⊎ Memᴰ j ((second-half ls) ++ behind)
              → goodCon ν held 0 j.1 ≡ true
          good-more a j (inr i) = (subst Good moved g) j (Memᴰ.append_right kept (Memᴰ.append_right (first-half ls) i))
          good-more a j (inl i) = inner (Memᴰ.append_cases kept (subst (λ (zs : List (Line N)). Memᴰ j zs) a.is i))
            where
              inner : Memᴰ j kept ⊎ Memᴰ j a.new → goodCon ν held 0 j.1 ≡ true
              inner (inl k) = (subst Good moved g) j (Memᴰ.append_left _ k)
              inner (inr k) = (subst Good moved g) j (Memᴰ.append_right kept (Memᴰ.append_left _ (part-in a.new (first-half ls) a.part j k)))

      go : (t : Got Bool) → conflicting ν (kept ++ behind) ≡ t → Out kept ls behind final
      go (refused n) i = clash (sym (out-refused ν kept ls behind (suc d) n i) ∙ h)
      go (got true) i =
          let z : got kept ≡ got final = sym (out-all ν kept ls behind (suc d) i) ∙ h in
          none-out kept ls behind final (cc) (yes-empty (kept ++ behind) (good-test kept ls behind g) i)
      go (got false) i = by-length (dec_le (length ls) 1)
        where
          by-length : Dec (length ls ≤ 1) → Out kept ls behind final
          by-length (yes k) =
              let z : got (kept ++ ls) ≡ got final = sym (out-kept ν kept ls behind (suc d) i (inr k)) ∙ h in
              lone-out kept ls behind final k (cc) f (no-choice (kept ++ behind) (good-test kept ls behind g) i)
          by-length (no k) =
              let s = bound-step (leaveOut ν d kept (first-half ls) ((second-half ls) ++ behind)) (λ more. leaveOut ν d more (second-half ls) behind) final
              (sym (out-halves ν kept ls behind d i (omega (arith, k))) ∙ h) in
              both s.0 s.1 s.2

  pub out-of : (d : ℕ) → Outs d
  out-of zero = single-out
  out-of (suc d) = halves-out d (out-of d)

  -- ══ It conflicts ══

  -- where one of a list's images stands
  record Behind (f : Line N → Con N) (xs : List (Line N)) (before : List (Con N)) (c : Con N) (behind : List (Con N)) : Type 0 where
    left : List (Line N)
    one : Line N
    right : List (Line N)
    is : xs ≡ left ++ one ∷ right
    first : before ≡ map f left
    last : behind ≡ map f right

  map-split : (f : Line N → Con N) (xs : List (Line N)) (before : List (Con N)) (c : Con N) (behind : List (Con N)) → map f xs ≡ before ++ c ∷ behind
      → Behind f xs before c behind
  map-split f [] before c behind e = absurd (omega (arith, ap length e, length-append before (c ∷ behind)))
  map-split f (x ∷ xs) [] c behind e = record { left = []; one = x; right = xs; is = refl; first = refl; last = let t : map f xs ≡ behind = cc in sym t }
  map-split f (x ∷ xs) (b ∷ before) c behind e =
      let h : f x ≡ b = cc in
      let t : map f xs ≡ before ++ c ∷ behind = cc in
      let s = map-split f xs before c behind t in
      record {
        left = x ∷ s.left;
        one = s.one;
        right = s.right;
        is = ap (x ∷◌) s.is;
        first = ap (λ (y : Con N). y ∷ before) (sym h) ∙ ap (f x ∷◌) s.first;
        last = s.last;
      }

  module _ (lines final : List (Line N)) (o : Out [] lines [] final) where
    abbrev con : Line N → Con N
    con l = l.1

    none-for-all : ChoosingWide ν.same (map con final) → ⊥
    none-for-all ch = o.empty (record {
      choice = ch.choice;
      rational = ch.rational;
      makes = λ k m.
          let w = wide-from (final ++ []) k m in
          let i : Memᴰ w.line final = subst (λ (zs : List (Line N)). Memᴰ w.line zs) (append-nil final) w.within in
          ch.makes k (subst (λ (x : Con N). Memᴰ x (map con final)) (sym w.is) (map-to con final w.line i));
    })

    some-without-one : (before : List (Con N)) (c : Con N) (behind : List (Con N)) → map con final ≡ before ++ c ∷ behind
        → ChoosingWide ν.same (before ++ behind)
    some-without-one before c behind e = record {
      choice = ch.choice;
      rational = ch.rational;
      makes = λ k m. ch.makes k (among k (Memᴰ.append_cases before m));
    }
      where
        s : Behind con final before c behind
        s = map-split con final before c behind e

        new : o.new ≡ s.left ++ s.one ∷ s.right
        new = sym o.is ∙ s.is

        ch : Choosable ([] ++ (s.left ++ (s.right ++ [])))
        ch = o.needed s.left s.one s.right new

        in-new : (j : Line N) → Memᴰ j (s.left ++ s.one ∷ s.right) → wide j.1 ≡ true
        in-new j m = o.sides j (subst (λ (zs : List (Line N)). Memᴰ j zs) (sym new) m)

        among : (k : Con N) → Memᴰ k before ⊎ Memᴰ k behind → Memᴰ k (wideOf ([] ++ (s.left ++ (s.right ++ []))))
        among k (inl m) =
            let i = map-from con s.left k (subst (λ (zs : List (Con N)). Memᴰ k zs) s.first m) in
            subst (λ (x : Con N). Memᴰ x (wideOf (s.left ++ (s.right ++ [])))) (sym i.is)
            (wide-to (s.left ++ (s.right ++ [])) i.one (Memᴰ.append_left (s.right ++ []) i.within) (in-new i.one (Memᴰ.append_left (s.one ∷ s.right) i.within)))
        among k (inr m) =
            let i = map-from con s.right k (subst (λ (zs : List (Con N)). Memᴰ k zs) s.last m) in
            subst (λ (x : Con N). Memᴰ x (wideOf (s.left ++ (s.right ++ [])))) (sym i.is)
            (wide-to (s.left ++ (s.right ++ [])) i.one (Memᴰ.append_right s.left (Memᴰ.append_left [] i.within))
            (in-new i.one (Memᴰ.append_right s.left (Memᴰ.tail i.within))))

    pub conflict-of : Conflict ν.same (map con final)
    conflict-of = record { none-for-all = none-for-all; some-without-one = some-without-one }
