-- What follows from the definitions of specs/Sinks: sinks of bytes: what they hold, what room they have, and what it means that bytes are put.
use Rattle.std.specs.Prelude.{◌≡◌, refl, ℕ, ◌-◌, ◌≤◌, [], ◌++◌, length, take, drop, Result, Ok, Err, IsErr}
use Rattle.std.proofs.Common.{sym, ap, ◌∙◌, arith, append_assoc, append-nil, length-append, length-drop}
use Rattle.std.proofs.Math.Seq.{take-append_seam}
use Rattle.std.proofs.lemmas.List.{drop-drop, length-take, take-take, take_all}
use Rattle.rules.specs.Names.{Bytes}
use Rattle.laws.proofs.Lists.{true≢false}
use Rattle.text_spell.specs.Sinks.{Place, Keeps, Puts}

pub behind : (xs ys zs : Bytes) → ys ≡ xs ++ zs → Keeps xs ys
behind xs ys zs e = ap (take (length xs)) e ∙ take-append_seam xs zs

kept-on : (xs ys zs : Bytes) → Keeps xs ys → Keeps ys zs → Keeps xs zs
kept-on xs ys zs a b =
    let n : length xs ≤ length ys = let k = sym (length-take (length xs) ys) ∙ ap length a in omega (arith, k) in
    sym (take-take (length xs) (length ys) zs n) ∙ ap (take (length xs)) b ∙ a

-- nothing is put
pub nothing : {E : Type 0} (p : Place) → Puts {E = E} p [] (Ok tt) p
nothing p = record { puts = sym (append-nil p.held); rest = refl; full = tt; kept = take_all (length p.held) p.held (omega arith); same = refl }

-- bytes behind others that were put
pub then : {E F : Type 0} {p q s : Place} {a b : Bytes} (r : Result (Unit {0}) E) → Puts {E = F} p a (Ok tt) q → Puts q b r s → Puts p (a ++ b) r s
then {E} {F} {p} {q} {s} {a} {b} (Ok u) x y = record {
  puts = y.puts ∙ ap (λ (h : Bytes). h ++ b) x.puts ∙ append_assoc p.held a b;
  rest = y.rest ∙ ap (drop (length b)) x.rest ∙ drop-drop (length b) (length a) p.room ∙ ap (λ (n : ℕ). drop n p.room) (sym (length-append a b));
  full = tt;
  kept = kept-on p.held q.held s.held x.kept y.kept;
  same = y.same ∙ x.same;
}
then {E} {F} {p} {q} {s} {a} {b} (Err e) x y = record {
  puts = tt;
  rest = tt;
  full = let k : length q.room ≡ length p.room - length a = ap length x.rest ∙ length-drop (length a) p.room in simp length-append (omega (arith, k, y.full));
  kept = kept-on p.held q.held s.held x.kept y.kept;
  same = y.same ∙ x.same;
}

-- where some have no room, more have none
pub longer : {E F : Type 0} {p q : Place} {a b : Bytes} {e : F} (r : Result (Unit {0}) E) → IsErr r → length a ≤ length b → Puts p a (Err e) q → Puts p b r q
longer (Ok u) i h x = absurd (true≢false (sym i))
longer (Err f) i h x = record { puts = tt; rest = tt; full = omega (arith, h, x.full); kept = x.kept; same = x.same }

pub cut : {E F : Type 0} {p q : Place} {a : Bytes} {e : F} (b : Bytes) (r : Result (Unit {0}) E) → IsErr r → Puts p a (Err e) q → Puts p (a ++ b) r q
cut {E} {F} {p} {q} {a} {e} b r i x = longer r i (let k = length-append a b in omega (arith, k)) x
