-- What follows from the definitions of specs/Answers: how long the answer of solving is, as words, and words at the front of a buffer.
use Rattle.std.specs.Prelude.{◌≡◌, refl, List, ◌++◌, map, ℕ, ◌+◌, ◌*◌, ◌≤◌, length, drop}
use Rattle.std.proofs.Common.{ap, ap₂, ◌∙◌, arith, zero-add, length-append}
use Rattle.std.proofs.lemmas.List.{length-map}
use Rattle.std.proofs.lemmas.List.Edits.{sets, sets-eq}
use Rattle.rules.specs.Base.{Got, got, refused, collect, sum_of}
use Rattle.rules.specs.Batches.{answeredWords, recordsOf, fourWords}
use Rattle.rules.specs.Calls.{over, Solved, solved, unsolved, refusedAfter, solvedOf, solvedWords}
use Rattle.rules.specs.Solving.{Answer, accepted, remaining, stopped}
use Rattle.rules.specs.Trees.{var, Binding, sizeBinding}
use Rattle.rules.specs.Writing.{writeBinding, writeBound, writeCon}
use Rattle.laws.proofs.Size.{words-length, set-length, bindings-length}
use Rattle.laws.specs.Answers.{words_of, manyOf}

-- in a buffer that has room for them
pub over-is : (ws b : List ℕ) → length ws ≤ length b → sets b 0 ws ≡ over ws b
unfolding over
over-is ws b h = sets-eq ws b 0 (omega arith) ∙ ap (λ (k : ℕ). ws ++ drop k b) (zero-add (length ws))

pub records-length : (bs : List (Binding ℕ)) (ns : List ℕ)
    → length (collect writeBinding bs ++ map (λ n. writeBound (var n)) ns) ≡ sum_of sizeBinding bs + length ns
records-length bs ns = length-append (collect writeBinding bs) (map (λ n. writeBound (var n)) ns)
    ∙ ap₂ ◌+◌ (bindings-length bs) (length-map ns (λ n. writeBound (var n)))

-- four words a record
pub answer-long : (a : Got (Answer ℕ)) → length (words_of a) ≡ manyOf a * 4
unfolding solvedOf solvedWords answeredWords recordsOf
answer-long (refused n) = refl
answer-long (got (accepted bs ns k)) = words-length (collect writeBinding bs ++ map (λ n. writeBound (var n)) ns) ∙ ap (λ (n : ℕ). n * 4) (records-length bs ns)
answer-long (got (remaining cs k)) = words-length (collect writeCon cs) ∙ ap (λ (n : ℕ). n * 4) (set-length cs)
answer-long (got (stopped n k)) = refl

-- and four that tell of it
pub four-long : (s : Solved) → length (fourWords s) ≡ 4
unfolding fourWords
four-long (solved b n k) = refl
four-long (unsolved n k) = refl
four-long (refusedAfter r k) = refl
