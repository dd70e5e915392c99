-- An answer: what the call said, what the buffers hold, and both in bytes.
use Rattle.std.specs.Prelude.{cond, Bool, List, [], ◌∷◌, ◌++◌, ℕ, ◌+◌, ◌*◌, ◌-◌, ◌==◌, eqb, length, take, drop, replicate}
use Rattle.calls_defined.specs.Saying.{word}
use Rattle.rules.specs.Base.{all}
use Rattle.calls_defined.specs.Dispatch.{Served, dispatch}
use Rattle.calls_defined.specs.declared.Asked.{Asked}
use Rattle.calls_defined.specs.declared.numbers.Call.{Call}
use Rattle.calls_defined.specs.declared.told.Told.{Told}
use Rattle.serve_replies.specs.Bytes.{bytes_of}
use Rattle.serve_replies.specs.Requests.{Lending, lendingOf}
use Rattle.serve_replies.specs.declared.request.Header.{Header}

abbrev pub flagOf : Bool → ℕ → ℕ
flagOf is n = cond is n 0

-- 1: the result buffer is as before behind the answer; 2: the work buffer is all zero; 4: it is as before
abbrev pub flags_of : ℕ → ℕ → ℕ → List ℕ → List ℕ → ℕ
flags_of words result_was work_was result work =
    flagOf (all (λ x. x == result_was) (drop words result)) 1 + flagOf (all (λ x. x == 0) work) 2 + flagOf (all (λ x. x == work_was) work) 4

-- an answer: its length in bytes, what is told, the flags, how many words are the answer's, and the words behind
abbrev pub answerOf : Told → ℕ → List ℕ → List ℕ
answerOf t flags behind = word (28 + length behind * 4) ∷ t.refusal ∷ t.value ∷ t.more ∷ t.rounds ∷ flags ∷ word t.words ∷ behind

-- the first n words of a buffer, 0 where it is shorter; then both buffers whole, where the request asks for them
abbrev pub behindOf : Header → ℕ → List ℕ → List ℕ → List ℕ
behindOf h n result work = (take n result ++ replicate (n - length result) 0) ++ cond (eqb h.show 0) [] (result ++ work)

abbrev pub saidBy : Header → Served → List ℕ
saidBy h s = answerOf s.told (flags_of s.told.words h.result_was h.work_was s.result s.work) (behindOf h s.told.words s.result s.work)

abbrev pub askedBy : Header → Asked
askedBy h = record { x = h.x; y = h.y }

abbrev pub dispatchOn : Call → Header → Lending → Served
dispatchOn call h l = dispatch (askedBy h) l.pool l.table l.a l.b l.c l.d l.result l.work call

-- what is written for a request that can be served: the call's own answer on what was sent
unfoldable pub replyTo : Call → Header → List ℕ → List ℕ
replyTo call h body = bytes_of (saidBy h (dispatchOn call h (lendingOf h body)))

-- no request: all ones in the place of the refusal, and what is wrong
abbrev pub faultAs : ℕ → Told
faultAs n = record { refusal = 4294967295; value = n; more = 0; rounds = 0; words = 0 }

-- what is written for what is no request
unfoldable pub faultReply : ℕ → List ℕ
faultReply n = bytes_of (answerOf (faultAs n) 0 [])
