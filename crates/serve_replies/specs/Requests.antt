-- The head of a request, sixteen words; what makes it a request that can be served; and what such a request lends.
use Rattle.std.specs.Prelude.{cond, Option, None, Some, Result, Ok, Err, List, ◌++◌, ℕ, ◌+◌, ◌*◌, ◌-◌, ◌/◌, ltb, eqb, length, take, drop, replicate}
use Rattle.rules.specs.Base.{oneIf}
use Rattle.calls_defined.specs.Numbers.{callOf}
use Rattle.calls_defined.specs.declared.numbers.Call.{Call}
use Rattle.serve_replies.specs.Bytes.{word_at, words_in}
use Rattle.serve_replies.specs.declared.lent.Lent.{Lent}
use Rattle.serve_replies.specs.declared.request.Fault.{Fault}
use Rattle.serve_replies.specs.declared.request.Fault.TheVariants.{Torn, Unknown, TooLong, Untrue}
use Rattle.serve_replies.specs.declared.request.Header.{Header}

abbrev pub head_of : List ℕ → Header
head_of s = record {
  body = word_at s 0;
  call = word_at s 4;
  x = word_at s 8;
  y = word_at s 12;
  result_was = word_at s 16;
  result = word_at s 20;
  work_was = word_at s 24;
  work = word_at s 28;
  pool = word_at s 32;
  table = word_at s 36;
  a = word_at s 40;
  b = word_at s 44;
  show = word_at s 48;
  c = word_at s 52;
  d = word_at s 56;
  whole = word_at s 60;
}

-- 1 where a length is over its room
abbrev pub overBy : ℕ → ℕ → ℕ
overBy n most = oneIf (ltb most n)

-- the most words of a result buffer: a large one is not shown whole
abbrev pub roomOf : ℕ → ℕ
roomOf show = cond (eqb show 0) 533504 9216

-- how many words of a head are over their room
unfoldable pub excessOf : Header → ℕ
excessOf h =
    (overBy h.result (roomOf h.show) + overBy h.work 20480 + overBy h.pool 9216 + overBy h.table 512) +
    (overBy h.a 10240 + overBy h.b 10240 + overBy h.c 10240 + overBy h.d 10240) +
    overBy h.body 98304 + overBy h.show 1 + overBy h.whole 1

-- the bytes of a pool with those that fill up its last word
abbrev pub filledTo : ℕ → ℕ
filledTo n = (n + 3) / 4 * 4

-- the bytes of pool, table and lists together
abbrev pub parts_of : Header → ℕ
parts_of h = filledTo h.pool + (h.table + h.a + h.b + h.c + h.d) * 4

abbrev pub faultNumber : Fault → ℕ
faultNumber Torn = 1
faultNumber Unknown = 2
faultNumber TooLong = 3
faultNumber Untrue = 4

-- of a call that there is: its request has room, and a body as long as its parts
abbrev pub servedAs : Header → Option Call → Result Call Fault
servedAs h None = Err Unknown
servedAs h (Some call) = cond (ltb 0 (excessOf h)) (Err TooLong) (cond (eqb h.body (parts_of h)) (Ok call) (Err Untrue))

-- the call that a request is for, or the first thing that is wrong with it
unfoldable pub requestOf : Header → Result Call Fault
requestOf h = servedAs h (callOf h.call)

-- ══ What a request lends ══

-- where the parts of the body begin
abbrev pub tableAt : Header → ℕ
tableAt h = filledTo h.pool

abbrev pub aAt : Header → ℕ
aAt h = tableAt h + h.table * 4

abbrev pub bAt : Header → ℕ
bAt h = aAt h + h.a * 4

abbrev pub cAt : Header → ℕ
cAt h = bAt h + h.b * 4

abbrev pub dAt : Header → ℕ
dAt h = cAt h + h.c * 4

-- with so much behind that it has n elements at the least
abbrev pub padded : {A : Type 0} → List A → ℕ → A → List A
padded s n x = s ++ replicate (n - length s) x

-- a whole name table's length, where the request asks for one
abbrev pub leastOf : Header → ℕ → ℕ
leastOf h n = cond (eqb h.whole 0) 0 n

-- a name table, four lists and two buffers
pub record Lending : Type 0 where
  pub pool : List ℕ
  pub table : List ℕ
  pub a : List ℕ
  pub b : List ℕ
  pub c : List ℕ
  pub d : List ℕ
  pub result : List ℕ
  pub work : List ℕ

unfoldable pub lendingOf : Header → List ℕ → Lending
lendingOf h body = record {
  pool = padded (take h.pool body) (leastOf h 8192) 0;
  table = padded (words_in (drop (tableAt h) body) h.table) (leastOf h 257) 0;
  a = words_in (drop (aAt h) body) h.a;
  b = words_in (drop (bAt h) body) h.b;
  c = words_in (drop (cAt h) body) h.c;
  d = words_in (drop (dAt h) body) h.d;
  result = replicate h.result h.result_was;
  work = replicate h.work h.work_was;
}

-- the same of the program's lists
abbrev pub lent_as : Lent → Lending
lent_as l = record {
  pool = l.pool.items;
  table = l.table.items;
  a = l.a.items;
  b = l.b.items;
  c = l.c.items;
  d = l.d.items;
  result = l.result.items;
  work = l.work.items;
}
