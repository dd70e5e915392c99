-- What is lent is what was sent.
use Rattle.std.proofs.Common.{ℕ, List, ◌+◌, ◌*◌, drop, ap, ◌∙◌}
use Rattle.serve_replies.specs.Bytes.{words_in}
use Rattle.serve_replies.specs.Requests.{padded, leastOf, lendingOf}
use Rattle.serve_replies.proofs.lent.Lent.new.Goals as goal

pub returns : goal.returns
unfolding lendingOf
returns c =
    let h = c.args.h in
    let body = c.args.body.now in
    let a = h.table * 4 in
    let b = h.a * 4 in
    let words : (k n : ℕ) → List ℕ = λ k n. words_in (drop k body) n in
    λ i. record {
      pool = c.in_ok-pool_of.ensures i;
      table = (c.in_ok-table_of.ensures ∙ ap (λ t. padded (words t h.table) (leastOf h 257) 0) c.filled-table.ensures) i;
      a = (c.in_ok-words_from.ensures ∙ ap (λ t. words (t + a) h.a) c.filled-table.ensures) i;
      b = (c.in_ok-words_from-2.ensures ∙ ap (λ t. words (t + a + b) h.b) c.filled-table.ensures) i;
      c = (c.in_ok-words_from-3.ensures ∙ ap (λ t. words (t + a + b + h.b * 4) h.c) c.filled-table.ensures) i;
      d = (c.in_ok-words_from-4.ensures ∙ ap (λ t. words (t + a + b + h.b * 4 + h.c * 4) h.d) c.filled-table.ensures) i;
      result = c.in_ok-alike.ensures i;
      work = c.in_ok-alike-2.ensures i;
    }
