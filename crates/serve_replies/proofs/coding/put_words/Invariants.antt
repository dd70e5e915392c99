use Rattle.std.specs.Prelude.{◌≡◌, ◌++◌, take}
use Rattle.serve_replies.specs.Bytes.{bytes_of}
use Rattle.serve_replies.proofs.coding.put_words.Given as goal

-- the words so far stand behind what was there
abbrev pub invariant-loop-word : goal.invariant-loop-word
invariant-loop-word l = l.out.items ≡ l.initial.out.items ++ bytes_of (take l.word-index l.words)
