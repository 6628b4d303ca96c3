use Rattle.std.proofs.Common.{◌≡◌, ◌++◌, length, drop}
use Rattle.std.specs.String.{string_bytes}
use Rattle.call_vectors.specs.Spelling.{lines_text}
use Rattle.call_vectors.proofs.spelling.lines_text.Given as goal

-- what is written, with the lines of the calls and replies that are left, is the whole
abbrev pub invariant-loop-call : goal.invariant-loop-call
invariant-loop-call l = string_bytes l.text ++ lines_text (drop (length l.yielded) l.calls) (drop (length l.yielded) l.replies) ≡ lines_text l.calls l.replies
