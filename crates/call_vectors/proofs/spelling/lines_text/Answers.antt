use Rattle.std.proofs.Common.{rules, length}
use Rattle.std.specs.String.{string_bytes}
use Rattle.std.proofs.lemmas.Slice.Zip.{zip_end}
use Rattle.call_vectors.proofs.Lines.{all_told}
use Rattle.call_vectors.proofs.spelling.lines_text.Goals as goal

pub returns : goal.returns
returns c =
    all_told c.args.calls.now c.args.replies.now (length c.loop-call.yielded) (string_bytes c.loop-call.text)
    (zip_end c.args.calls.now c.args.replies.now c.loop-call.yielded c.into_iter-call-iterator.result c.loop-call.call-iterator c.next.new.self c.next.result (search rules) (search rules) c.loop-call.yielded_by (search rules) (search rules))
    c.loop-call.invariant
