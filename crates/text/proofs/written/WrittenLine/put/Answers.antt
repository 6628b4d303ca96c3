use Rattle.std.proofs.Common.{arith, length-set}
use Rattle.text.proofs.Placed.{length_spelling, line_placed}
use Rattle.text.proofs.written.WrittenLine.put.Goals as goal

pub put_field-at-requires : goal.put_field-at-requires
put_field-at-requires c = simp length-set (omega (arith, length_spelling c.args.self.now))

pub put_field-at-requires-2 : goal.put_field-at-requires-2
put_field-at-requires-2 c = omega (arith, length_spelling c.args.self.now, length-set c.args.buffer.now 0 c.args.self.now.letter)

pub put_field-at-requires-3 : goal.put_field-at-requires-3
put_field-at-requires-3 c = omega (arith, length_spelling c.args.self.now, length-set c.args.buffer.now 0 c.args.self.now.letter)

pub bounds-buffer-at : goal.bounds-buffer-at
bounds-buffer-at c = omega (arith, length_spelling c.args.self.now, length-set c.args.buffer.now 0 c.args.self.now.letter)

pub returns : goal.returns
returns c =
    line_placed c.args.self.now c.args.buffer.now _ _ _ _ _ _ c.requires
    c.put_field-at.ensures.left c.put_field-at.ensures.end
    c.put_field-at-2.ensures.left c.put_field-at-2.ensures.end
    c.put_field-at-3.ensures.left c.put_field-at-3.ensures.end
    (omega (arith, length-set c.args.buffer.now 0 c.args.self.now.letter))
