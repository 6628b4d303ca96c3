use Rattle.lines.specs.declared.records.Line.TheVariants as L
use Rattle.engine.specs.Proper.{kinds_at}
use Rattle.engine.proofs.Acting.{of_line}
use Rattle.engine.proofs.Stepping.{sequence_went}
use Rattle.engine.proofs.levels.Engine.sequence.Goals as goal

pub returns : goal.returns
returns c K σ says G p qs k ready =
    let a = c.args in
    let rs = a.run.now.records.now in
    let e = c.enter in
    let o = of_line G rs (kinds_at G p.env) p.text a.at.line (L.Sequence a.first a.second) says (ready.0).text (ready.0).fine in
    sequence_went K a.run.now.size G rs a.self.now.frames a.at.level a.at.line p qs σ ready.0 ready.1 e.new.self.frames e.new.self.height c.binder.result c.binder.ensures e.result a.first a.second 0 o
    e.ensures.moved e.ensures.frames
