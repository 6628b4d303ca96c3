use Rattle.lines.specs.declared.records.Line.TheVariants as L
use Rattle.engine.specs.Proper.{kinds_at}
use Rattle.engine.proofs.Acting.{of_line}
use Rattle.engine.proofs.Stepping.{new_array_law}
use Rattle.engine.proofs.levels.Engine.new_array.Goals as goal

pub returns-clause-begun : goal.returns-clause-begun
returns-clause-begun g c name says G p qs k ready =
    let K = g.K.NumberKind.kind in
    let a = c.args in
    let rs = a.run.now.records.now in
    let e = c.enter in
    let i = c.in_ok-enter in
    let o = of_line G rs (kinds_at G p.env) p.text a.at.line (L.NewArray name a.length a.body) says (ready.0).text (ready.0).fine in
    new_array_law K a.run.now.size G rs a.self.now.frames a.at.level a.at.line p qs (g.S.Store.words a.store.now) ready.0 ready.1
    e.new.self.frames e.new.self.height (g.S.Store.words c.clear.new.store) e.result c.clear.result c.binder.result c.binder.ensures name a.length a.body c.used-first.result c.zero.result o
    c.used-first.ensures (e.ensures.moved, i.was, i.ensures.frames) c.clear.ensures.answer c.zero.ensures c.clear.ensures.words
