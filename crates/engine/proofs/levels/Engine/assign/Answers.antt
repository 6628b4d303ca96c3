use Rattle.std.proofs.Common.{Ok, sym, ap, subst}
use Rattle.lines.specs.declared.records.Line.TheVariants as L
use Rattle.engine.specs.Levels.{Waiting}
use Rattle.engine.specs.Proper.{kinds_at}
use Rattle.engine.proofs.Acting.{of_line}
use Rattle.engine.proofs.Valuing.{value_from, cell_from}
use Rattle.engine.proofs.Stepping.{assign_law}
use Rattle.engine.proofs.levels.Engine.assign.Goals as goal

pub returns-clause-begun : goal.returns-clause-begun
returns-clause-begun g c says G p qs k ready =
    let K = g.K.NumberKind.kind in
    let a = c.args in
    let rs = a.run.now.records.now in
    let fs = a.self.now.frames in
    let σ = g.S.Store.words a.store.now in
    let here = c.scene-scene.ensures in
    let store = ap g.S.Store.words here.store in
    let o = of_line G rs (kinds_at G p.env) p.text a.at.line (L.Assignment a.variable a.value) says (ready.0).text (ready.0).fine in
    let v = value_from K a.at.line a.value _ rs _ fs _ a.at.level _ σ here.records here.frames here.level store (Ok c.in_ok-word.word) c.in_ok-word.ensures in
    let d = cell_from K a.at.line a.variable _ rs _ fs _ a.at.level _ σ here.records here.frames here.level store (Ok c.in_ok-cell.cell) c.in_ok-cell.ensures in
    let below = subst (λ x. Waiting G rs x c.leave.new.self.height qs) (sym c.leave.ensures.frames) (subst (λ n. Waiting G rs fs n qs) (sym c.leave.ensures.height) ready.1) in
    assign_law K a.run.now.size G rs fs a.at.level a.at.line p qs σ ready.0 ready.1 c.leave.new.self.frames c.leave.new.self.height (g.S.Store.words c.put.new.store) c.put.result
    a.variable a.value c.in_ok-word.word c.in_ok-cell.cell o
    (v G p.env o.1 k o.6 o.7 (ready.0).env o.8) (d G p.env o.0 k o.3 o.4 (ready.0).env o.5) c.put.ensures.answer c.put.ensures.words below
