use Rattle.std.proofs.Common.{ap, Ok}
use Rattle.lines.specs.declared.records.Line.TheVariants as L
use Rattle.engine.specs.Proper.{kinds_at}
use Rattle.engine.proofs.Acting.{of_line}
use Rattle.engine.proofs.Valuing.{truth_from}
use Rattle.engine.proofs.Stepping.{branch_law}
use Rattle.engine.proofs.levels.Engine.branch.Goals as goal

pub returns : goal.returns
returns g c says G p qs k ready =
    let K = g.K.NumberKind.kind in
    let a = c.args in
    let rs = a.run.now.records.now in
    let fs = a.self.now.frames in
    let σ = g.S.Store.words a.store.now in
    let here = c.scene-scene.ensures in
    let o = of_line G rs (kinds_at G p.env) p.text a.at.line (L.Branch a.condition a.chosen a.otherwise) says (ready.0).text (ready.0).fine in
    let v = truth_from K a.at.line a.condition _ rs _ fs _ a.at.level _ σ here.records here.frames here.level (ap g.S.Store.words here.store) (Ok c.in_ok-holds.holds) c.in_ok-holds.ensures in
    branch_law K a.run.now.size G rs fs a.at.level a.at.line p qs σ ready.0 ready.1 c.stay.new.self.frames c.stay.new.self.height
    a.condition a.chosen a.otherwise c.taken.result c.in_ok-holds.holds o (v G p.env o.0 k o.4 o.5 (ready.0).env o.6) c.taken.ensures c.stay.ensures.height c.stay.ensures.frames
