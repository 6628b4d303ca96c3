use Rattle.std.proofs.Common.{◌≡◌, Ok, sym, ap, ◌∙◌, subst}
use Rattle.lines.specs.declared.records.Line.TheVariants as L
use Rattle.script.specs.Apart.{own}
use Rattle.standing.specs.Standing.{IsProcedure}
use Rattle.rule.specs.Fine.{a_procedure}
use Rattle.rule.specs.Work.{gives}
use Rattle.engine.specs.Proper.{kinds_at}
use Rattle.engine.proofs.Acting.{of_line}
use Rattle.engine.proofs.Valuing.{value_from, cell_from, inner}
use Rattle.engine.proofs.Stepping.{call_law}
use Rattle.engine.proofs.levels.Engine.call.Goals as goal

pub returns-clause-begun : goal.returns-clause-begun
returns-clause-begun g c name points says G p qs k ready =
    let K = g.K.NumberKind.kind in
    let a = c.args in
    let rs = a.run.now.records.now in
    let fs = a.self.now.frames in
    let σ = g.S.Store.words a.store.now in
    let here = c.scene-scene.ensures in
    let store = ap g.S.Store.words here.store in
    let o = of_line G rs (kinds_at G p.env) p.text a.at.line (L.Call name a.value a.variable) says (ready.0).text (ready.0).fine in
    let v = value_from K a.at.line a.value _ rs _ fs _ a.at.level _ σ here.records here.frames here.level store (Ok c.in_ok-word.word) c.in_ok-word.ensures in
    let d = cell_from K a.at.line a.variable _ rs _ fs _ a.at.level _ σ here.records here.frames here.level store (Ok c.in_ok-cell.cell) c.in_ok-cell.ensures in
    let same = inner c.in-Some.procedure o.0 (sym c.in-Some.is ∙ sym points ∙ o.4) in
    call_law K a.run.now.size G rs fs a.at.level a.at.line p qs σ ready.0 ready.1 c.invoke.new.self.frames c.invoke.new.self.height (g.S.Store.words c.invoke.new.store) c.invoke.result
    name a.value a.variable (c.in-Some.procedure).line (gives c.in_ok-word.word) (gives c.in_ok-cell.cell) o (ap (λ d. d.line) same)
    (v G p.env o.1 k o.7 o.8 (ready.0).env o.9) (d G p.env o.2 k o.10 o.11 (ready.0).env o.12)
    (c.invoke.ensures.begun K G p qs (subst (λ d. IsProcedure rs d.line) (sym same) o.5) (subst (λ d. kinds_at G p.env (own d.line) ≡ a_procedure) (sym same) o.6) ready)
