use Rattle.std.proofs.Common.{◌≡◌, ◌<◌, true, false, Err, SFits, w32, to_z-of_z, ok_or, sym, ap, ◌∙◌, subst, rules}
use Rattle.kinds.specs.Arithmetic.{constant_word}
use Rattle.lines.specs.declared.records.Line.TheVariants as L
use Rattle.standing.specs.Standing.{StandsExpression}
use Rattle.rule.specs.Work.{gives}
use Rattle.rule.specs.Fine.{FineExpression}
use Rattle.rule.specs.Machine.{standing}
use Rattle.rule.specs.Values.{value, holds, operate, compare, material}
use Rattle.rule.specs.Handed.{handed}
use Rattle.faults.specs.declared.fault.Fault.TheVariants.{Refused}
use Rattle.faults.specs.Faults.{told, number_of}
use Rattle.engine.specs.Proper.{kinds_at}
use Rattle.engine.proofs.Naming.{cell_there, cells_there}
use Rattle.engine.proofs.Valuing.{of_word, of_truth, of_place, of_variable, no_word, no_truth, no_place, other_word, other_truth, other_place, pick, of_both, left_fault, right_fault, simple_cell, element_cell, element_none, element_fault, place_word, place_fault, choose_law, choose_fault, negated_law, negated_fault, constant_law}
use Rattle.engine.proofs.scene.Scene.+holds_place_value.Goals as goal

pub holds-returns-in_default : goal.holds-returns-in_default
holds-returns-in_default g m c G ρ e k l t w fine =
    let s = c.args.self.now in
    absurd (no_truth G s.records.now (kinds_at G ρ) e c.args.line (c.in_default.ensures.told l) t fine)

pub holds-returns-in_err-a-in-Comparison : goal.holds-returns-in_err-a-in-Comparison
holds-returns-in_err-a-in-Comparison g m c G ρ e k l t w fine =
    let K = g.K.NumberKind.kind in
    let s = c.args.self.now in
    let E = standing G ρ in
    let f = handed K (g.S.Store.words s.store.now) in
    let κ = kinds_at G ρ in
    let o = of_truth G s.records.now κ e c.args.line c.in-Some.record (L.Comparison c.in-Comparison.relation c.in-Comparison.left c.in-Comparison.right) (c.in-Some.ensures.told l) c.in-Comparison.is t fine in
    let x = c.in_err-a-in-Comparison.field-0.0 in
    let r : c.from_residual.result ≡ Err x = search rules in
    ap told r
    ∙ left_fault (λ v u. gives (compare K c.in-Comparison.relation v u)) (value K E f o.0) (value K E f o.1) (holds K E f e) (ap (holds K E f) (sym o.2)) (number_of x) (c.in_err-a-in-Comparison.ensures G ρ o.0 k o.3 o.4 w o.5)

pub holds-returns-in_err-b-in-Comparison : goal.holds-returns-in_err-b-in-Comparison
holds-returns-in_err-b-in-Comparison g m c G ρ e k l t w fine =
    let K = g.K.NumberKind.kind in
    let s = c.args.self.now in
    let E = standing G ρ in
    let f = handed K (g.S.Store.words s.store.now) in
    let κ = kinds_at G ρ in
    let o = of_truth G s.records.now κ e c.args.line c.in-Some.record (L.Comparison c.in-Comparison.relation c.in-Comparison.left c.in-Comparison.right) (c.in-Some.ensures.told l) c.in-Comparison.is t fine in
    let x = c.in_err-b-in-Comparison.field-0.0 in
    let r : c.from_residual-in_err-b-in-Comparison.result ≡ Err x = search rules in
    ap told r
    ∙ right_fault (λ v u. gives (compare K c.in-Comparison.relation v u)) (value K E f o.0) (value K E f o.1) (holds K E f e) (ap (holds K E f) (sym o.2)) c.in_ok-a-in-Comparison.a (number_of x) (c.in_ok-a-in-Comparison.ensures G ρ o.0 k o.3 o.4 w o.5) (c.in_err-b-in-Comparison.ensures G ρ o.1 k o.6 o.7 w o.8)

pub holds-returns-in_err-holds-in-Negation : goal.holds-returns-in_err-holds-in-Negation
holds-returns-in_err-holds-in-Negation g m c G ρ e k l t w fine =
    let K = g.K.NumberKind.kind in
    let s = c.args.self.now in
    let E = standing G ρ in
    let f = handed K (g.S.Store.words s.store.now) in
    let κ = kinds_at G ρ in
    let o = of_truth G s.records.now κ e c.args.line c.in-Some.record (L.Negation c.in-Negation.condition) (c.in-Some.ensures.told l) c.in-Negation.is t fine in
    let x = c.in_err-holds-in-Negation.field-0.0 in
    let r : c.from_residual-in_err-holds-in-Negation.result ≡ Err x = search rules in
    ap told r
    ∙ negated_fault K E f o.0 e (number_of x) (c.in_err-holds-in-Negation.ensures G ρ o.0 k o.2 o.3 w o.4) o.1

pub holds-returns-in_err-a-in-Implication : goal.holds-returns-in_err-a-in-Implication
holds-returns-in_err-a-in-Implication g m c G ρ e k l t w fine =
    let K = g.K.NumberKind.kind in
    let s = c.args.self.now in
    let E = standing G ρ in
    let f = handed K (g.S.Store.words s.store.now) in
    let κ = kinds_at G ρ in
    let o = of_truth G s.records.now κ e c.args.line c.in-Some.record (L.Implication c.in-Implication.premise c.in-Implication.conclusion) (c.in-Some.ensures.told l) c.in-Implication.is t fine in
    let x = c.in_err-a-in-Implication.field-0.0 in
    let r : c.from_residual-in_err-a-in-Implication.result ≡ Err x = search rules in
    ap told r
    ∙ left_fault (λ v u. gives (material v u)) (holds K E f o.0) (holds K E f o.1) (holds K E f e) (ap (holds K E f) (sym o.2)) (number_of x) (c.in_err-a-in-Implication.ensures G ρ o.0 k o.3 o.4 w o.5)

pub holds-returns-in_err-b-in-Implication : goal.holds-returns-in_err-b-in-Implication
holds-returns-in_err-b-in-Implication g m c G ρ e k l t w fine =
    let K = g.K.NumberKind.kind in
    let s = c.args.self.now in
    let E = standing G ρ in
    let f = handed K (g.S.Store.words s.store.now) in
    let κ = kinds_at G ρ in
    let o = of_truth G s.records.now κ e c.args.line c.in-Some.record (L.Implication c.in-Implication.premise c.in-Implication.conclusion) (c.in-Some.ensures.told l) c.in-Implication.is t fine in
    let x = c.in_err-b-in-Implication.field-0.0 in
    let r : c.from_residual-in_err-b-in-Implication.result ≡ Err x = search rules in
    ap told r
    ∙ right_fault (λ v u. gives (material v u)) (holds K E f o.0) (holds K E f o.1) (holds K E f e) (ap (holds K E f) (sym o.2)) c.in_ok-a-in-Implication.a (number_of x) (c.in_ok-a-in-Implication.ensures G ρ o.0 k o.3 o.4 w o.5) (c.in_err-b-in-Implication.ensures G ρ o.1 k o.6 o.7 w o.8)

pub holds-returns-in-Truth : goal.holds-returns-in-Truth
holds-returns-in-Truth g m c G ρ e k l t w fine =
    let K = g.K.NumberKind.kind in
    let s = c.args.self.now in
    let E = standing G ρ in
    let f = handed K (g.S.Store.words s.store.now) in
    let κ = kinds_at G ρ in
    let o = of_truth G s.records.now κ e c.args.line c.in-Some.record (L.Truth c.in-Truth.value) (c.in-Some.ensures.told l) c.in-Truth.is t fine in
    ap (holds K E f) (sym o)

pub holds-returns-in_ok-b-in-Comparison : goal.holds-returns-in_ok-b-in-Comparison
holds-returns-in_ok-b-in-Comparison g m c G ρ e k l t w fine =
    let K = g.K.NumberKind.kind in
    let s = c.args.self.now in
    let E = standing G ρ in
    let f = handed K (g.S.Store.words s.store.now) in
    let κ = kinds_at G ρ in
    let o = of_truth G s.records.now κ e c.args.line c.in-Some.record (L.Comparison c.in-Comparison.relation c.in-Comparison.left c.in-Comparison.right) (c.in-Some.ensures.told l) c.in-Comparison.is t fine in
    ap gives c.comparison.ensures
    ∙ of_both (λ v u. gives (compare K c.in-Comparison.relation v u)) (value K E f o.0) (value K E f o.1) (holds K E f e) (ap (holds K E f) (sym o.2)) c.in_ok-a-in-Comparison.a c.in_ok-b-in-Comparison.b (c.in_ok-a-in-Comparison.ensures G ρ o.0 k o.3 o.4 w o.5) (c.in_ok-b-in-Comparison.ensures G ρ o.1 k o.6 o.7 w o.8)

pub holds-returns-in_ok-holds-in-Negation : goal.holds-returns-in_ok-holds-in-Negation
holds-returns-in_ok-holds-in-Negation g m c G ρ e k l t w fine =
    let K = g.K.NumberKind.kind in
    let s = c.args.self.now in
    let E = standing G ρ in
    let f = handed K (g.S.Store.words s.store.now) in
    let κ = kinds_at G ρ in
    let o = of_truth G s.records.now κ e c.args.line c.in-Some.record (L.Negation c.in-Negation.condition) (c.in-Some.ensures.told l) c.in-Negation.is t fine in
    negated_law K E f o.0 e c.in_ok-holds-in-Negation.holds (c.in_ok-holds-in-Negation.ensures G ρ o.0 k o.2 o.3 w o.4) o.1

pub holds-returns-in_ok-b-in-Implication : goal.holds-returns-in_ok-b-in-Implication
holds-returns-in_ok-b-in-Implication g m c G ρ e k l t w fine =
    let K = g.K.NumberKind.kind in
    let s = c.args.self.now in
    let E = standing G ρ in
    let f = handed K (g.S.Store.words s.store.now) in
    let κ = kinds_at G ρ in
    let o = of_truth G s.records.now κ e c.args.line c.in-Some.record (L.Implication c.in-Implication.premise c.in-Implication.conclusion) (c.in-Some.ensures.told l) c.in-Implication.is t fine in
    ap gives c.implied.ensures
    ∙ of_both (λ v u. gives (material v u)) (holds K E f o.0) (holds K E f o.1) (holds K E f e) (ap (holds K E f) (sym o.2)) c.in_ok-a-in-Implication.a c.in_ok-b-in-Implication.b (c.in_ok-a-in-Implication.ensures G ρ o.0 k o.3 o.4 w o.5) (c.in_ok-b-in-Implication.ensures G ρ o.1 k o.6 o.7 w o.8)

pub holds-returns-in_default-line : goal.holds-returns-in_default-line
holds-returns-in_default-line g m c G ρ e k l t w fine =
    let s = c.args.self.now in
    let d = c.in_default-line in
    absurd (other_truth G s.records.now (kinds_at G ρ) e c.args.line c.in-Some.record (c.in-Some.ensures.told l) d.not-Truth d.not-Comparison d.not-Negation d.not-Implication t fine)

pub place-returns-in_default : goal.place-returns-in_default
place-returns-in_default g m c G ρ e k l t w fine =
    let s = c.args.self.now in
    absurd (no_place G s.records.now (kinds_at G ρ) e c.args.line (c.in_default.ensures.told l) t fine)

pub place-returns-in_err-word-in-Element : goal.place-returns-in_err-word-in-Element
place-returns-in_err-word-in-Element g m c G ρ e k l t w fine =
    let K = g.K.NumberKind.kind in
    let s = c.args.self.now in
    let E = standing G ρ in
    let f = handed K (g.S.Store.words s.store.now) in
    let κ = kinds_at G ρ in
    let o = of_place G s.records.now κ e c.args.line c.in-Some.record (L.Element c.in-Element.name c.in-Element.index) (c.in-Some.ensures.told l) c.in-Element.is t fine in
    let x = c.in_err-word-in-Element.field-0.0 in
    let r : c.from_residual.result ≡ Err x = search rules in
    ap told r
    ∙ element_fault K E f o.0 o.2 e o.3 (number_of x) (c.in_err-word-in-Element.ensures G ρ o.2 k o.7 o.8 w o.9)

pub place-returns-in_default-index : goal.place-returns-in_default-index
place-returns-in_default-index g m c G ρ e k l t w fine =
    let K = g.K.NumberKind.kind in
    let s = c.args.self.now in
    let E = standing G ρ in
    let f = handed K (g.S.Store.words s.store.now) in
    let κ = kinds_at G ρ in
    let o = of_place G s.records.now κ e c.args.line c.in-Some.record (L.Element c.in-Element.name c.in-Element.index) (c.in-Some.ensures.told l) c.in-Element.is t fine in
    element_none K E f o.0 o.2 e o.3 c.in_ok-word-in-Element.word (c.in_ok-word-in-Element.ensures G ρ o.2 k o.7 o.8 w o.9) (sym c.in_default-index.ensures)

pub place-returns-in-Simple : goal.place-returns-in-Simple
place-returns-in-Simple g m c G ρ e k l t w fine =
    let K = g.K.NumberKind.kind in
    let s = c.args.self.now in
    let E = standing G ρ in
    let f = handed K (g.S.Store.words s.store.now) in
    let κ = kinds_at G ρ in
    let o = of_place G s.records.now κ e c.args.line c.in-Some.record (L.Simple c.in-Simple.name) (c.in-Some.ensures.told l) c.in-Simple.is t fine in
    let n = c.named.ensures o.1 o.3 G ρ o.0 w o.4 in
    let x = cell_there G ρ o.0 o.5 in
    c.cell.ensures ∙ simple_cell K E f o.0 x.0 c.named.result e x.1 n o.2

pub place-returns-in-Some-index : goal.place-returns-in-Some-index
place-returns-in-Some-index g m c G ρ e k l t w fine =
    let K = g.K.NumberKind.kind in
    let s = c.args.self.now in
    let E = standing G ρ in
    let f = handed K (g.S.Store.words s.store.now) in
    let κ = kinds_at G ρ in
    let o = of_place G s.records.now κ e c.args.line c.in-Some.record (L.Element c.in-Element.name c.in-Element.index) (c.in-Some.ensures.told l) c.in-Element.is t fine in
    let n = c.named-in-Element.ensures o.1 o.4 G ρ o.0 w o.5 in
    let x = cells_there G ρ o.0 o.6 in
    c.within.ensures
    ∙ element_cell K E f o.0 o.2 e o.3 x.0 x.1 c.named-in-Element.result c.in_ok-word-in-Element.word c.in-Some-index.i x.2 n (c.in_ok-word-in-Element.ensures G ρ o.2 k o.7 o.8 w o.9) (sym c.in-Some-index.ensures)

pub place-returns-in_default-line : goal.place-returns-in_default-line
place-returns-in_default-line g m c G ρ e k l t w fine =
    let s = c.args.self.now in
    let d = c.in_default-line in
    absurd (other_place G s.records.now (kinds_at G ρ) e c.args.line c.in-Some.record (c.in-Some.ensures.told l) d.not-Simple d.not-Element t fine)

pub value-returns-in_default : goal.value-returns-in_default
value-returns-in_default g m c G ρ e k l t w fine =
    let s = c.args.self.now in
    absurd (no_word G s.records.now (kinds_at G ρ) e c.args.line (c.in_default.ensures.told l) t fine)

pub value-returns-in_err-cell-in-Simple : goal.value-returns-in_err-cell-in-Simple
value-returns-in_err-cell-in-Simple g m c G ρ e k l t w fine =
    let K = g.K.NumberKind.kind in
    let s = c.args.self.now in
    let E = standing G ρ in
    let f = handed K (g.S.Store.words s.store.now) in
    let o = of_variable G s.records.now (kinds_at G ρ) e c.args.line c.in-Some.record (c.in-Some.ensures.told l) c.in-Simple.is t fine in
    let x = c.in_err-cell-in-Simple.field-0.0 in
    let r : c.from_residual.result ≡ Err x = search rules in
    ap told r
    ∙ place_fault K E f o.0 e o.1 (number_of x) (c.in_err-cell-in-Simple.ensures G ρ o.0 k l o.2 w o.3)

pub value-returns-in_err-a-in-Operation : goal.value-returns-in_err-a-in-Operation
value-returns-in_err-a-in-Operation g m c G ρ e k l t w fine =
    let K = g.K.NumberKind.kind in
    let s = c.args.self.now in
    let E = standing G ρ in
    let f = handed K (g.S.Store.words s.store.now) in
    let κ = kinds_at G ρ in
    let o = of_word G s.records.now κ e c.args.line c.in-Some.record (L.Operation c.in-Operation.operator c.in-Operation.left c.in-Operation.right) (c.in-Some.ensures.told l) c.in-Operation.is t fine in
    let x = c.in_err-a-in-Operation.field-0.0 in
    let r : c.from_residual-in_err-a-in-Operation.result ≡ Err x = search rules in
    ap told r
    ∙ left_fault (operate K c.in-Operation.operator) (value K E f o.0) (value K E f o.1) (value K E f e) (ap (value K E f) (sym o.2)) (number_of x) (c.in_err-a-in-Operation.ensures G ρ o.0 k o.3 o.4 w o.5)

pub value-returns-in_err-b-in-Operation : goal.value-returns-in_err-b-in-Operation
value-returns-in_err-b-in-Operation g m c G ρ e k l t w fine =
    let K = g.K.NumberKind.kind in
    let s = c.args.self.now in
    let E = standing G ρ in
    let f = handed K (g.S.Store.words s.store.now) in
    let κ = kinds_at G ρ in
    let o = of_word G s.records.now κ e c.args.line c.in-Some.record (L.Operation c.in-Operation.operator c.in-Operation.left c.in-Operation.right) (c.in-Some.ensures.told l) c.in-Operation.is t fine in
    let x = c.in_err-b-in-Operation.field-0.0 in
    let r : c.from_residual-in_err-b-in-Operation.result ≡ Err x = search rules in
    ap told r
    ∙ right_fault (operate K c.in-Operation.operator) (value K E f o.0) (value K E f o.1) (value K E f e) (ap (value K E f) (sym o.2)) c.in_ok-a-in-Operation.a (number_of x) (c.in_ok-a-in-Operation.ensures G ρ o.0 k o.3 o.4 w o.5) (c.in_err-b-in-Operation.ensures G ρ o.1 k o.6 o.7 w o.8)

pub value-returns-in_err-holds-in-Choice : goal.value-returns-in_err-holds-in-Choice
value-returns-in_err-holds-in-Choice g m c G ρ e k l t w fine =
    let K = g.K.NumberKind.kind in
    let s = c.args.self.now in
    let E = standing G ρ in
    let f = handed K (g.S.Store.words s.store.now) in
    let κ = kinds_at G ρ in
    let o = of_word G s.records.now κ e c.args.line c.in-Some.record (L.Choice c.in-Choice.condition c.in-Choice.chosen c.in-Choice.otherwise) (c.in-Some.ensures.told l) c.in-Choice.is t fine in
    let x = c.in_err-holds-in-Choice.field-0.0 in
    let r : c.from_residual-in_err-holds-in-Choice.result ≡ Err x = search rules in
    ap told r
    ∙ choose_fault K E f o.0 o.1 o.2 e (number_of x) (c.in_err-holds-in-Choice.ensures G ρ o.0 k o.4 o.5 w o.6) o.3

pub value-returns-in-Constant : goal.value-returns-in-Constant
value-returns-in-Constant g m c G ρ e k l t w fine =
    let K = g.K.NumberKind.kind in
    let s = c.args.self.now in
    let E = standing G ρ in
    let f = handed K (g.S.Store.words s.store.now) in
    let κ = kinds_at G ρ in
    let o = of_word G s.records.now κ e c.args.line c.in-Some.record (L.Constant c.in-Constant.value) (c.in-Some.ensures.told l) c.in-Constant.is t fine in
    let fit : SFits w32 c.in-Constant.value = search rules in
    constant_law K E f s.records.now c.in-Some.record c.args.line c.in-Constant.value e c.ok_or.result k (c.in-Some.ensures.told l) c.in-Constant.is
    (c.ok_or.ensures.value ∙ ap (λ v. ok_or v Refused) (c.constant.ensures ∙ ap (constant_word K) (to_z-of_z fit))) o

pub value-returns-in_ok-cell-in-Simple : goal.value-returns-in_ok-cell-in-Simple
value-returns-in_ok-cell-in-Simple g m c G ρ e k l t w fine =
    let K = g.K.NumberKind.kind in
    let s = c.args.self.now in
    let E = standing G ρ in
    let f = handed K (g.S.Store.words s.store.now) in
    let o = of_variable G s.records.now (kinds_at G ρ) e c.args.line c.in-Some.record (c.in-Some.ensures.told l) c.in-Simple.is t fine in
    c.fetch.ensures ∙ place_word K E f o.0 e o.1 c.in_ok-cell-in-Simple.cell (c.in_ok-cell-in-Simple.ensures G ρ o.0 k l o.2 w o.3)

pub value-returns-in_ok-b-in-Operation : goal.value-returns-in_ok-b-in-Operation
value-returns-in_ok-b-in-Operation g m c G ρ e k l t w fine =
    let K = g.K.NumberKind.kind in
    let s = c.args.self.now in
    let E = standing G ρ in
    let f = handed K (g.S.Store.words s.store.now) in
    let κ = kinds_at G ρ in
    let o = of_word G s.records.now κ e c.args.line c.in-Some.record (L.Operation c.in-Operation.operator c.in-Operation.left c.in-Operation.right) (c.in-Some.ensures.told l) c.in-Operation.is t fine in
    c.operation.ensures
    ∙ of_both (operate K c.in-Operation.operator) (value K E f o.0) (value K E f o.1) (value K E f e) (ap (value K E f) (sym o.2)) c.in_ok-a-in-Operation.a c.in_ok-b-in-Operation.b (c.in_ok-a-in-Operation.ensures G ρ o.0 k o.3 o.4 w o.5) (c.in_ok-b-in-Operation.ensures G ρ o.1 k o.6 o.7 w o.8)

pub value-returns-in_ok-holds-in-Choice : goal.value-returns-in_ok-holds-in-Choice
value-returns-in_ok-holds-in-Choice g m c G ρ e k l t w fine =
    let K = g.K.NumberKind.kind in
    let s = c.args.self.now in
    let E = standing G ρ in
    let f = handed K (g.S.Store.words s.store.now) in
    let κ = kinds_at G ρ in
    let o = of_word G s.records.now κ e c.args.line c.in-Some.record (L.Choice c.in-Choice.condition c.in-Choice.chosen c.in-Choice.otherwise) (c.in-Some.ensures.told l) c.in-Choice.is t fine in
    let h = c.in_ok-holds-in-Choice.holds in
    let i = c.in-Choice in
    let p = pick (λ x n. (n < c.args.line) × StandsExpression G s.records.now x n × FineExpression κ x) h o.1 o.2 i.chosen i.otherwise (o.7, o.8, o.9) (o.10, o.11, o.12) in
    let q = subst (λ n. (n < c.args.line) × StandsExpression G s.records.now (elim h [ true ↦ o.1 | false ↦ o.2 ]) n × FineExpression κ (elim h [ true ↦ o.1 | false ↦ o.2 ])) (sym c.taken.ensures) p in
    c.value-in-Choice.ensures G ρ (elim h [ true ↦ o.1 | false ↦ o.2 ]) k q.0 q.1 w q.2
    ∙ choose_law K E f o.0 o.1 o.2 e h (c.in_ok-holds-in-Choice.ensures G ρ o.0 k o.4 o.5 w o.6) o.3

pub value-returns-in_default-line : goal.value-returns-in_default-line
value-returns-in_default-line g m c G ρ e k l t w fine =
    let s = c.args.self.now in
    let d = c.in_default-line in
    absurd (other_word G s.records.now (kinds_at G ρ) e c.args.line c.in-Some.record (c.in-Some.ensures.told l) d.not-Constant d.not-Simple d.not-Element d.not-Operation d.not-Choice t fine)
