use Rattle.std.proofs.Common.{◌+◌, None, refl, sym, ap, ◌∙◌, subst, arith}
use Rattle.lines.specs.declared.records.Line.TheVariants.{Global}
use Rattle.lines.specs.declared.records.Record.{Record}
use Rattle.acceptance.specs.Sheet.{lines_of}
use Rattle.acceptance.specs.Scopes.{HasGlobals, declaration_at}
use Rattle.acceptance.proofs.Filling.{lines_stay, told_more}
use Rattle.acceptance.proofs.resolve.resolve.Goals as goal

abbrev blank : Record
blank = record { line = Global 0 0; declaration = None }

pub loop-index-init : goal.loop-index-init
loop-index-init c = (refl, λ n p q. absurd (omega arith))

pub new-requires-clause-globals : goal.new-requires-clause-globals
new-requires-clause-globals c = subst (λ ls. HasGlobals ls c.args.globals.now) (sym c.loop-index.invariant.0) c.requires.globals

pub loop-index-preserved : goal.loop-index-preserved
loop-index-preserved c = (
  lines_stay c.loop-index.records c.loop-index.index blank c.declaration_at-declaration.result ∙ c.loop-index.invariant.0,
  told_more c.loop-index.records (lines_of c.args.records.now) c.loop-index.index blank c.declaration_at-declaration.result (omega (arith, c.loop-index.auto.records, c.loop-index-test.true))
      (c.declaration_at-declaration.ensures ∙ ap (λ ls. declaration_at ls (c.loop-index.index + 1)) (c.new.ensures ∙ c.loop-index.invariant.0)) c.loop-index.invariant.1,
)

pub returns : goal.returns
returns c = record { lines = c.loop-index.invariant.0; told = λ n p q. c.loop-index.invariant.1 n p (omega (arith, c.loop-index-test.false)) }
