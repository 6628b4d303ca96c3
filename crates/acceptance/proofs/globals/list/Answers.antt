use Rattle.std.proofs.Common.{◌≡◌, ◌+◌, ◌≤◌, [], ◌∷◌, ◌++◌, map, length, drop, sym, ap, ◌∙◌, arith}
use Rattle.std.proofs.lemmas.List.{append-nil, map-append}
use Rattle.script.specs.Apart.{heads}
use Rattle.acceptance.specs.Sheet.{lines_of}
use Rattle.acceptance.specs.Scopes.{global_entries, listed}
use Rattle.acceptance.proofs.Listing.{blank, listing_end, listing_stop, listing_turn}
use Rattle.acceptance.proofs.globals.list.Goals as goal
use Rattle.acceptance.proofs.globals.list.Goals.{in-Some, in_default-of_global}

pub returns-in_default : goal.returns-in_default
returns-in_default g c =
    listing_stop c.args.records.now c.loop-index.index blank c.loop-index-test.true g.D.Named.sort c.loop-index.cell (map g.D.Named.told c.loop-index.listed.items)
    (global_entries g.D.Named.sort 1 0 (heads (lines_of c.args.records.now))) c.loop-index.invariant.2 c.in_default.not-Global

pub loop-index-preserved : goal.loop-index-preserved
loop-index-preserved g c =
    let told = g.D.Named.told in
    let now : map told c.match-of_global.listed.items ≡ (map told c.loop-index.listed.items ++ listed told c.of_global.result) = elim c.match-of_global.branch [
      | in-Some w ↦ ap (λ v. map told v.items) w.listed-is
          ∙ (ap (map told) w.push.ensures.items
          ∙ (map-append told c.loop-index.listed.items (w.in-Some.declared ∷ [])
          ∙ ap (λ o. map told c.loop-index.listed.items ++ listed told o) (sym w.in-Some.is)))
      | in_default-of_global w ↦ ap (λ v. map told v.items) w.listed-is
          ∙ (sym (append-nil (map told c.loop-index.listed.items))
          ∙ ap (λ o. map told c.loop-index.listed.items ++ listed told o) (sym w.in_default-of_global.is))
    ] in
    let few : length c.match-of_global.listed.items ≤ c.loop-index.index + 1 = elim c.match-of_global.branch [
      | in-Some w ↦ omega (arith, ap (λ v. length v.items) w.listed-is, w.push.ensures.len, c.loop-index.invariant.0)
      | in_default-of_global w ↦ omega (arith, ap (λ v. length v.items) w.listed-is, c.loop-index.invariant.0)
    ] in (
      few,
      omega (arith, c.loop-index.invariant.1, c.cells_of-cell.ensures.few),
      ap (λ n. map told c.match-of_global.listed.items
          ++ global_entries g.D.Named.sort ((c.loop-index.index + 1) + 1) (c.loop-index.cell + n) (heads (lines_of (drop (c.loop-index.index + 1) c.args.records.now)))) c.cells_of-cell.ensures.is
          ∙ listing_turn c.args.records.now c.loop-index.index blank c.loop-index-test.true g.D.Named.sort c.loop-index.cell (map told c.loop-index.listed.items)
          (global_entries g.D.Named.sort 1 0 (heads (lines_of c.args.records.now))) c.loop-index.invariant.2 c.in-Global.name c.in-Global.length c.in-Global.is
          (map told c.match-of_global.listed.items)
          (now ∙ ap (λ xs. map told c.loop-index.listed.items ++ xs) c.of_global.ensures),
    )

pub returns : goal.returns
returns g c =
    listing_end c.args.records.now c.loop-index.index c.loop-index-test.false g.D.Named.sort c.loop-index.cell (map g.D.Named.told c.loop-index.listed.items)
    (global_entries g.D.Named.sort 1 0 (heads (lines_of c.args.records.now))) c.loop-index.invariant.2
