use Rattle.std.proofs.Common.{◌≡◌, List, ℕ, take, subst, ◌∙◌, arith, length-take}
use Rattle.std.specs.List.{slice_get}
use Rattle.stores.proofs.Capped.{used, copied_item}
use Rattle.stores.proofs.word_table.WordTableStore.load.Goals as goal

pub slice_bounds-get-end-2 : goal.slice_bounds-get-end-2
slice_bounds-get-end-2 c =
    let cells = c.args.self.now.cells.now in
    let e = length-take 65536 cells in
    let f = length-take c.size.result cells in
    omega arith

pub returns : goal.returns
returns c =
    let cells = c.args.self.now.cells.now in
    let size = c.size.result in
    let P : List ℕ → Type 0 = λ xs. c.copied.result ≡ slice_get xs c.args.at in
    subst P (used 65536 size cells c.size.ensures.size)
    (c.copied.ensures ∙ copied_item (take size cells) c.args.at c.get.result c.get.ensures.lookup)
