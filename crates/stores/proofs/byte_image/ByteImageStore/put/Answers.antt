use Rattle.std.proofs.Common.{◌+◌, ◌-◌, ◌*◌, ◌≡◌, ap, ◌∙◌, arith}
use Rattle.stores.specs.Images.{image_words, image_lent}
use Rattle.stores.proofs.Imaging.{cell_within, cell_written, image_put, image_kept}
use Rattle.stores.proofs.byte_image.ByteImageStore.put.Goals as goal

pub slice_bounds-copy_from_slice-end : goal.slice_bounds-copy_from_slice-end
slice_bounds-copy_from_slice-end c =
    let k = cell_within c.args.self.now.bytes.now c.args.at (omega arith) in omega arith

pub returns : goal.returns
returns c =
    let bytes = c.args.self.now.bytes.now in
    let loan = c.args.self.now.bytes.ghost_name in
    let four : 4 * c.args.at + 4 - 4 * c.args.at ≡ 4 = omega arith in
    let written = cell_written bytes c.copy_from_slice.new.self c.args.at c.args.word (4 * c.args.at + 4 - 4 * c.args.at) (omega arith) four (c.copy_from_slice.ensures.after ∙ c.to_le_bytes.ensures) in
    let kept = image_kept bytes c.args.at c.args.word (omega arith) (omega arith) in
    record {
      answer = omega arith;
      words = ap image_words written ∙ image_put bytes c.args.at c.args.word (omega arith) (omega arith);
      lent = ap (image_lent loan) written ∙ (λ j. record { loan = loan; rest = kept j });
      bytes = written;
    }
