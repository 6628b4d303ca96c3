use Rattle.std.proofs.Common.{arith, length-take}
use Rattle.stores.proofs.Imaging.{quarter}
use Rattle.stores.specs.Images.{words_of}
use Rattle.stores.proofs.byte_image.ByteImageStore.size.Goals as goal

pub returns-clause-size : goal.returns-clause-size
returns-clause-size c =
    let bytes = c.args.self.now.bytes.now in
    let q = quarter bytes in
    let e = length-take 65536 (words_of bytes) in
    omega arith
