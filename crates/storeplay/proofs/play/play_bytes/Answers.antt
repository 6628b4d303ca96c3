use Rattle.std.proofs.Common.{take, arith, rules}
use Rattle.stores.specs.Accesses.{after_all}
use Rattle.stores.specs.Images.{image_words}
use Rattle.stores.proofs.Memory.{whole_image}
use Rattle.storeplay.proofs.play.play_bytes.Goals as goal

pub returns : goal.returns
returns c =
    record {
      count = c.serve.ensures.count;
      replies = search rules;
      bytes = whole_image _ c.args.bytes.now (after_all (image_words c.args.bytes.now) (take c.serve.result c.args.requests.now)) (λ k. let t = c.type_inv.bytes k in omega arith) (search rules) (search rules);
    }
