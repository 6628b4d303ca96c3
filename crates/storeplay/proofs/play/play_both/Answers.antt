use Rattle.std.proofs.Common.{arith, rules}
use Rattle.stores.specs.Accesses.{after_all}
use Rattle.stores.specs.Images.{image_words}
use Rattle.stores.specs.Tables.{table_words}
use Rattle.stores.proofs.Memory.{whole_table, whole_image}
use Rattle.storeplay.proofs.play.play_both.Goals as goal

pub returns : goal.returns
returns c =
    record {
      alike = search rules;
      cells = whole_table _ c.args.cells.now (after_all (table_words c.args.cells.now) c.args.requests.now) (search rules) (search rules);
      bytes = whole_image _ c.args.bytes.now (after_all (image_words c.args.bytes.now) c.args.requests.now) (λ k. let t = c.type_inv.bytes k in omega arith) (search rules) (search rules);
    }
