use Rattle.std.proofs.Common.{take, rules}
use Rattle.stores.specs.Accesses.{after_all}
use Rattle.stores.specs.Tables.{table_words}
use Rattle.stores.proofs.Memory.{whole_table}
use Rattle.storeplay.proofs.play.play_words.Goals as goal

pub returns : goal.returns
returns c =
    record {
      count = c.serve.ensures.count;
      replies = search rules;
      cells = whole_table _ c.args.cells.now (after_all (table_words c.args.cells.now) (take c.serve.result c.args.requests.now)) (search rules) (search rules);
    }
