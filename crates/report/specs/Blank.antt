-- What a blank report keeps.
use Rattle.std.specs.Prelude.{◌≡◌, ℕ, suc, ◌*◌, ◌≤◌, List, [], length}
use Rattle.lines.specs.declared.records.Record.{Record}
use Rattle.script.specs.Apart.{globals_of}
use Rattle.acceptance.specs.Sheet.{lines_of}

-- the records are no more than a sheet may have, and nothing is written of them, in room for the ending and all cells of their globals
pub record IsBlank (rs : List Record) (written : List ℕ) (room : ℕ) : Type 0 where
  pub few : length rs ≤ 2048
  pub nothing : written ≡ []
  pub enough : 35 * suc (globals_of (lines_of rs)).taken ≤ room
