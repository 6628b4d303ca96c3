-- What it says of a list that it came out right.
use Rattle.std.specs.Prelude.{◌≡◌, ℕ, List, Ok}
use Rattle.kinds.specs.Arithmetic.{Arithmetic}
use Rattle.lines.specs.declared.records.Record.{Record}
use Rattle.sheet.specs.Reading.{Outcome, answer}
use Rattle.acceptance.specs.Sheet.{lines_of}
use Rattle.acceptance.specs.Scripts.{Accepted}
use Rattle.calls.specs.declared.asked.Call.{Call}
use Rattle.calls.specs.History.{Reply}
use Rattle.session.specs.Promise.{Talked}
use Rattle.call_vectors.specs.Spelling.{lines_text}

-- The text spells some calls and replies line by line; and a session of the script with the records rs gave just those replies to those calls, over a
-- store that held the words σ and then holds σ'.
pub record CameOut (K : Arithmetic) (rs : List Record) (σ text σ' : List ℕ) : Type 0 where
  pub calls : List Call
  pub replies : List Reply
  pub spelled : text ≡ lines_text calls replies
  pub given : (a : Accepted K.least K.most rs) → Talked K rs a σ calls replies σ'

-- the same for the script of a text, where o is what the reading of its lines gives: all are read, and are a script of the kind
pub record IsRight (K : Arithmetic) (o : Outcome) (σ text σ' : List ℕ) : Type 0 where
  pub count : ℕ
  pub read : answer o ≡ Ok count
  pub records : List Record
  pub lines : lines_of records ≡ o.lines
  pub accepted : Accepted K.least K.most records
  pub came_out : CameOut K records σ text σ'
