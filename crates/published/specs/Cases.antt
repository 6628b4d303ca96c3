-- The cases that are published with the sample card, as one table: those of docs/COPY_RULE.md and docs/KINDS.md.
use Rattle.std.specs.Prelude.{◌≡◌, true, false, [], ◌∷◌, pos, negsuc, None, Ok, Err}
use Rattle.kinds.specs.declared.fault.ArithmeticFault.TheVariants.{OutOfRange}
use Rattle.kinds.specs.Whole.{whole, word}
use Rattle.kinds.specs.Single.{single}
use Rattle.sheet.specs.Reading.{outcome}
use Rattle.script.specs.IsScript.{IsScript}
use Rattle.rule.specs.Rewriting.{finished, stopped, fault}
use Rattle.acceptance.specs.Scripts.{Accepted}
use Rattle.published.specs.Double.{double_text, double, double_records}
use Rattle.published.specs.Runs.{Run}

pub record Published : Type 0 where
  -- the card is read as those lines, and is a script for both kinds
  pub read : outcome 25 double_text ≡ record { lines = double; refusal = None }
  pub for_whole : IsScript whole.least whole.most double
  pub for_single : IsScript single.least single.most double
  -- its records, as the reader leaves them: they stand for its text, for both kinds; so no contract that asks for accepted records is empty
  pub accepted_for_whole : Accepted whole.least whole.most double_records
  pub accepted_for_single : Accepted single.least single.most double_records
  -- its runs over 1,024 cells, by the words of its two globals
  pub nought : Run double 1024 (0 ∷ 9 ∷ []) 1000000 finished 4 (0 ∷ 0 ∷ [])
  pub three : Run double 1024 (3 ∷ 9 ∷ []) 1000000 finished 16 (3 ∷ 6 ∷ [])
  pub one_stopped : Run double 1024 (1 ∷ 9 ∷ []) 7 stopped 7 (1 ∷ 0 ∷ [])
  pub one_finished : Run double 1024 (1 ∷ 9 ∷ []) 8 finished 8 (1 ∷ 2 ∷ [])
  -- the deepest run that the levels allow, one that they stop, and one that the cells stop
  pub deepest : Run double 1024 (255 ∷ 9 ∷ []) 1000000 finished 1024 (255 ∷ 510 ∷ [])
  pub too_deep : Run double 1024 (256 ∷ 9 ∷ []) 1000000 (fault 24 19) 769 (256 ∷ 9 ∷ [])
  pub too_large : Run double 257 (255 ∷ 9 ∷ []) 1000000 (fault 25 13) 767 (255 ∷ 9 ∷ [])
  -- whole numbers: 2147483647 + 1, -7 / 2, -2147483648 / -1
  pub past_most : whole.sum (word (pos 2147483647)) (word (pos 1)) ≡ Err OutOfRange
  pub away_from_zero : whole.quotient (word (negsuc 6)) (word (pos 2)) ≡ Ok (word (negsuc 3))
  pub past_least : whole.quotient (word (negsuc 2147483647)) (word (negsuc 0)) ≡ Err OutOfRange
  -- singles: the largest finite number, and the infinity after it
  pub largest : single.lawful 2139095039 ≡ true
  pub infinite : single.lawful 2139095040 ≡ false
