-- How a file spells calls and what they get.
use Rattle.std.specs.Prelude.{ℕ, List, [], ◌∷◌, ◌++◌, codes, decimal, Ok, Err}
use Rattle.text.specs.declared.refusals.Refusal.{Refusal}
use Rattle.acceptance.specs.declared.globals.GlobalSort.{GlobalSort}
use Rattle.acceptance.specs.declared.globals.GlobalSort.TheVariants.{Simple, Array}
use Rattle.faults.specs.declared.ending.Ending.{Ending}
use Rattle.faults.specs.declared.ending.Ending.TheVariants.{Finished, Stopped, Fault}
use Rattle.faults.specs.Faults as Faults
use Rattle.calls.specs.declared.asked.Answer.TheVariants.{Opened, Posted, Word, Began, Running, Over, Closed}
use Rattle.calls.specs.declared.asked.Call.{Call}
use Rattle.calls.specs.declared.asked.Call.TheVariants.{Open, Post, Reading, Begin, Grant, Close}
use Rattle.calls.specs.declared.asked.GlobalCell.{GlobalCell}
use Rattle.calls.specs.declared.causes.SessionCause.{SessionCause}
use Rattle.calls.specs.Causes as Causes
use Rattle.calls.specs.History.{Reply}

-- a blank and a number
abbrev pub then_number : ℕ → List ℕ
then_number n = codes " " ++ decimal n

abbrev pub sort_text : GlobalSort → List ℕ
sort_text Simple = codes "x"
sort_text Array = codes "a"

-- a global by its sort, its name and an index, as in `a 2 0`
abbrev pub global_text : GlobalCell → List ℕ
global_text g = sort_text g.sort ++ (then_number g.name ++ then_number g.index)

abbrev pub call_text : Call → List ℕ
call_text Open = codes "open"
call_text (Post g w) = codes "post " ++ (global_text g ++ then_number w)
call_text (Reading g) = codes "reading " ++ global_text g
call_text Begin = codes "begin"
call_text (Grant k n) = codes "grant" ++ (then_number k ++ then_number n)
call_text (Close k) = codes "close" ++ then_number k

-- an ending, with its fault and line where it has them
abbrev pub ending_text : Ending → List ℕ
ending_text Finished = codes "f 0 0"
ending_text Stopped = codes "s 0 0"
ending_text (Fault f l) = codes "x" ++ (then_number (Faults.number_of f) ++ then_number l)

abbrev pub refusal_text : Refusal SessionCause → List ℕ
refusal_text r = codes "refused" ++ (then_number (Causes.number_of r.cause) ++ then_number r.line)

abbrev pub reply_text : Reply → List ℕ
reply_text (Ok Opened) = codes "opened"
reply_text (Ok Posted) = codes "posted"
reply_text (Ok (Word w)) = codes "word" ++ then_number w
reply_text (Ok (Began k)) = codes "ticket" ++ then_number k
reply_text (Ok Running) = codes "running"
reply_text (Ok Over) = codes "over"
reply_text (Ok (Closed e n)) = codes "closed " ++ (ending_text e ++ then_number n)
reply_text (Err r) = refusal_text r

-- a line of a list: a call and what it gets
abbrev pub line_text : Call → Reply → List ℕ
line_text c r = call_text c ++ (codes " = " ++ (reply_text r ++ codes "\n"))

-- the lines of a list, for as many calls as have replies
abbrev pub lines_text : List Call → List Reply → List ℕ
lines_text [] rs = []
lines_text (c ∷ cs) [] = []
lines_text (c ∷ cs) (r ∷ rs) = line_text c r ++ lines_text cs rs
