-- Sessions of the double sheet, call by call.
use Rattle.std.specs.Prelude.{◌≡◌, ℕ, List, [], ◌∷◌, map, Ok, Err}
use Rattle.kinds.specs.Arithmetic.{Arithmetic}
use Rattle.kinds.specs.Whole.{whole}
use Rattle.kinds.specs.Single.{single}
use Rattle.text.specs.Refusals.{without_line}
use Rattle.script.specs.IsScript.{IsScript}
use Rattle.faults.specs.declared.ending.Ending.TheVariants.{Finished, Stopped}
use Rattle.acceptance.specs.declared.globals.GlobalSort.TheVariants.{Simple, Array}
use Rattle.calls.specs.declared.asked.Answer.TheVariants.{Opened, Posted, Word, Began, Running, Over, Closed}
use Rattle.calls.specs.declared.asked.Call.{Call}
use Rattle.calls.specs.declared.asked.Call.TheVariants.{Open, Post, Reading, Begin, Grant, Close}
use Rattle.calls.specs.declared.asked.GlobalCell.{GlobalCell}
use Rattle.calls.specs.declared.causes.SessionCause.{SessionCause}
use Rattle.calls.specs.declared.causes.SessionCause.TheVariants.{StoreTooSmall, UnlawfulGlobal, NotAtRest, NoSuchGlobal, UnlawfulWord, NoSuchRun, WrongGrant, RunIsOver}
use Rattle.calls.specs.History.{Reply, ledger}
use Rattle.calls.specs.Answers.{Answered}
use Rattle.calls.specs.Laws.{global_store}
use Rattle.published.specs.Double.{double}
use Rattle.published.specs.Runs.{with_zeros}

-- calls in their order, each with its reply
abbrev pub Talk : Type 0
Talk = List (Call × Reply)

-- over so many cells that begin with the first words, the calls get those replies, and the globals' cells hold the last words then
abbrev pub Told : Arithmetic → (size : ℕ) (first : List ℕ) → Talk → (last : List ℕ) → Type 0
Told K size first talk last =
    (s : IsScript K.least K.most double)
    → (a : Answered K double s.text size (with_zeros size first) (map (λ e. e.0) talk) (map (λ e. e.1) talk))
    × (global_store double (ledger double (with_zeros size first) a.history).words ≡ last)

abbrev pub refused : SessionCause → Reply
refused c = Err (without_line c)

-- the two globals, a simple variable with an index past its own, an array and a name that no global has
abbrev pub one : GlobalCell
one = record { sort = Simple; name = 1; index = 0 }

abbrev pub two : GlobalCell
two = record { sort = Simple; name = 2; index = 0 }

abbrev pub past_two : GlobalCell
past_two = record { sort = Simple; name = 2; index = 1 }

abbrev pub no_array : GlobalCell
no_array = record { sort = Array; name = 2; index = 0 }

abbrev pub unknown : GlobalCell
unknown = record { sort = Simple; name = 3; index = 0 }

abbrev pub long_talk : Talk
long_talk =
    (Open, Ok Opened) ∷ (Post one 1, Ok Posted)
    -- in a run
    ∷ (Begin, Ok (Began 1)) ∷ (Reading one, refused NotAtRest) ∷ (Post one 1, refused NotAtRest) ∷ (Begin, refused NotAtRest)
    -- that would begin 8 statements
    ∷ (Grant 1 4, Ok Running) ∷ (Grant 1 3, Ok Running) ∷ (Grant 1 0, refused WrongGrant) ∷ (Grant 1 4294967289, refused WrongGrant)
    ∷ (Grant 2 1, refused NoSuchRun) ∷ (Close 2, refused NoSuchRun) ∷ (Close 1, Ok (Closed Stopped 7))
    -- and once more, from where the globals are; the ticket of the older run is of no use
    ∷ (Begin, Ok (Began 2)) ∷ (Grant 1 5, refused NoSuchRun) ∷ (Grant 2 4, Ok Running) ∷ (Grant 2 4, Ok Over) ∷ (Grant 2 1, refused RunIsOver)
    ∷ (Grant 2 0, refused RunIsOver) ∷ (Close 2, Ok (Closed Finished 8)) ∷ (Reading two, Ok (Word 2))
    -- an opening over an open run: the run is gone, and the store is as the run left it
    ∷ (Begin, Ok (Began 3)) ∷ (Grant 3 7, Ok Running) ∷ (Open, Ok Opened) ∷ (Grant 3 1, refused NoSuchRun) ∷ (Close 3, refused NoSuchRun)
    ∷ (Reading one, Ok (Word 1)) ∷ (Reading two, Ok (Word 0))
    -- runs are numbered from 1 again: a ticket of before counts by its number alone, so that of run 2 is of no use, and that of run 1 is this run's
    ∷ (Post one 3, Ok Posted) ∷ (Begin, Ok (Began 1)) ∷ (Grant 2 1, refused NoSuchRun)
    -- a grant that is larger than what is left to do
    ∷ (Grant 1 100, Ok Over) ∷ (Close 1, Ok (Closed Finished 16))
    -- between runs
    ∷ (Reading two, Ok (Word 6)) ∷ (Post past_two 5, refused NoSuchGlobal) ∷ (Reading no_array, refused NoSuchGlobal) ∷ (Reading unknown, refused NoSuchGlobal)
    ∷ (Post one 4294967296, refused UnlawfulWord) ∷ (Grant 1 1, refused NoSuchRun) ∷ (Close 1, refused NoSuchRun) ∷ []

-- an opening that is refused leaves no session
abbrev pub without_session : Talk
without_session =
    (Post one 3, refused NotAtRest) ∷ (Reading one, refused NotAtRest) ∷ (Begin, refused NotAtRest) ∷ (Grant 1 1, refused NoSuchRun) ∷ (Close 1, refused NoSuchRun) ∷ []

abbrev pub small_talk : Talk
small_talk = (Open, refused StoreTooSmall) ∷ without_session

-- the line of the second global is told
abbrev pub unlawful_talk : Talk
unlawful_talk = (Open, Err (record { cause = UnlawfulGlobal; line = 2 })) ∷ without_session

-- a run of which 3 statements are granted and then 4, and that would begin 8
abbrev pub stopped_talk : Talk
stopped_talk = (Open, Ok Opened) ∷ (Begin, Ok (Began 1)) ∷ (Grant 1 3, Ok Running) ∷ (Grant 1 4, Ok Running) ∷ (Close 1, Ok (Closed Stopped 7)) ∷ []

pub record SessionsTold : Type 0 where
  pub long : Told whole 24 (7 ∷ 9 ∷ []) long_talk (3 ∷ 6 ∷ [])
  -- the published one
  pub stopped : Told whole 1024 (1 ∷ 9 ∷ []) stopped_talk (1 ∷ 0 ∷ [])
  -- a store that is smaller than the globals, and one that has no lawful single for the second: an infinity
  pub too_small : Told whole 1 (7 ∷ []) small_talk (7 ∷ [])
  pub infinite : Told single 24 (7 ∷ 2139095040 ∷ []) unlawful_talk (7 ∷ 2139095040 ∷ [])
