-- What is due to each call, told by the calls before it and by the copy rule over whole runs.
use Rattle.std.specs.Prelude.{◌≡◌, ℕ, ◌+◌, ◌<◌, ◌≤◌, true, false, List, [], ◌∷◌, map, reverse, Some, None, Ok, Err, slice_index}
use Rattle.kinds.specs.Arithmetic.{Arithmetic}
use Rattle.text.specs.declared.refusals.Refusal.{Refusal}
use Rattle.lines.specs.declared.records.Line.{Line}
use Rattle.script.specs.Script.{Statement}
use Rattle.rule.specs.Closing.{Closing, Closes, IsOver, program_of}
use Rattle.calls.specs.declared.asked.Call.{Call}
use Rattle.calls.specs.declared.asked.Call.TheVariants.{Post, Reading, Begin, Grant, Close}
use Rattle.calls.specs.declared.asked.GlobalCell.{GlobalCell}
use Rattle.calls.specs.declared.causes.SessionCause.{SessionCause}
use Rattle.calls.specs.declared.causes.SessionCause.TheVariants.{NotAtRest, NoSuchGlobal, UnlawfulWord, NoSuchRun, WrongGrant, RunIsOver, NoRunLeft}
use Rattle.calls.specs.Globals.{cell_of}
use Rattle.calls.specs.Openings.{Opens}
use Rattle.calls.specs.History.{Event, opened, not_opened, refused, posted, read, began, granted, closed, History, Reply, call_of, reply_of, Run, between, in_run, Ledger, ledger}

-- no number that is told is larger
abbrev pub largest : ℕ
largest = 4294967295

-- The table of calls, for a script with the lines ls, the last of them the statement t, and a store of that size.
module _ (K : Arithmetic) (ls : List Line) (t : Statement) (size : ℕ) where
  -- a run that was granted n is over: that has reached the copy rule's own count
  abbrev pub Ended : Run → ℕ → Type 0
  Ended r n = IsOver K (program_of ls t) size r.from n

  -- with n statements the copy rule leaves the words σ in the store
  abbrev pub Leaves : Run → ℕ → List ℕ → Type 0
  Leaves r n σ = (c : Closing) × Closes K (program_of ls t) size r.from n c × (c.store ≡ σ)

  module _ (s : Ledger) where
    -- a session is between runs, of which n were begun
    abbrev pub AtRest : ℕ → Type 0
    AtRest n = s.place ≡ between n

    -- no session is
    abbrev pub NoneAtRest : Type 0
    NoneAtRest = (n : ℕ) → ¬ (AtRest n)

    -- the open run has that number
    abbrev pub Runs : ℕ → Run → Type 0
    Runs k r = (s.place ≡ in_run r) × (r.number ≡ k)

    -- and is not over
    abbrev pub RunsOn : ℕ → Run → Type 0
    RunsOn k r = Runs k r × ¬ (Ended r r.granted)

    -- no open run has it
    abbrev pub NoRun : ℕ → Type 0
    NoRun k = (r : Run) → ¬ (Runs k r)

    -- the event that is due to a call: the first cause for which it is refused, in this order, or else what was asked for
    pub data Due : Event → Type 0 where
      -- open
      open_refused : {r : Refusal SessionCause} → Opens K ls s.words (Err r) → Due (not_opened r)
      open_done : Opens K ls s.words (Ok tt) → Due opened
      -- post and reading
      post_not_at_rest : {g : GlobalCell} {w : ℕ} → NoneAtRest → Due (refused (Post g w) NotAtRest)
      post_nowhere : {g : GlobalCell} {w m : ℕ} → AtRest m → cell_of ls g ≡ None → Due (refused (Post g w) NoSuchGlobal)
      post_unlawful : {g : GlobalCell} {w m c : ℕ} → AtRest m → cell_of ls g ≡ Some c → K.lawful w ≡ false → Due (refused (Post g w) UnlawfulWord)
      post_done : {g : GlobalCell} {w m c : ℕ} → AtRest m → cell_of ls g ≡ Some c → K.lawful w ≡ true → Due (posted g w)
      reading_not_at_rest : {g : GlobalCell} → NoneAtRest → Due (refused (Reading g) NotAtRest)
      reading_nowhere : {g : GlobalCell} {m : ℕ} → AtRest m → cell_of ls g ≡ None → Due (refused (Reading g) NoSuchGlobal)
      reading_done : {g : GlobalCell} {w m c : ℕ} → AtRest m → cell_of ls g ≡ Some c → w ≡ slice_index s.words c → Due (read g w)
      -- begin
      begin_not_at_rest : NoneAtRest → Due (refused Begin NotAtRest)
      begin_spent : {m : ℕ} → AtRest m → largest ≤ m → Due (refused Begin NoRunLeft)
      begin_done : {k m : ℕ} → AtRest m → m < largest → k ≡ m + 1 → Due (began k)
      -- grant
      grant_no_run : {k n : ℕ} → NoRun k → Due (refused (Grant k n) NoSuchRun)
      grant_after_end : {k n : ℕ} {r : Run} → Runs k r → Ended r r.granted → Due (refused (Grant k n) RunIsOver)
      grant_of_nothing : {k : ℕ} {r : Run} → RunsOn k r → Due (refused (Grant k 0) WrongGrant)
      grant_too_much : {k n : ℕ} {r : Run} → RunsOn k r → largest < r.granted + n → Due (refused (Grant k n) WrongGrant)
      grant_goes_on : {k n : ℕ} {r : Run} {σ : List ℕ} → RunsOn k r → 0 < n → r.granted + n ≤ largest → ¬ (Ended r (r.granted + n)) → Leaves r (r.granted + n) σ
          → Due (granted k n false σ)
      grant_ends : {k n : ℕ} {r : Run} {σ : List ℕ} → RunsOn k r → 0 < n → r.granted + n ≤ largest → Ended r (r.granted + n) → Leaves r (r.granted + n) σ
          → Due (granted k n true σ)
      -- close
      close_no_run : {k : ℕ} → NoRun k → Due (refused (Close k) NoSuchRun)
      close_done : {k : ℕ} {r : Run} {c : Closing} → Runs k r → Closes K (program_of ls t) size r.from r.granted c → Due (closed k c)

  -- each call got what was due to it after those before, from a store with the first words on
  abbrev pub Conversation : List ℕ → History → Type 0
  Conversation first [] = Unit {0}
  Conversation first (e ∷ h) = Conversation first h × Due (ledger ls first h) e

  -- calls in the order in which they are made, with the replies that they get
  pub record Answered (first : List ℕ) (calls : List Call) (replies : List Reply) : Type 0 where
    pub history : History
    pub talk : Conversation first history
    pub asked : map call_of history ≡ reverse calls
    pub told : map reply_of history ≡ reverse replies
