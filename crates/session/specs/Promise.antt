-- The promise of each call, for callers of any shape: where a place and its store stand after some calls, it gets what is due to it, and they
-- stand after those calls and this one.
use Rattle.std.specs.Prelude.{◌≡◌, ℕ, List, ◌∷◌, length, Ok, Err, Result}
use Rattle.kinds.specs.Arithmetic.{Arithmetic}
use Rattle.lines.specs.declared.records.Record.{Record}
use Rattle.text.specs.declared.refusals.Refusal.{Refusal}
use Rattle.acceptance.specs.Sheet.{lines_of}
use Rattle.acceptance.specs.Scripts.{Accepted}
use Rattle.faults.specs.declared.ending.Ending.{Ending}
use Rattle.faults.specs.Endings.{in_rule}
use Rattle.engine.specs.declared.levels.Engine.{Engine}
use Rattle.engine.specs.Running.{StandsFor}
use Rattle.calls.specs.declared.asked.Answer.TheVariants.{Opened, Posted, Word, Began, Running, Over, Closed}
use Rattle.calls.specs.declared.asked.Call.{Call}
use Rattle.calls.specs.declared.causes.SessionCause.{SessionCause}
use Rattle.calls.specs.History.{Event, History, Reply, call_of, ledger, reply_of}
use Rattle.calls.specs.Answers.{Answered, Conversation}
use Rattle.calls.specs.Laws.{global_store}
use Rattle.calls.specs.Standing.{Phase, away, rest, running, over, Stands}
use Rattle.session.specs.declared.runs.Closing.{Closing}
use Rattle.session.specs.declared.runs.RunState.{RunState}
use Rattle.session.specs.declared.runs.RunState.TheVariants as Run
use Rattle.session.specs.Sessions as Place
use Rattle.session.specs.Sessions.{Held, Setting}

-- ## What a place holds, by the phase that the calls have come to

module _ (rs : List Record) (size n : ℕ) where
  abbrev pub setting : Setting
  setting = record { records = rs; size = size; runs = n }

  abbrev pub Holds : Held → Phase → Type 0
  Holds h away = h ≡ Place.none
  Holds h rest = h ≡ Place.at_rest setting
  Holds h (running ps k) = (e : Engine) × (h ≡ Place.running setting k e) × StandsFor rs e ps
  Holds h (over d k) = (c : Ending) × (h ≡ Place.over setting c k) × (in_rule c ≡ d)

module _ (K : Arithmetic) (rs : List Record) where
  -- A place and a store stand after the calls h, which opened no other script than the accepted one with the records rs, over that store, which has so many
  -- cells and held the first words before them: each call was what was due, and the store now has the words that they tell. (The other fields are
  -- what the proofs keep of the place.)
  pub record StandsAfter (a : Accepted K.least K.most rs) (size : ℕ) (first : List ℕ) (h : History) (held : Held) (words : List ℕ) : Type 0 where
    pub talk : Conversation K (lines_of rs) a.script.text size first h
    pub store : words ≡ (ledger (lines_of rs) first h).words
    pub phase : Phase
    pub runs : ℕ
    pub holds : Holds rs size runs held phase
    pub stands : Stands K (lines_of rs) a.script.text size (ledger (lines_of rs) first h) phase runs words

  -- the call q, with its reply, keeps that; its event is the one that is due (`Conversation`)
  abbrev pub Keeps : Call → Held → List ℕ → Reply → Held → List ℕ → Type 0
  Keeps q held words r held' words' = (a : Accepted K.least K.most rs) (size : ℕ) (first : List ℕ) (h : History)
      → StandsAfter a size first h held words
      → (e : Event) × (call_of e ≡ q) × (reply_of e ≡ r) × StandsAfter a size first (e ∷ h) held' words'

  -- Calls in order got those replies, from a place that held no session and a store with the words σ on: each the reply that is due after the calls before
  -- it; and the store now has the words σ', which are those that the calls tell.
  pub record Talked (a : Accepted K.least K.most rs) (σ : List ℕ) (calls : List Call) (replies : List Reply) (σ' : List ℕ) : Type 0 where
    pub answered : Answered K (lines_of rs) a.script.text (length σ) σ calls replies
    pub store : σ' ≡ (ledger (lines_of rs) σ answered.history).words

-- the same of every script that is accepted, however that is known
abbrev pub Plays : (K : Arithmetic) → List Record → List ℕ → List Call → List Reply → List ℕ → Type 0
Plays K rs σ calls replies σ' = (a : Accepted K.least K.most rs) → Talked K rs a σ calls replies σ'

-- stores of equal size with equal global stores
abbrev pub AlikeStores : List Record → List ℕ → List ℕ → Type 0
AlikeStores rs σ τ = (length σ ≡ length τ) × (global_store (lines_of rs) σ ≡ global_store (lines_of rs) τ)

-- ## The replies of the single calls

abbrev pub to_open : Result (Unit {0}) (Refusal SessionCause) → Reply
to_open (Ok _) = Ok Opened
to_open (Err r) = Err r

abbrev pub to_post : Result (Unit {0}) (Refusal SessionCause) → Reply
to_post (Ok _) = Ok Posted
to_post (Err r) = Err r

abbrev pub to_reading : Result ℕ (Refusal SessionCause) → Reply
to_reading (Ok w) = Ok (Word w)
to_reading (Err r) = Err r

abbrev pub to_begin : Result ℕ (Refusal SessionCause) → Reply
to_begin (Ok n) = Ok (Began n)
to_begin (Err r) = Err r

abbrev pub to_grant : Result RunState (Refusal SessionCause) → Reply
to_grant (Ok Run.Running) = Ok Running
to_grant (Ok Run.Over) = Ok Over
to_grant (Err r) = Err r

abbrev pub to_close : Result Closing (Refusal SessionCause) → Reply
to_close (Ok c) = Ok (Closed c.ending c.count)
to_close (Err r) = Err r
