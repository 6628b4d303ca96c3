-- The sessions of the double sheet, computed.
use Rattle.std.proofs.Common.{◌≡◌, ℕ, List, [], ◌∷◌, map, reverse, refl, ap, subst}
use Rattle.kinds.specs.Arithmetic.{Arithmetic}
use Rattle.kinds.specs.Whole.{whole}
use Rattle.kinds.specs.Single.{single}
use Rattle.script.specs.Script.{Statement}
use Rattle.calls.specs.declared.asked.Call.{Call}
use Rattle.calls.specs.History.{History, Reply, ledger, reply_of}
use Rattle.calls.specs.Answers.{Answered}
use Rattle.calls.specs.Laws.{global_store}
use Rattle.calls.proofs.Replies.{made, made_called, made_talks}
use Rattle.published.specs.Double.{double}
use Rattle.published.specs.Runs.{with_zeros}
use Rattle.published.specs.Session.{SessionsTold, Talk, Told, long_talk, small_talk, stopped_talk, unlawful_talk}
use Rattle.published.proofs.Computed.{text, the_statement}

module _ (K : Arithmetic) (size : ℕ) (first : List ℕ) (talk : Talk) (last : List ℕ) where
  abbrev calls : List Call
  calls = map (λ e. e.0) talk

  abbrev replies : List Reply
  replies = map (λ e. e.1) talk

  -- what its calls make, the latest first
  abbrev history : History
  history = made K double (text double) size (with_zeros size first) (reverse calls)

  told : map reply_of history ≡ reverse replies → global_store double (ledger double (with_zeros size first) history).words ≡ last → Told K size first talk last
  told e l s =
      subst (λ (t : Statement). (a : Answered K double t size (with_zeros size first) calls replies) × (global_store double (ledger double (with_zeros size first) a.history).words ≡ last))
      (ap the_statement s.is) (
        record {
          history = history;
          talk = made_talks K double (text double) size (with_zeros size first) (reverse calls);
          asked = made_called K double (text double) size (with_zeros size first) (reverse calls);
          told = e;
        },
        l,
      )

pub sessions_told : SessionsTold
sessions_told = record {
  long = told whole 24 (7 ∷ 9 ∷ []) long_talk (3 ∷ 6 ∷ []) refl refl;
  stopped = told whole 1024 (1 ∷ 9 ∷ []) stopped_talk (1 ∷ 0 ∷ []) refl refl;
  too_small = told whole 1 (7 ∷ []) small_talk (7 ∷ []) refl refl;
  infinite = told single 24 (7 ∷ 2139095040 ∷ []) unlawful_talk (7 ∷ 2139095040 ∷ []) refl refl;
}
