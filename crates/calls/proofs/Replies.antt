-- Calls get one list of replies.
use Rattle.std.proofs.Common.{◌≡◌, ℕ, List, [], ◌∷◌, map, reverse, sym, refl, ap, ◌∙◌}
use Rattle.std.proofs.lemmas.List.{reverse-reverse}
use Rattle.kinds.specs.Arithmetic.{Arithmetic}
use Rattle.lines.specs.declared.records.Line.{Line}
use Rattle.script.specs.Script.{Statement}
use Rattle.calls.specs.declared.asked.Call.{Call}
use Rattle.calls.specs.History.{History, Reply, call_of, reply_of, ledger}
use Rattle.calls.specs.Answers.{Conversation, Answered}
use Rattle.calls.specs.Laws.{OneReply}
use Rattle.calls.proofs.Due.{called, event_of, only, right}

same_lists : {A : Type 0} (us vs : List A) → reverse us ≡ reverse vs → us ≡ vs
same_lists us vs e = sym (reverse-reverse us) ∙ ap reverse e ∙ reverse-reverse vs

module _ (K : Arithmetic) (ls : List Line) (t : Statement) (size : ℕ) where
  -- the history that some calls make, the latest first
  abbrev pub made : List ℕ → List Call → History
  made first [] = []
  made first (q ∷ qs) = event_of K ls t size (ledger ls first (made first qs)) q ∷ made first qs

  pub made_talks : (first : List ℕ) (qs : List Call) → Conversation K ls t size first (made first qs)
  made_talks first [] = tt
  made_talks first (q ∷ qs) = (made_talks first qs, right K ls t size (ledger ls first (made first qs)) q)

  pub made_called : (first : List ℕ) (qs : List Call) → map call_of (made first qs) ≡ qs
  made_called first [] = refl
  made_called first (q ∷ qs) = λ j. called K ls t size (ledger ls first (made first qs)) q j ∷ made_called first qs j

  pub is_made : (first : List ℕ) (h : History) → Conversation K ls t size first h → h ≡ made first (map call_of h)
  is_made first [] c = refl
  is_made first (e ∷ h) c =
      let i = is_made first h c.0 in
      (λ j. only K ls t size (ledger ls first h) e c.1 j ∷ h)
      ∙ (λ j. event_of K ls t size (ledger ls first (i j)) (call_of e) ∷ i j)

  -- the replies to calls in their order
  abbrev pub replies : List ℕ → List Call → List Reply
  replies first qs = reverse (map reply_of (made first (reverse qs)))

  replied : (first : List ℕ) (qs : List Call) → Answered K ls t size first qs (replies first qs)
  replied first qs = record {
    history = made first (reverse qs);
    talk = made_talks first (reverse qs);
    asked = made_called first (reverse qs);
    told = sym (reverse-reverse (map reply_of (made first (reverse qs))));
  }

  pub replied_so : (first : List ℕ) (qs : List Call) (rs : List Reply) → Answered K ls t size first qs rs → rs ≡ replies first qs
  replied_so first qs rs a =
      same_lists rs (replies first qs)
      (sym a.told
      ∙ ap (map reply_of) (is_made first a.history a.talk ∙ ap (made first) a.asked)
      ∙ sym (reverse-reverse (map reply_of (made first (reverse qs)))))

pub one_reply : OneReply
one_reply K ls t size first qs = (replies K ls t size first qs, replied K ls t size first qs, replied_so K ls t size first qs)
