-- A list of calls, one more at a time.
use Rattle.std.proofs.Common.{◌≡◌, ℕ, ◌+◌, List, [], ◌∷◌, ◌++◌, length, map, drop, drop-drop, reverse, sym, refl, ap, ◌∙◌}
use Rattle.std.proofs.lemmas.List.{reverse-append}
use Rattle.kinds.specs.Arithmetic.{Arithmetic}
use Rattle.lines.specs.declared.records.Record.{Record}
use Rattle.acceptance.specs.Scripts.{Accepted}
use Rattle.calls.specs.declared.asked.Call.{Call}
use Rattle.calls.specs.declared.asked.Call.TheVariants.{Open}
use Rattle.calls.specs.History.{History, Reply, call_of, reply_of}
use Rattle.session.specs.Sessions.{Held}
use Rattle.session.specs.Promise.{Keeps, StandsAfter, Talked}

-- a call to look up by default
abbrev pub blank : Call
blank = Open

-- what is the same from one place on is so from the next
pub one_further : {A : Type 0} (i : ℕ) (us vs : List A) → drop i us ≡ drop i vs → drop (i + 1) us ≡ drop (i + 1) vs
one_further i us vs e = sym (drop-drop 1 i us) ∙ (ap (drop 1) e ∙ drop-drop 1 i vs)

module _ (K : Arithmetic) (rs : List Record) (a : Accepted K.least K.most rs) (σ : List ℕ) where
  -- after the calls qs, which got those replies, the session and the words of its store stand
  pub record Spoken (qs : List Call) (replies : List Reply) (held : Held) (words : List ℕ) : Type 0 where
    pub history : History
    pub asked : map call_of history ≡ reverse qs
    pub told : map reply_of history ≡ reverse replies
    pub stands : StandsAfter K rs a (length σ) σ history held words

  pub spoken_first : (held : Held) → StandsAfter K rs a (length σ) σ [] held σ → Spoken [] [] held σ
  spoken_first held s = record { history = []; asked = refl; told = refl; stands = s }

  -- with one call more, by the promise of that call
  pub spoken_more : (qs : List Call) (replies : List Reply) (held held' : Held) (words words' : List ℕ) (q : Call) (r : Reply)
      → Spoken qs replies held words → Keeps K rs q held words r held' words' → Spoken (qs ++ q ∷ []) (replies ++ r ∷ []) held' words'
  spoken_more qs replies held held' words words' q r s k =
      let w = k a (length σ) σ s.history s.stands in record {
        history = w.0 ∷ s.history;
        asked = (λ j. w.1 j ∷ s.asked j) ∙ sym (reverse-append qs (q ∷ []));
        told = (λ j. w.2 j ∷ s.told j) ∙ sym (reverse-append replies (r ∷ []));
        stands = w.3;
      }

  pub talked : (qs : List Call) (replies : List Reply) (held : Held) (words : List ℕ) → Spoken qs replies held words → Talked K rs a σ qs replies words
  talked qs replies held words s = record {
    answered = record { history = s.history; talk = s.stands.talk; asked = s.asked; told = s.told };
    store = s.stands.store;
  }
