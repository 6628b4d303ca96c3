-- Each call keeps what the calls before it left: the code does what the model of a session does.
use Rattle.std.proofs.Common.{◌≡◌, ℕ, ◌+◌, ◌≤◌, ◌||◌, Bool, true, false, cond, eqb, leb, ltb, List, [], ◌∷◌, length, nat_lt, slice_set, Some, None, Ok, Err, Option, Result, ℤ, sym, refl, ap, ap₂, ◌∙◌, subst, arith}
use Rattle.std.proofs.lemmas.Bool.{le-ltb, leb-false, leb-true, lt-ltb}
use Rattle.std.specs.List.{slice_get}
use Rattle.kinds.specs.Arithmetic.{Arithmetic, Laws}
use Rattle.lines.specs.declared.records.Record.{Record}
use Rattle.text.specs.declared.refusals.Refusal.{Refusal}
use Rattle.text.specs.Refusals.{without_line}
use lib.ListN.{length-map}
use Rattle.acceptance.specs.Sheet.{lines_of}
use Rattle.acceptance.specs.Scripts.{Accepted}
use Rattle.rule.specs.Rewriting.{Ending, stopped}
use Rattle.rule.specs.Machine.{Item}
use Rattle.rule.specs.Resume.{Reached, going, ended}
use Rattle.faults.specs.declared.ending.Ending.TheVariants.{Stopped}
use Rattle.faults.specs.Endings.{ending_of}
use Rattle.faults.proofs.Endings.{endings_told}
use Rattle.engine.specs.Running.{globals_in, machine_after}
use Rattle.calls.specs.declared.asked.Answer.TheVariants.{Closed}
use Rattle.calls.specs.declared.asked.Call.{Call}
use Rattle.calls.specs.declared.asked.Call.TheVariants.{Open, Post, Reading, Begin, Grant, Close}
use Rattle.calls.specs.declared.asked.GlobalCell.{GlobalCell}
use Rattle.calls.specs.declared.causes.SessionCause.{SessionCause}
use Rattle.calls.specs.declared.causes.SessionCause.TheVariants.{NotAtRest, UnlawfulWord, NoSuchRun, WrongGrant, RunIsOver, NoRunLeft, StoreFails}
use Rattle.calls.specs.Globals.{cell_of}
use Rattle.calls.specs.Openings.{Opens}
use Rattle.calls.specs.History.{refused, posted, read, granted, Reply, call_of, ledger, reply_of}
use Rattle.calls.specs.Answers.{Due, largest}
use Rattle.calls.specs.Standing.{Phase, away, rest, running, over, Stands}
use Rattle.calls.proofs.Model.{Step, answer_of, at, begins, goes_on, ends_so, is_past, opens_to, posts, reached, reads, word_event}
use Rattle.calls.proofs.Opening.{one_opening, opening, opens_so}
use Rattle.calls.proofs.Running.{done, store_of}
use Rattle.calls.proofs.Due.{called, right}
use Rattle.calls.proofs.Kept.{kept, stands_first}
use Rattle.session.specs.declared.runs.Closing.{Closing}
use Rattle.session.specs.declared.runs.RunState.{RunState}
use Rattle.session.specs.Sessions as Place
use Rattle.session.specs.Sessions.{Held, Setting, after_opening, after_post, cell_in, lawful_word, or_no_global, post_into, reading_of}
use Rattle.session.specs.Runs.{AfterBegin, Granted, WentOn, after_close, begin_answer, close_answer, closing, grant_refusal}
use Rattle.session.specs.Promise.{Holds, Keeps, StandsAfter, setting, to_begin, to_close, to_grant, to_open, to_post, to_reading}

pub few_lines : (low high : ℤ) (rs : List Record) → Accepted low high rs → length (lines_of rs) ≤ 2048
few_lines low high rs a = let e = length-map rs (λ r. r.line) in let few = a.few in omega (arith, e, few)

module _ (K : Arithmetic) (rs : List Record) where
  -- the call q does what the model's does, in every phase
  abbrev pub Models : Call → Held → List ℕ → Reply → Held → List ℕ → Type 0
  Models q held words r held' words' = (a : Accepted K.least K.most rs) (size n : ℕ) (p : Phase) → length words ≡ size → Holds rs size n held p
      → let x : Step = answer_of K (lines_of rs) a.script.text size (at p n words) q in
      (reply_of x.1 ≡ r) × Holds rs size x.0.runs held' x.0.phase × (words' ≡ x.0.words)

  pub keeps : Laws K → (q : Call) (held held' : Held) (words words' : List ℕ) (r : Reply) → Models q held words r held' words' → Keeps K rs q held words r held' words'
  keeps L q held held' words words' r m a size first h f =
      let ls = lines_of rs in
      let l = ledger ls first h in
      let x : Step = answer_of K ls a.script.text size (at f.phase f.runs words) q in
      let k = kept K L ls a.script (few_lines K.least K.most rs a) size l f.phase f.runs words f.stands q in
      let w = m a size f.runs f.phase f.stands.long f.holds in
      let stands = subst (Stands K ls a.script.text size (ledger ls first (x.1 ∷ h)) x.0.phase x.0.runs) (sym w.2) k.stands in (
        x.1,
        ap call_of k.is ∙ called K ls a.script.text size l q,
        w.0,
        record {
          talk = (f.talk, subst (Due K ls a.script.text size l) (sym k.is) (right K ls a.script.text size l q));
          store = sym stands.words;
          phase = x.0.phase;
          runs = x.0.runs;
          holds = w.1;
          stands = stands;
        },
      )

  -- the same of another call and another reply that are no others
  pub keeps_as : (q p : Call) (r s : Reply) (held held' : Held) (words words' : List ℕ) → q ≡ p → r ≡ s
      → Keeps K rs q held words r held' words' → Keeps K rs p held words s held' words'
  keeps_as q p r s held held' words words' e f k =
      subst (λ x. Keeps K rs x held words s held' words') e (subst (λ x. Keeps K rs q held words x held' words') f k)

  -- ## Before any call, and an opening

  pub stands_unopened : Laws K → (a : Accepted K.least K.most rs) (words : List ℕ) → StandsAfter K rs a (length words) words [] Place.none words
  stands_unopened L a words = record {
    talk = tt;
    store = refl;
    phase = away;
    runs = 0;
    holds = refl;
    stands = stands_first K L (lines_of rs) a.script (few_lines K.least K.most rs a) (length words) words refl;
  }

  pub open_models : (held held' : Held) (words : List ℕ) (r : Result (Unit {0}) (Refusal SessionCause)) → Opens K (lines_of rs) words r
      → held' ≡ after_opening rs words r → Models Open held words (to_open r) held' words
  open_models held held' words r o e a size n p h x =
      let same : r ≡ opening K (lines_of rs) words = one_opening K (lines_of rs) words (opening K (lines_of rs) words) r (opens_so K (lines_of rs) words) o in
      subst (λ y. (reply_of (opens_to y words).1 ≡ to_open r) × Holds rs size (opens_to y words).0.runs held' (opens_to y words).0.phase × (words ≡ (opens_to y words).0.words))
      same (go r e)
    where
      go : (y : Result (Unit {0}) (Refusal SessionCause)) → held' ≡ after_opening rs words y
          → (reply_of (opens_to y words).1 ≡ to_open y) × Holds rs size (opens_to y words).0.runs held' (opens_to y words).0.phase × (words ≡ (opens_to y words).0.words)
      go (Ok u) f = (refl, f ∙ ap (λ k. Place.at_rest (setting rs k 0)) h, refl)
      go (Err q) f = (refl, f, refl)

-- ## Post and reading

lawful_reply : (K : Arithmetic) (o : Option ℕ) (g : GlobalCell) → reply_of (word_event K o g) ≡ to_reading (lawful_word K o)
lawful_reply K None g = refl
lawful_reply K (Some w) g = go (K.lawful w)
  where
    go : (b : Bool) → reply_of (cond b (read g w) (refused (Reading g) StoreFails)) ≡ to_reading (cond b (Ok w) (Err (without_line StoreFails)))
    go true = refl
    go false = refl

module _ (K : Arithmetic) (rs : List Record) (words : List ℕ) (g : GlobalCell) where
  -- a reading, by the cell that it finds
  pub reading_models : (held : Held) (r : Result ℕ (Refusal SessionCause)) → r ≡ reading_of K words (cell_in held g) → Models K rs (Reading g) held words (to_reading r) held words
  reading_models held r e a size n away long h = (ap to_reading (sym (e ∙ ap (λ x. reading_of K words (cell_in x g)) h)), h, refl)
  reading_models held r e a size n rest long h =
      let t = go (cell_of (lines_of rs) g) in
      (t.0 ∙ ap to_reading (sym (e ∙ ap (λ x. reading_of K words (cell_in x g)) h)), t.1, t.2)
    where
      go : (o : Option ℕ) → let x : Step = reads K (lines_of rs) a.script.text size rest o n words g in
          (reply_of x.1 ≡ to_reading (reading_of K words (or_no_global o))) × Holds rs size x.0.runs held x.0.phase × (words ≡ x.0.words)
      go None = (refl, h, refl)
      go (Some c) = (lawful_reply K (slice_get words c) g, h, refl)
  reading_models held r e a size n (running ps k) long h = (ap to_reading (sym (e ∙ ap (λ x. reading_of K words (cell_in x g)) h.1)), h, refl)
  reading_models held r e a size n (over d k) long h = (ap to_reading (sym (e ∙ ap (λ x. reading_of K words (cell_in x g)) h.1)), h, refl)

  -- a post, by the cell that it finds, whether its word is lawful, and whether the store has the cell
  pub post_models : (w : ℕ) (held : Held) (words' : List ℕ) (r : Result (Unit {0}) (Refusal SessionCause)) → r ≡ post_into K words w (cell_in held g)
      → words' ≡ after_post words (cell_in held g) w r → Models K rs (Post g w) held words (to_post r) held words'
  post_models w held words' r e f a size n away long h =
      let none_there : cell_in held g ≡ Err (without_line NotAtRest) = ap (λ x. cell_in x g) h in
      (ap to_post (sym (e ∙ ap (post_into K words w) none_there)), h, f ∙ ap (λ x. after_post words x w r) none_there)
  post_models w held words' r e f a size n rest long h =
      let is : cell_in held g ≡ or_no_global (cell_of (lines_of rs) g) = ap (λ x. cell_in x g) h in
      let said : r ≡ post_into K words w (or_no_global (cell_of (lines_of rs) g)) = e ∙ ap (post_into K words w) is in
      let t = go (cell_of (lines_of rs) g) (K.lawful w) refl in
      (t.0 ∙ ap to_post (sym said), t.1, f ∙ (ap₂ (λ x y. after_post words x w y) is said ∙ t.2))
    where
      go : (o : Option ℕ) (b : Bool) → K.lawful w ≡ b → let x : Step = posts K (lines_of rs) a.script.text size rest o b n words g w in
          (reply_of x.1 ≡ to_post (post_into K words w (or_no_global o))) × Holds rs size x.0.runs held x.0.phase
          × (after_post words (or_no_global o) w (post_into K words w (or_no_global o)) ≡ x.0.words)
      go None b q = (refl, h, refl)
      go (Some c) false q =
          let said : post_into K words w (Ok c) ≡ Err (without_line UnlawfulWord) =
          ap (λ b. cond b (cond (nat_lt c (length words)) (Ok tt) (Err (without_line StoreFails))) (Err (without_line UnlawfulWord))) q in
          (ap to_post (sym said), h, ap (after_post words (Ok c) w) said)
      go (Some c) true q = there (nat_lt c (length words)) refl
        where
          there : (t : Bool) → nat_lt c (length words) ≡ t → let x : Step = cond t (at rest n (slice_set words c w), posted g w) (at rest n words, refused (Post g w) StoreFails) in
              (reply_of x.1 ≡ to_post (post_into K words w (Ok c))) × Holds rs size x.0.runs held x.0.phase × (after_post words (Ok c) w (post_into K words w (Ok c)) ≡ x.0.words)
          there true u =
              let said : post_into K words w (Ok c) ≡ Ok tt =
              (λ j. cond (q j) (cond (u j) (Ok tt) (Err (without_line StoreFails))) (Err (without_line UnlawfulWord))) in
              (ap to_post (sym said), h, ap (after_post words (Ok c) w) said)
          there false u =
              let said : post_into K words w (Ok c) ≡ Err (without_line StoreFails) =
              (λ j. cond (q j) (cond (u j) (Ok tt) (Err (without_line StoreFails))) (Err (without_line UnlawfulWord))) in
              (ap to_post (sym said), h, ap (after_post words (Ok c) w) said)
  post_models w held words' r e f a size n (running ps k) long h =
      let busy : cell_in held g ≡ Err (without_line NotAtRest) = ap (λ x. cell_in x g) h.1 in
      (ap to_post (sym (e ∙ ap (post_into K words w) busy)), h, f ∙ ap (λ x. after_post words x w r) busy)
  post_models w held words' r e f a size n (over d k) long h =
      let busy : cell_in held g ≡ Err (without_line NotAtRest) = ap (λ x. cell_in x g) h.1 in
      (ap to_post (sym (e ∙ ap (post_into K words w) busy)), h, f ∙ ap (λ x. after_post words x w r) busy)

-- ## Begin

no_more : (n : ℕ) → leb largest n ≡ true → nat_lt n largest ≡ false
no_more n e = le-ltb n largest (leb-true largest n e)

one_more : (n : ℕ) → leb largest n ≡ false → nat_lt n largest ≡ true
one_more n e = lt-ltb n largest (leb-false largest n e)

module _ (K : Arithmetic) (rs : List Record) (words : List ℕ) where
  pub begin_models : (held held' : Held) (r : Result ℕ (Refusal SessionCause)) → r ≡ begin_answer held → AfterBegin held r held'
      → Models K rs Begin held words (to_begin r) held' words
  begin_models held held' r e f a size n away long h = (ap to_begin (sym (e ∙ ap begin_answer h)), subst (λ x. AfterBegin x r held') h f, refl)
  begin_models held held' r e f a size n rest long h = go (leb largest n) refl
    where
      here : r ≡ cond (nat_lt n largest) (Ok (n + 1)) (Err (without_line NoRunLeft))
      here = e ∙ ap begin_answer h

      moved : (x : Result ℕ (Refusal SessionCause)) → r ≡ x → AfterBegin (Place.at_rest (setting rs size n)) x held'
      moved x u = subst (λ y. AfterBegin y x held') h (subst (λ y. AfterBegin held y held') u f)

      go : (b : Bool) → leb largest n ≡ b → let x : Step = begins K (lines_of rs) a.script.text size rest b n words in
          (reply_of x.1 ≡ to_begin r) × Holds rs size x.0.runs held' x.0.phase × (words ≡ x.0.words)
      go true q =
          let said : r ≡ Err (without_line NoRunLeft) = here ∙ ap (λ b. cond b (Ok (n + 1)) (Err (without_line NoRunLeft))) (no_more n q) in
          let left : AfterBegin (Place.at_rest (setting rs size n)) (Err (without_line NoRunLeft)) held' = moved (Err (without_line NoRunLeft)) said in
          (ap to_begin (sym said), left, refl)
      go false q =
          let said : r ≡ Ok (n + 1) = here ∙ ap (λ b. cond b (Ok (n + 1)) (Err (without_line NoRunLeft))) (one_more n q) in
          let begun : AfterBegin (Place.at_rest (setting rs size n)) (Ok (n + 1)) held' = moved (Ok (n + 1)) said in
          (ap to_begin (sym said), (begun.0, begun.1, begun.2 K a), refl)
  begin_models held held' r e f a size n (running ps k) long h =
      (ap to_begin (sym (e ∙ ap begin_answer h.1)), (h.0, subst (λ x. AfterBegin x r held') h.1 f, h.2), refl)
  begin_models held held' r e f a size n (over d k) long h =
      (ap to_begin (sym (e ∙ ap begin_answer h.1)), (h.0, subst (λ x. AfterBegin x r held') h.1 f, h.2), refl)

-- ## Grant

module _ (K : Arithmetic) (rs : List Record) (held held' : Held) (words words' : List ℕ) (i m : ℕ) (r : Result RunState (Refusal SessionCause)) where
  abbrev pub Refuses : Type 0
  Refuses = (c : SessionCause) → grant_refusal held i m ≡ Some c → (r ≡ Err (without_line c)) × (held' ≡ held) × (words' ≡ words)

  abbrev pub Goes : Type 0
  Goes = grant_refusal held i m ≡ None → Granted K held m words r held' words'

  module _ (fails : Refuses) (goes : Goes) (a : Accepted K.least K.most rs) (size n : ℕ) where
    abbrev o : Setting
    o = setting rs size n

    -- a refused grant leaves all as it was
    refused_so : (p : Phase) (c : SessionCause) → Holds rs size n held p → grant_refusal held i m ≡ Some c
        → (Err (without_line c) ≡ to_grant r) × Holds rs size n held' p × (words' ≡ words)
    refused_so p c h e = let w = fails c e in (sym (ap to_grant w.0), subst (λ x. Holds rs size n x p) (sym w.1) h, w.2)

    -- the machine has come to x
    came : (k : ℕ) (x : Reached Item (List ℕ)) → WentOn o k m r held' words' x
        → (reply_of (granted i m (done x) (store_of x)) ≡ to_grant r) × Holds rs size (reached n k m x).runs held' (reached n k m x).phase × (words' ≡ (reached n k m x).words)
    came k (going ps τ) w = (ap to_grant (sym w.0), (w.2, w.3, w.4), w.1)
    came k (ended d j τ) w = (ap to_grant (sym w.0), (w.2, w.4, w.3), w.1)

    in_a_run : (ps : List Item) (k : ℕ) → Holds rs size n held (running ps k) → (x y z : Bool) → eqb n i ≡ x → eqb m 0 ≡ y → ltb largest (k + m) ≡ z
        → let v : Step = goes_on K (lines_of rs) a.script.text size x y z ps k n words i m in
        (reply_of v.1 ≡ to_grant r) × Holds rs size v.0.runs held' v.0.phase × (words' ≡ v.0.words)
    in_a_run ps k h x y z ex ey ez = go x y z ex ey ez
      where
        is : (x y z : Bool) → eqb n i ≡ x → eqb m 0 ≡ y → ltb largest (k + m) ≡ z → grant_refusal held i m ≡ cond x (cond (y || z) (Some WrongGrant) None) (Some NoSuchRun)
        is x y z ex ey ez = ap (λ u. grant_refusal u i m) h.1 ∙ (λ j. cond (ex j) (cond (ey j || ez j) (Some WrongGrant) None) (Some NoSuchRun))

        go : (x y z : Bool) → eqb n i ≡ x → eqb m 0 ≡ y → ltb largest (k + m) ≡ z
            → let v : Step = goes_on K (lines_of rs) a.script.text size x y z ps k n words i m in
            (reply_of v.1 ≡ to_grant r) × Holds rs size v.0.runs held' v.0.phase × (words' ≡ v.0.words)
        go false y z ex ey ez = refused_so (running ps k) NoSuchRun h (is false y z ex ey ez)
        go true true z ex ey ez = refused_so (running ps k) WrongGrant h (is true true z ex ey ez)
        go true false true ex ey ez = refused_so (running ps k) WrongGrant h (is true false true ex ey ez)
        go true false false ex ey ez =
            let w : Granted K (Place.running o k h.0) m words r held' words' = subst (λ u. Granted K u m words r held' words') h.1 (goes (is true false false ex ey ez)) in
            came k (machine_after K size (globals_in rs) m ps words) (w ps h.2)

    past_it : (d : Ending) (k : ℕ) → Holds rs size n held (over d k) → (x : Bool) → eqb n i ≡ x
        → let v : Step = is_past K (lines_of rs) a.script.text size x d k n words i m in
        (reply_of v.1 ≡ to_grant r) × Holds rs size v.0.runs held' v.0.phase × (words' ≡ v.0.words)
    past_it d k h false e = refused_so (over d k) NoSuchRun h (ap (λ u. grant_refusal u i m) h.1 ∙ ap (λ b. cond b (Some RunIsOver) (Some NoSuchRun)) e)
    past_it d k h true e = refused_so (over d k) RunIsOver h (ap (λ u. grant_refusal u i m) h.1 ∙ ap (λ b. cond b (Some RunIsOver) (Some NoSuchRun)) e)

  pub grant_models : Refuses → Goes → Models K rs (Grant i m) held words (to_grant r) held' words'
  grant_models fails goes a size n away long h = refused_so fails goes a size n away NoSuchRun h (ap (λ u. grant_refusal u i m) h)
  grant_models fails goes a size n rest long h = refused_so fails goes a size n rest NoSuchRun h (ap (λ u. grant_refusal u i m) h)
  grant_models fails goes a size n (running ps k) long h = in_a_run fails goes a size n ps k h (eqb n i) (eqb m 0) (ltb largest (k + m)) refl refl refl
  grant_models fails goes a size n (over d k) long h = past_it fails goes a size n d k h (eqb n i) refl

-- ## Close

module _ (K : Arithmetic) (rs : List Record) (words : List ℕ) (i : ℕ) where
  pub close_models : (held held' : Held) (r : Result Closing (Refusal SessionCause)) → r ≡ close_answer held i → held' ≡ after_close held i
      → Models K rs (Close i) held words (to_close r) held' words
  close_models held held' r e f a size n away long h = (ap to_close (sym (e ∙ ap (λ x. close_answer x i) h)), f ∙ ap (λ x. after_close x i) h, refl)
  close_models held held' r e f a size n rest long h = (ap to_close (sym (e ∙ ap (λ x. close_answer x i) h)), f ∙ ap (λ x. after_close x i) h, refl)
  close_models held held' r e f a size n (running ps k) long h = go (eqb n i) refl
    where
      answered : r ≡ cond (eqb n i) (Ok (closing Stopped k)) (Err (without_line NoSuchRun))
      answered = e ∙ ap (λ x. close_answer x i) h.1

      left : held' ≡ cond (eqb n i) (Place.at_rest (setting rs size n)) (Place.running (setting rs size n) k h.0)
      left = f ∙ ap (λ x. after_close x i) h.1

      go : (b : Bool) → eqb n i ≡ b → let x : Step = ends_so K (lines_of rs) a.script.text size b (running ps k) stopped k n words i in
          (reply_of x.1 ≡ to_close r) × Holds rs size x.0.runs held' x.0.phase × (words ≡ x.0.words)
      go false q = (
        ap to_close (sym (answered ∙ ap (λ b. cond b (Ok (closing Stopped k)) (Err (without_line NoSuchRun))) q)),
        (h.0, left ∙ ap (λ b. cond b (Place.at_rest (setting rs size n)) (Place.running (setting rs size n) k h.0)) q, h.2),
        refl,
      )
      go true q = (
        ap to_close (sym (answered ∙ ap (λ b. cond b (Ok (closing Stopped k)) (Err (without_line NoSuchRun))) q)),
        left ∙ ap (λ b. cond b (Place.at_rest (setting rs size n)) (Place.running (setting rs size n) k h.0)) q,
        refl,
      )
  close_models held held' r e f a size n (over d k) long h = go (eqb n i) refl
    where
      answered : r ≡ cond (eqb n i) (Ok (closing h.0 k)) (Err (without_line NoSuchRun))
      answered = e ∙ ap (λ x. close_answer x i) h.1

      left : held' ≡ cond (eqb n i) (Place.at_rest (setting rs size n)) (Place.over (setting rs size n) h.0 k)
      left = f ∙ ap (λ x. after_close x i) h.1

      go : (b : Bool) → eqb n i ≡ b → let x : Step = ends_so K (lines_of rs) a.script.text size b (over d k) d k n words i in
          (reply_of x.1 ≡ to_close r) × Holds rs size x.0.runs held' x.0.phase × (words ≡ x.0.words)
      go false q = (
        ap to_close (sym (answered ∙ ap (λ b. cond b (Ok (closing h.0 k)) (Err (without_line NoSuchRun))) q)),
        (h.0, left ∙ ap (λ b. cond b (Place.at_rest (setting rs size n)) (Place.over (setting rs size n) h.0 k)) q, h.2),
        refl,
      )
      go true q = (
        ap (λ c. Ok (Closed c k)) (ap ending_of (sym h.2) ∙ endings_told h.0)
            ∙ ap to_close (sym (answered ∙ ap (λ b. cond b (Ok (closing h.0 k)) (Err (without_line NoSuchRun))) q)),
        left ∙ ap (λ b. cond b (Place.at_rest (setting rs size n)) (Place.over (setting rs size n) h.0 k)) q,
        refl,
      )
