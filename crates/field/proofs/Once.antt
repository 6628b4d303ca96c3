-- A session that is opened for one run with one grant: what is replied, and what the store holds then.
use Rattle.std.proofs.Common.{◌≡◌, ℕ, ◌+◌, ◌<◌, ◌≤◌, Bool, true, false, eqb, ltb, List, [], ◌∷◌, length, map, reverse, get_or, take, Ok, Err, Result, ◌⊎◌, sym, refl, ap, ◌∙◌, subst, inl, inr, zero-add, arith}
use Rattle.std.proofs.lemmas.Bool.{ne_eqb, le-ltb}
use Rattle.std.proofs.lemmas.List.{get_or-take, reverse-reverse}
use Rattle.kinds.specs.Arithmetic.{Arithmetic}
use Rattle.kinds.specs.Whole.{whole}
use Rattle.text.specs.declared.refusals.Refusal.{Refusal}
use Rattle.lines.specs.declared.records.Line.{Line}
use Rattle.script.specs.Script.{Statement}
use Rattle.script.specs.IsScript.{IsScript}
use Rattle.sheet.specs.Reading.{outcome}
use Rattle.lines.specs.declared.records.Record.{Record}
use Rattle.acceptance.specs.Readings.{script_among}
use Rattle.acceptance.specs.Scripts.{Accepted, LeftAs, script_number_of}
use Rattle.acceptance.specs.declared.scripts.ScriptCause.{ScriptCause}
use Rattle.std.specs.Result.{IfOk}
use Rattle.acceptance.specs.Sheet.{lines_of}
use Rattle.rule.specs.Closing.{Closing, Closes, program_of}
use Rattle.rule.proofs.Count.{closing, closes}
use Rattle.faults.specs.declared.ending.Ending.{Ending}
use Rattle.faults.specs.Endings.{ending_of, in_rule}
use Rattle.faults.proofs.Known.{closings_known}
use Rattle.calls.specs.declared.asked.Answer.TheVariants.{Opened, Closed}
use Rattle.calls.specs.declared.asked.Call.{Call}
use Rattle.calls.specs.declared.asked.Call.TheVariants.{Open, Begin, Grant, Close}
use Rattle.calls.specs.declared.causes.SessionCause.{SessionCause}
use Rattle.calls.specs.declared.causes.SessionCause.TheVariants.{NotAtRest, NoSuchRun}
use Rattle.calls.specs.Causes.{number_of}
use Rattle.calls.specs.History.{opened, not_opened, refused, began, granted, closed, History, Reply, Run, reply_of, ledger}
use Rattle.calls.specs.Answers.{Answered, largest}
use Rattle.calls.specs.Openings.{Opens}
use Rattle.calls.proofs.Opening.{opening, opens_so}
use Rattle.calls.proofs.Replies.{is_made, made}
use Rattle.calls.proofs.Due.{event_of, grant_event, open_event, over}
use Rattle.report.specs.Rows.{refusal_row, run_rows}
use Rattle.field.specs.Report.{Reads, Writes, allowance, no_script, not_opened as opening_refused, ran}
use Rattle.session.specs.Promise.{Talked}
use lib.ListN.{length-map}
use Rattle.field.proofs.Bounds.{opening_line}
use Rattle.field.proofs.OneReport.{same_text}

-- open, begin, one grant, close
abbrev pub once : ℕ → List Call
once n = Open ∷ Begin ∷ Grant 1 n ∷ Close 1 ∷ []

module _ (K : Arithmetic) (ls : List Line) (t : Statement) (size : ℕ) (first : List ℕ) (n : ℕ) (some : 0 < n) (few : n ≤ largest) where
  abbrev r : Run
  r = record { number = 1; granted = 0; from = first }

  -- the closing
  abbrev c : Closing
  c = closing K (program_of ls t) size first (0 + n)

  abbrev b : Bool
  b = over K ls t size r (0 + n)

  -- the history where the opening is accepted, and where it is refused
  abbrev made_run : History
  made_run = closed 1 c ∷ granted 1 n b c.store ∷ began 1 ∷ opened ∷ []

  abbrev made_none : Refusal SessionCause → History
  made_none x = refused (Close 1) NoSuchRun ∷ refused (Grant 1 n) NoSuchRun ∷ refused Begin NotAtRest ∷ not_opened x ∷ []

  not_over : over K ls t size r 0 ≡ false
  not_over = refl

  grant : event_of K ls t size (ledger ls first (began 1 ∷ opened ∷ [])) (Grant 1 n) ≡ granted 1 n b c.store
  grant =
      let z : eqb n 0 ≡ false = ne_eqb n 0 (λ e. omega (arith, e, some)) in
      let m : ltb largest (0 + n) ≡ false = le-ltb largest (0 + n) (omega (arith, few)) in
      λ j. grant_event true (not_over j) (z j) (m j) b 1 n c.store

  -- what is made after an opening that is answered so
  abbrev after_opening : Result (Unit {0}) (Refusal SessionCause) → History
  after_opening x =
      let h = open_event x ∷ [] in
      let i = event_of K ls t size (ledger ls first h) Begin ∷ h in
      let j = event_of K ls t size (ledger ls first i) (Grant 1 n) ∷ i in
      event_of K ls t size (ledger ls first j) (Close 1) ∷ j

  is_opened : after_opening (Ok tt) ≡ made_run
  is_opened = λ j. event_of K ls t size (ledger ls first (grant j ∷ began 1 ∷ opened ∷ [])) (Close 1) ∷ grant j ∷ began 1 ∷ opened ∷ []

  module _ (replies : List Reply) (a : Answered K ls t size first (once n) replies) where
    history_is : a.history ≡ after_opening (opening K ls first)
    history_is = is_made K ls t size first a.history a.talk ∙ ap (made K ls t size first) a.asked

    replies_are : (h : History) → a.history ≡ h → replies ≡ reverse (map reply_of h)
    replies_are h e = sym (reverse-reverse replies) ∙ ap reverse (sym a.told ∙ ap (map reply_of) e)

    -- what came of it: the opening is refused, or the run is closed
    abbrev pub Came : Result (Unit {0}) (Refusal SessionCause) → Type 0
    Came (Err x) = ((d : Reply) → get_or replies 0 d ≡ Err x) × ((ledger ls first a.history).words ≡ first)
    Came (Ok u) = ((d : Reply) → get_or replies 0 d ≡ Ok Opened) × (k : Closing) × Closes K (program_of ls t) size first n k
        × ((d : Reply) → get_or replies 3 d ≡ Ok (Closed (ending_of k.ending) k.count)) × ((ledger ls first a.history).words ≡ k.store)

    came_so : (x : Result (Unit {0}) (Refusal SessionCause)) → a.history ≡ after_opening x → Came x
    came_so (Err x) e = (λ d. ap (λ xs. get_or xs 0 d) (replies_are (made_none x) e), ap (λ h. (ledger ls first h).words) e)
    came_so (Ok u) e =
        let p : a.history ≡ made_run = e ∙ is_opened in
        let q = replies_are made_run p in (
          λ d. ap (λ xs. get_or xs 0 d) q,
          c,
          subst (λ k. Closes K (program_of ls t) size first k c) (zero-add n) (closes K (program_of ls t) size first (0 + n)),
          λ d. ap (λ xs. get_or xs 3 d) q,
          ap (λ h. (ledger ls first h).words) p,
        )

    pub came : Came (opening K ls first)
    came = came_so (opening K ls first) history_is

-- ## What is written of it

abbrev pub RanSo : List ℕ → List ℕ → List ℕ → List Line → Type 0
RanSo words written σ ls = (s : IsScript whole.least whole.most ls) × Opens whole ls words (Ok tt)
    × (k : Closing) × Closes whole (program_of ls s.text) (length words) words allowance k × (written ≡ run_rows ls k.ending k.count k.store) × (σ ≡ k.store)

module _ (room n : ℕ) (text words written σ : List ℕ) (ls : List Line) (s : Reads room text (Ok n)) (e : ls ≡ (outcome room text).lines) where
  pub ran_written : RanSo words written σ ls → Writes room text words written σ
  ran_written w =
      let v = subst (RanSo words written σ) e w in
      let k = subst (λ (x : Statement). Closes whole (program_of (outcome room text).lines x) (length words) words allowance v.2) (same_text room text words s.1 v.0) v.3 in
      ran n v.2 s v.1 k v.4 v.5

  pub opening_written : (x : Refusal SessionCause) (cause line : ℕ) → Opens whole ls words (Err x) → cause ≡ number_of x.cause → line ≡ x.line
      → written ≡ refusal_row cause line → σ ≡ words → Writes room text words written σ
  opening_written x cause line o p q h w =
      opening_refused n x s (subst (λ ks. Opens whole ks words (Err x)) e o) (h ∙ (λ j. refusal_row (p j) (q j))) w

-- ## From the promise of a list of calls

abbrev pub IsRefused : List ℕ → List ℕ → List Line → List Reply → Type 0
IsRefused words σ ls replies = (x : Refusal SessionCause) × Opens whole ls words (Err x) × ((d : Reply) → get_or replies 0 d ≡ Err x) × (σ ≡ words)

abbrev pub IsOver : List ℕ → List ℕ → List Line → Statement → List Reply → Type 0
IsOver words σ ls t replies = Opens whole ls words (Ok tt) × ((d : Reply) → get_or replies 0 d ≡ Ok Opened)
    × (k : Closing) × Closes whole (program_of ls t) (length words) words allowance k × ((d : Reply) → get_or replies 3 d ≡ Ok (Closed (ending_of k.ending) k.count)) × (σ ≡ k.store)

told_so : (d e : Ending) (k n : ℕ) → ◌≡◌ {A = Reply} (Ok (Closed d k)) (Ok (Closed e n)) → (d ≡ e) × (k ≡ n)
told_so d e k n h = (cc, cc)

module _ (words σ : List ℕ) (rs : List Record) (a : Accepted whole.least whole.most rs) (replies : List Reply) (n : ℕ) (all : n ≡ 4)
    (talk : Talked whole rs a words (take n (once 1000000)) (take n replies) σ) where
  t : Talked whole rs a words (once 1000000) (take 4 replies) σ
  t = subst (λ k. Talked whole rs a words (take k (once 1000000)) (take k replies) σ) all talk

  few_lines : length (lines_of rs) ≤ 2048
  few_lines = let l = length-map rs (λ r. r.line) in let f = a.few in omega (arith, l, f)

  either : IsRefused words σ (lines_of rs) replies ⊎ IsOver words σ (lines_of rs) a.script.text replies
  either = go (opening whole (lines_of rs) words) (opens_so whole (lines_of rs) words)
      (came whole (lines_of rs) a.script.text (length words) words 1000000 (omega arith) (omega arith) (take 4 replies) t.answered)
    where
      go : (x : Result (Unit {0}) (Refusal SessionCause)) → Opens whole (lines_of rs) words x
          → Came whole (lines_of rs) a.script.text (length words) words 1000000 (omega arith) (omega arith) (take 4 replies) t.answered x
          → IsRefused words σ (lines_of rs) replies ⊎ IsOver words σ (lines_of rs) a.script.text replies
      go (Err x) o h = inl (x, o, λ d. sym (get_or-take 4 replies 0 d (omega arith)) ∙ h.0 d, t.store ∙ h.1)
      go (Ok u) o h = inr (o, λ d. sym (get_or-take 4 replies 0 d (omega arith)) ∙ h.0 d, h.1, h.2, λ d. sym (get_or-take 4 replies 3 d (omega arith)) ∙ h.3 d, t.store ∙ h.4)

  pub refused_so : (d : Reply) (x : Refusal SessionCause) → get_or replies 0 d ≡ Err x → Opens whole (lines_of rs) words (Err x) × (σ ≡ words)
  refused_so d x e = elim either [
    | inl w ↦
        let k : ◌≡◌ {A = Reply} (Err w.0) (Err x) = sym (w.2 d) ∙ e in
        let i : w.0 ≡ x = cc in
        (subst (λ y. Opens whole (lines_of rs) words (Err y)) i w.1, w.3)
    | inr w ↦
        let k : ◌≡◌ {A = Reply} (Ok Opened) (Err x) = sym (w.1 d) ∙ e in
        let z : ◌≡◌ {A = ℕ} 0 1 = cc in
        absurd (omega (arith, z))
  ]

  pub refused_line : (d : Reply) (x : Refusal SessionCause) → get_or replies 0 d ≡ Err x → x.line ≤ 2049
  refused_line d x e = opening_line whole (lines_of rs) words x few_lines (refused_so d x e).0

  pub over_so : (d : Reply) → ((x : Refusal SessionCause) → get_or replies 0 d ≡ Err x → ⊥) → IsOver words σ (lines_of rs) a.script.text replies
  over_so d f = elim either [ inl w ↦ absurd (f w.0 (w.2 d)) | inr w ↦ w ]

  -- the lines of the report are those that are due
  pub over_written : (d : Reply) → ((x : Refusal SessionCause) → get_or replies 0 d ≡ Err x → ⊥) → (ending : Ending) (count : ℕ) → get_or replies 3 d ≡ Ok (Closed ending count)
      → (written : List ℕ) → written ≡ run_rows (lines_of rs) (in_rule ending) count σ → RanSo words written σ (lines_of rs)
  over_written d f ending count e written p =
      let ls = lines_of rs in
      let w = over_so d f in
      let k = w.2 in
      let same = told_so (ending_of k.ending) ending k.count count (sym (w.4 d) ∙ e) in
      let known = closings_known whole (length words) whole.least whole.most ls few_lines a.script words allowance k w.3 in
      let ends : in_rule ending ≡ k.ending = ap in_rule (sym same.0) ∙ known.1 in
      (a.script, w.0, k, w.3, p ∙ (λ j. run_rows ls (ends j) (sym same.1 j) (w.5 j)), w.5)

-- where there is no script
pub sheet_written : (room : ℕ) (text words : List ℕ) (x : Refusal ScriptCause) (cause line : ℕ) → Reads room text (Err x) → cause ≡ script_number_of x.cause → line ≡ x.line
    → (written : List ℕ) → written ≡ refusal_row cause line → Writes room text words written words
sheet_written room text words x cause line h p q written e = no_script x h (e ∙ (λ j. refusal_row (p j) (q j))) refl

pub if_ok : {T E : Type 0} {P Q : T → Type 0} (r : Result T E) → ((x : T) → P x → Q x) → IfOk r P → IfOk r Q
if_ok (Ok x) f h = f x h
if_ok (Err e) f h = h

-- ## From a reading

refused_answer : (rs : List Record) (x : Result ℕ (Refusal ScriptCause)) (r : Refusal ScriptCause) → ◌≡◌ {A = Result (List Record) (Refusal ScriptCause)} (Err r) (script_among rs x) → x ≡ Err r
refused_answer rs (Ok n) r e = let z : ◌≡◌ {A = ℕ} 0 1 = cc in absurd (omega (arith, z))
refused_answer rs (Err s) r e = let k : s ≡ r = cc in ap Err k

read_answer : (rs : List Record) (x : Result ℕ (Refusal ScriptCause)) (ts : List Record) → ◌≡◌ {A = Result (List Record) (Refusal ScriptCause)} (Ok ts) (script_among rs x)
    → (n : ℕ) × (x ≡ Ok n) × (ts ≡ take n rs)
read_answer rs (Ok n) ts e = let k : ts ≡ take n rs = cc in (n, refl, k)
read_answer rs (Err s) ts e = let z : ◌≡◌ {A = ℕ} 0 1 = cc in absurd (omega (arith, z))

module _ (room : ℕ) (text : List ℕ) (before after : List Record) (x : Result ℕ (Refusal ScriptCause)) (right : Reads room text x) where
  pub read_refused : (r : Refusal ScriptCause) → ◌≡◌ {A = Result (List Record) (Refusal ScriptCause)} (Err r) (script_among after x) → Reads room text (Err r)
  read_refused r e = subst (Reads room text) (refused_answer after x r e) right

  pub read_script : (ts : List Record) → ◌≡◌ {A = Result (List Record) (Refusal ScriptCause)} (Ok ts) (script_among after x)
      → LeftAs whole.least whole.most (outcome room text) before x after → (n : ℕ) × Reads room text (Ok n) × (lines_of ts ≡ (outcome room text).lines)
  read_script ts e left =
      let w = read_answer after x ts e in
      let l = subst (λ y. LeftAs whole.least whole.most (outcome room text) before y after) w.1 left in
      (w.0, subst (Reads room text) w.1 right, ap lines_of w.2 ∙ l.0)
