-- What a script that was read comes from.
use Rattle.std.proofs.Common.{◌≡◌, ℕ, List, take, Ok, Err, Result, ap, ◌∙◌, sym, subst, refl, arith}
use Rattle.kinds.specs.Arithmetic.{Arithmetic}
use Rattle.lines.specs.declared.records.Record.{Record}
use Rattle.text.specs.declared.refusals.Refusal.{Refusal}
use Rattle.sheet.specs.Reading.{Outcome}
use Rattle.acceptance.specs.declared.scripts.ScriptCause.{ScriptCause}
use Rattle.acceptance.specs.Readings.{script_among}
use Rattle.acceptance.specs.Scripts.{Accepted, LeftAs, RightAnswer}
use Rattle.acceptance.specs.Sheet.{lines_of}
use Rattle.call_vectors.specs.Lists.{CameOut, IsRight}

read_answer : (rs : List Record) (x : Result ℕ (Refusal ScriptCause)) (ts : List Record) → ◌≡◌ {A = Result (List Record) (Refusal ScriptCause)} (Ok ts) (script_among rs x)
    → (n : ℕ) × (x ≡ Ok n) × (ts ≡ take n rs)
read_answer rs (Ok n) ts e = let k : ts ≡ take n rs = cc in (n, refl, k)
read_answer rs (Err s) ts e = let z : ◌≡◌ {A = ℕ} 0 1 = cc in absurd (omega (arith, z))

-- a list that came out right for the script of a reading is right for the text
pub right_for_text : (K : Arithmetic) (o : Outcome) (before after : List Record) (x : Result ℕ (Refusal ScriptCause)) → RightAnswer K.least K.most o x
    → LeftAs K.least K.most o before x after → (ts : List Record) → ◌≡◌ {A = Result (List Record) (Refusal ScriptCause)} (Ok ts) (script_among after x)
    → (σ text σ' : List ℕ) → CameOut K ts σ text σ' → IsRight K o σ text σ'
right_for_text K o before after x right left ts e σ text σ' out =
    let w = read_answer after x ts e in
    let l = subst (λ y. LeftAs K.least K.most o before y after) w.1 left in
    record {
      count = w.0;
      read = (subst (RightAnswer K.least K.most o) w.1 right).0;
      records = ts;
      lines = ap lines_of w.2 ∙ l.0;
      accepted = subst (Accepted K.least K.most) (sym w.2) l.1;
      came_out = out;
    }
