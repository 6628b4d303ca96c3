-- Tests of operations and answers for being the same, by which cases are counted.
use Rattle.std.proofs.Common.{◌≡◌, ℕ, Bool, true, false, cond, ◌&&◌, eqb, Ok, Err, Result, sym, refl, ap, ◌∙◌}
use Rattle.std.specs.Prelude.{Decides}
use Rattle.std.proofs.lemmas.Bool.{eqb-true, eq-eqb, false≢true, and_parts, and_from}
use Rattle.kinds.specs.Arithmetic.{Arithmetic}
use Rattle.kinds.specs.declared.fault.ArithmeticFault.{ArithmeticFault}
use Rattle.kinds.specs.declared.fault.ArithmeticFault.TheVariants.{OutOfRange, ZeroDivisor}
use Rattle.vectors.specs.declared.answer.Value.{Value}
use Rattle.vectors.specs.declared.answer.Value.TheVariants.{Word, Truth}
use Rattle.vectors.specs.declared.answer.Operation.{Operation}
use Rattle.vectors.specs.declared.answer.Operation.TheVariants.{Add, Subtract, Multiply, Divide, Equal, Less}
use Rattle.vectors.specs.declared.case.Case.{Case}
use Rattle.vectors.specs.Answers.{answered}
use Rattle.vectors.specs.Counts.{Asks, GivesWanted}

-- the place of an operation, and the operation at a place
place : Operation → ℕ
place Add = 0
place Subtract = 1
place Multiply = 2
place Divide = 3
place Equal = 4
place Less = 5

abbrev at_place : ℕ → Operation
at_place n = cond (eqb n 0) Add (cond (eqb n 1) Subtract (cond (eqb n 2) Multiply (cond (eqb n 3) Divide (cond (eqb n 4) Equal Less))))

same_place : (o : Operation) → at_place (place o) ≡ o
unfolding place
same_place Add = refl
same_place Subtract = refl
same_place Multiply = refl
same_place Divide = refl
same_place Equal = refl
same_place Less = refl

pub asks : Operation → Case → Bool
asks o c = eqb (place c.operation) (place o)

pub asks_decides : (o : Operation) (c : Case) → Decides (asks o c) (Asks o c)
unfolding asks
asks_decides o c = (
  (λ e. sym (same_place c.operation) ∙ ap at_place (eqb-true (place c.operation) (place o) e) ∙ same_place o),
  (λ e. eq-eqb (place c.operation) (place o) (ap place e)),
)

same_value : Value → Value → Bool
same_value (Word v) (Word w) = eqb v w
same_value (Word v) (Truth t) = false
same_value (Truth t) (Word v) = false
same_value (Truth false) (Truth false) = true
same_value (Truth false) (Truth true) = false
same_value (Truth true) (Truth false) = false
same_value (Truth true) (Truth true) = true

values_decide : (v w : Value) → Decides (same_value v w) (v ≡ w)
unfolding same_value
values_decide (Word v) (Word w) = (λ e. ap Word (eqb-true v w e), λ e. eq-eqb v w (cc))
values_decide (Word v) (Truth t) = (λ e. absurd (false≢true e), λ e. cc)
values_decide (Truth t) (Word v) = (λ e. absurd (false≢true e), λ e. cc)
values_decide (Truth false) (Truth false) = (λ _. refl, λ _. refl)
values_decide (Truth false) (Truth true) = (λ e. absurd (false≢true e), λ e. cc)
values_decide (Truth true) (Truth false) = (λ e. absurd (false≢true e), λ e. cc)
values_decide (Truth true) (Truth true) = (λ _. refl, λ _. refl)

same_answer : Result Value ArithmeticFault → Result Value ArithmeticFault → Bool
same_answer (Ok v) (Ok w) = same_value v w
same_answer (Ok v) (Err f) = false
same_answer (Err f) (Ok v) = false
same_answer (Err OutOfRange) (Err OutOfRange) = true
same_answer (Err OutOfRange) (Err ZeroDivisor) = false
same_answer (Err ZeroDivisor) (Err OutOfRange) = false
same_answer (Err ZeroDivisor) (Err ZeroDivisor) = true

answers_decide : (r s : Result Value ArithmeticFault) → Decides (same_answer r s) (r ≡ s)
unfolding same_answer
answers_decide (Ok v) (Ok w) = (λ e. ap Ok ((values_decide v w).0 e), λ e. (values_decide v w).1 (cc))
answers_decide (Ok v) (Err f) = (λ e. absurd (false≢true e), λ e. cc)
answers_decide (Err f) (Ok v) = (λ e. absurd (false≢true e), λ e. cc)
answers_decide (Err OutOfRange) (Err OutOfRange) = (λ _. refl, λ _. refl)
answers_decide (Err OutOfRange) (Err ZeroDivisor) = (λ e. absurd (false≢true e), λ e. cc)
answers_decide (Err ZeroDivisor) (Err OutOfRange) = (λ e. absurd (false≢true e), λ e. cc)
answers_decide (Err ZeroDivisor) (Err ZeroDivisor) = (λ _. refl, λ _. refl)

pub gives_wanted : Arithmetic → Case → Bool
gives_wanted k c = same_answer (answered k c.operation c.a c.b) c.wanted

pub gives_wanted_decides : (k : Arithmetic) (c : Case) → Decides (gives_wanted k c) (GivesWanted k c)
unfolding gives_wanted
gives_wanted_decides k c = answers_decide (answered k c.operation c.a c.b) c.wanted

pub agrees : Arithmetic → Operation → Case → Bool
agrees k o c = asks o c && gives_wanted k c

pub agrees_decides : (k : Arithmetic) (o : Operation) (c : Case) → Decides (agrees k o c) (Asks o c × GivesWanted k c)
unfolding agrees
agrees_decides k o c = (
  (λ e. let p = and_parts (asks o c) (gives_wanted k c) e in ((asks_decides o c).0 p.0, (gives_wanted_decides k c).0 p.1)),
  (λ p. and_from (asks o c) (gives_wanted k c) ((asks_decides o c).1 p.0) ((gives_wanted_decides k c).1 p.1)),
)
