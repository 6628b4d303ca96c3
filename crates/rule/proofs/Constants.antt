-- The constants of a script are of its kind, and so their words are lawful.
use Rattle.std.proofs.Common.{◌≡◌, ℕ, zero, suc, ◌<◌, ◌≤◌, T, ◌≤ℤ◌, ℤ, List, length, get_or, refl, sym, subst, inl, inr, arith}
use Rattle.std.proofs.lemmas.Bool.{cases_lt}
use Rattle.kinds.specs.Arithmetic.{Arithmetic, Laws, holds}
use Rattle.lines.specs.declared.records.Line.{Line}
use Rattle.script.specs.Script.{Place, simple, element, fixed, Expression, constant, word_of, work, choose, Condition, truth, compared, negated, implies}
use Rattle.script.specs.Script.{Statement, assign, both, branch, call, new_simple, new_array, system, Declarations, procedure, joined}
use Rattle.script.specs.Tree.{Part, place, expression, condition, statement, declarations, other, as_place, as_expression, as_condition, as_statement, as_declarations, grown, grow, part, line}
use Rattle.script.specs.Apart.{Scope, with_simple, with_array, with_procs, own, own_value, own_variable, place_apart, expression_apart, condition_apart, statement_apart, declarations_apart, globals_of}
use Rattle.script.specs.IsScript.{IsScript}
use Rattle.script.proofs.Grow.{grow_at, grow_beyond}
use Rattle.rule.specs.Lawful.{LawfulWord, LawfulPlace, LawfulExpression, LawfulCondition, LawfulText, LawfulDeclarations}

module _ (K : Arithmetic) where
  mutual
    place_kept : (s : Scope) (p : Place) → LawfulPlace K p → LawfulPlace K (place_apart s p)
    place_kept s (simple x) h = tt
    place_kept s (element a i) h = expression_kept s i h
    place_kept s (fixed a i) h = tt

    expression_kept : (s : Scope) (e : Expression) → LawfulExpression K e → LawfulExpression K (expression_apart s e)
    expression_kept s (constant n) h = h
    expression_kept s (word_of p) h = place_kept s p h
    expression_kept s (work o a b) h = (expression_kept s a h.0, expression_kept s b h.1)
    expression_kept s (choose c a b) h = (condition_kept s c h.0, expression_kept s a h.1, expression_kept s b h.2)

    condition_kept : (s : Scope) (c : Condition) → LawfulCondition K c → LawfulCondition K (condition_apart s c)
    condition_kept s (truth b) h = tt
    condition_kept s (compared r a b) h = (expression_kept s a h.0, expression_kept s b h.1)
    condition_kept s (negated c) h = condition_kept s c h
    condition_kept s (implies c d) h = (condition_kept s c h.0, condition_kept s d h.1)

  mutual
    text_kept : (t : Statement) (s : Scope) → LawfulText K t → LawfulText K (statement_apart s t)
    text_kept (assign l p e) s h = (place_kept s p h.0, expression_kept s e h.1)
    text_kept (both l a b) s h = (text_kept a s h.0, text_kept b s h.1)
    text_kept (branch l c a b) s h = (condition_kept s c h.0, text_kept a s h.1, text_kept b s h.2)
    text_kept (call l q e p) s h = (expression_kept s e h.0, place_kept s p h.1)
    text_kept (new_simple l x a) s h = text_kept a (with_simple x (own l) s) h
    text_kept (new_array l x n a) s h = text_kept a (with_array x (own l) s) h
    text_kept (system l d a) s h = (declarations_kept d (with_procs d s) h.0, text_kept a (with_procs d s) h.1)

    declarations_kept : (d : Declarations) (s : Scope) → LawfulDeclarations K d → LawfulDeclarations K (declarations_apart s d)
    declarations_kept (procedure l q x y b) s h = text_kept b (with_simple y (own_variable l) (with_simple x (own_value l) s)) h
    declarations_kept (joined d e) s h = (declarations_kept d s h.0, declarations_kept e s h.1)

  -- each line's part, from those of the lines before it
  abbrev LawfulPart : Part → Type 0
  LawfulPart (place p) = LawfulPlace K p
  LawfulPart (expression e) = LawfulExpression K e
  LawfulPart (condition c) = LawfulCondition K c
  LawfulPart (statement t) = LawfulText K t
  LawfulPart (declarations d) = LawfulDeclarations K d
  LawfulPart other = Unit {0}

  of_place : (P : Part) (f : Place → Part) → LawfulPart P → ((p : Place) → LawfulPlace K p → LawfulPart (f p)) → LawfulPart (as_place P f)
  of_place (place p) f h g = g p h
  of_place (expression e) f h g = tt
  of_place (condition c) f h g = tt
  of_place (statement t) f h g = tt
  of_place (declarations d) f h g = tt
  of_place other f h g = tt

  of_expression : (P : Part) (f : Expression → Part) → LawfulPart P → ((e : Expression) → LawfulExpression K e → LawfulPart (f e)) → LawfulPart (as_expression P f)
  of_expression (place p) f h g = g (word_of p) h
  of_expression (expression e) f h g = g e h
  of_expression (condition c) f h g = tt
  of_expression (statement t) f h g = tt
  of_expression (declarations d) f h g = tt
  of_expression other f h g = tt

  of_condition : (P : Part) (f : Condition → Part) → LawfulPart P → ((c : Condition) → LawfulCondition K c → LawfulPart (f c)) → LawfulPart (as_condition P f)
  of_condition (place p) f h g = tt
  of_condition (expression e) f h g = tt
  of_condition (condition c) f h g = g c h
  of_condition (statement t) f h g = tt
  of_condition (declarations d) f h g = tt
  of_condition other f h g = tt

  of_statement : (P : Part) (f : Statement → Part) → LawfulPart P → ((t : Statement) → LawfulText K t → LawfulPart (f t)) → LawfulPart (as_statement P f)
  of_statement (place p) f h g = tt
  of_statement (expression e) f h g = tt
  of_statement (condition c) f h g = tt
  of_statement (statement t) f h g = g t h
  of_statement (declarations d) f h g = tt
  of_statement other f h g = tt

  of_declarations : (P : Part) (f : Declarations → Part) → LawfulPart P → ((d : Declarations) → LawfulDeclarations K d → LawfulPart (f d)) → LawfulPart (as_declarations P f)
  of_declarations (place p) f h g = tt
  of_declarations (expression e) f h g = tt
  of_declarations (condition c) f h g = tt
  of_declarations (statement t) f h g = tt
  of_declarations (declarations d) f h g = g d h
  of_declarations other f h g = tt

  module _ (n : ℕ) (ps : List Part) (h : (m : ℕ) → LawfulPart (get_or ps m other)) where
    lawful_grown : (l : Line) → ((k : ℤ) → l ≡ Line.Constant k → LawfulWord K (K.constant k)) → LawfulPart (grown n ps l)
    lawful_grown (Line.Global a b) w = tt
    lawful_grown (Line.Constant k) w = w k refl
    lawful_grown (Line.Simple a) w = tt
    lawful_grown (Line.Element a b) w = of_expression (get_or ps b other) _ (h b) (λ i u. u)
    lawful_grown (Line.Operation o a b) w = of_expression (get_or ps a other) _ (h a) (λ e u. of_expression (get_or ps b other) _ (h b) (λ f v. (u, v)))
    lawful_grown (Line.Comparison r a b) w = of_expression (get_or ps a other) _ (h a) (λ e u. of_expression (get_or ps b other) _ (h b) (λ f v. (u, v)))
    lawful_grown (Line.Choice a b c) w =
        of_condition (get_or ps a other) _ (h a) (λ t q. of_expression (get_or ps b other) _ (h b) (λ e u. of_expression (get_or ps c other) _ (h c) (λ f v. (q, u, v))))
    lawful_grown (Line.Truth b) w = tt
    lawful_grown (Line.Negation a) w = of_condition (get_or ps a other) _ (h a) (λ t q. q)
    lawful_grown (Line.Implication a b) w = of_condition (get_or ps a other) _ (h a) (λ t q. of_condition (get_or ps b other) _ (h b) (λ u r. (q, r)))
    lawful_grown (Line.Assignment a b) w = of_place (get_or ps a other) _ (h a) (λ p q. of_expression (get_or ps b other) _ (h b) (λ e u. (q, u)))
    lawful_grown (Line.Sequence a b) w = of_statement (get_or ps a other) _ (h a) (λ s u. of_statement (get_or ps b other) _ (h b) (λ t v. (u, v)))
    lawful_grown (Line.Branch a b c) w =
        of_condition (get_or ps a other) _ (h a) (λ t q. of_statement (get_or ps b other) _ (h b) (λ s u. of_statement (get_or ps c other) _ (h c) (λ t v. (q, u, v))))
    lawful_grown (Line.Call a b c) w = of_expression (get_or ps b other) _ (h b) (λ e u. of_place (get_or ps c other) _ (h c) (λ p q. (u, q)))
    lawful_grown (Line.NewSimple a b) w = of_statement (get_or ps b other) _ (h b) (λ s u. u)
    lawful_grown (Line.NewArray a b c) w = of_statement (get_or ps c other) _ (h c) (λ s u. u)
    lawful_grown (Line.System a b) w = of_declarations (get_or ps a other) _ (h a) (λ d u. of_statement (get_or ps b other) _ (h b) (λ s v. (u, v)))
    lawful_grown (Line.Procedure a b c d) w = of_statement (get_or ps d other) _ (h d) (λ s u. u)
    lawful_grown (Line.Join a b) w = of_declarations (get_or ps a other) _ (h a) (λ d u. of_declarations (get_or ps b other) _ (h b) (λ e v. (u, v)))

  module _ (L : ℕ → Line) (N : ℕ) (w : (n : ℕ) (k : ℤ) → n ≤ N → L n ≡ Line.Constant k → LawfulWord K (K.constant k)) where
    lawful_parts : (j n : ℕ) → n < j → n ≤ N → LawfulPart (part L n)
    lawful_parts zero n q r = absurd (omega arith)
    lawful_parts (suc j) n q r =
        lawful_grown n (grow grown L n)
        (λ m. elim (cases_lt m n) [
          | inl b ↦ subst LawfulPart (sym (grow_at grown L other n m b)) (lawful_parts j m (omega arith) (omega arith))
          | inr b ↦ subst LawfulPart (sym (grow_beyond grown L other n m b)) tt
        ])
        (L n) (λ k. w n k r)

held : (K : Arithmetic) (k : ℤ) → K.least ≤ℤ k → k ≤ℤ K.most → T (holds K k)
held K k a b = search arith

pub script_lawful : (K : Arithmetic) → Laws K → (ls : List Line) (s : IsScript K.least K.most ls) → LawfulText K (statement_apart (globals_of ls).scope s.text)
script_lawful K law ls s =
    text_kept K s.text (globals_of ls).scope
    (subst (LawfulPart K) s.is
    (lawful_parts K (line ls) (length ls) (λ n k q e. let r = s.of_kind n k q e in law.constant_lawful k (held K k r.0 r.1)) (suc (length ls)) (length ls) (omega arith) (omega arith)))
