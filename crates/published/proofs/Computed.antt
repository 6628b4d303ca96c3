-- The cases, computed.
use Rattle.std.proofs.Common.{◌≡◌, ℕ, zero, suc, ◌<◌, ◌≤◌, List, [], ◌∷◌, ◌++◌, map, length, get_or, take, drop, pos, ℤ, None, Option, refl, sym, ap, ◌∙◌, subst, arith}
use Rattle.std.specs.List.{range_with_len}
use Rattle.std.proofs.lemmas.List.{take-append-drop}
use Rattle.std.proofs.lemmas.List.FromFn.{get_or-map-range_with_len}
use Rattle.lines.specs.declared.records.Line.{Line}
use Rattle.lines.specs.declared.records.Declaration.{Declaration}
use Rattle.kinds.specs.Whole.{whole}
use Rattle.kinds.specs.Single.{single}
use Rattle.sheet.specs.Reading.{from_line}
use Rattle.script.specs.Script.{Statement, assign, simple, constant}
use Rattle.script.specs.Tree.{Part, place, expression, condition, statement, declarations, other, part, line}
use Rattle.script.specs.IsScript.{IsScript}
use Rattle.script.proofs.Verdict.{accepted_exactly}
use Rattle.standing.specs.Records.{declaration_in, record_at}
use Rattle.acceptance.specs.Scopes.{declaration_at}
use Rattle.acceptance.specs.Scripts.{Accepted}
use Rattle.acceptance.proofs.Belonging.{belonging}
use Rattle.acceptance.proofs.Reading.{accepted}
use Rattle.rule.specs.Rewriting.{Ending}
use Rattle.rule.specs.Closing.{Closing, Closes, program_of}
use Rattle.rule.proofs.Count.{closing, closes_by}
use Rattle.published.specs.Double.{double, double_records}
use Rattle.published.specs.Runs.{Run, with_zeros}
use Rattle.published.specs.Cases.{Published}
use Rattle.published.specs.Quotients.{QuotientsTold}
use Rattle.published.specs.Scopes.{ToldApart, through_formal, own_locals, static_scope, fixed_index, alias, shadowed_procedure}

-- the statement that a part is
abbrev pub the_statement : Part → Statement
the_statement (statement s) = s
the_statement (place p) = assign 0 (simple 0) (constant (pos 0))
the_statement (expression e) = assign 0 (simple 0) (constant (pos 0))
the_statement (condition c) = assign 0 (simple 0) (constant (pos 0))
the_statement (declarations d) = assign 0 (simple 0) (constant (pos 0))
the_statement other = assign 0 (simple 0) (constant (pos 0))

abbrev pub text : List Line → Statement
text ls = the_statement (part (line ls) (length ls))

-- a closing, with the first k words of its store alone
abbrev shown : ℕ → Closing → Closing
shown k c = record { ending = c.ending; count = c.count; store = take k c.store }

-- a closing that rewriting computes
closes : (ls : List Line) (size : ℕ) (first : List ℕ) (n : ℕ) (e : Ending) (count : ℕ) (last : List ℕ)
    → shown (length last) (closing whole (program_of ls (text ls)) size (with_zeros size first) n) ≡ record { ending = e; count = count; store = last }
    → Run ls size first n e count last
closes ls size first n e count last h s =
    let σ = with_zeros size first in
    let P = program_of ls (text ls) in
    let c = closing whole P size σ n in
    let others = drop (length last) c.store in
    let whole_store : c ≡ record { ending = e; count = count; store = last ++ others } =
    λ j. record { ending = (h j).ending; count = (h j).count; store = (sym (take-append-drop (length last) c.store) ∙ ap (λ (w : List ℕ). w ++ others) (ap (λ (x : Closing). x.store) h)) j } in
    (others, subst (λ t. Closes whole (program_of ls t) size σ n (record { ending = e; count = count; store = last ++ others })) (ap the_statement s.is) (closes_by whole P size σ n _ whole_store))

-- what the record of line n of the double sheet tells, and what it has to tell
abbrev told : ℕ → Option Declaration
told n = declaration_in (record_at double_records n)

abbrev due : ℕ → Option Declaration
due n = declaration_at double n

-- they are the same, computed for the 25 lines together, and so for each
all_told : map told (range_with_len 1 25) ≡ map due (range_with_len 1 25)
all_told = refl

each_told : (n : ℕ) → 0 < n → n ≤ 25 → told n ≡ due n
each_told zero p q = absurd (omega arith)
each_told (suc i) p q =
    sym (get_or-map-range_with_len told 1 25 i (suc i) None (omega arith) (omega arith))
    ∙ (ap (λ os. get_or os i None) all_told ∙ get_or-map-range_with_len due 1 25 i (suc i) None (omega arith) (omega arith))

accepted_double : (low high : ℤ) → IsScript low high double → Accepted low high double_records
accepted_double low high s = accepted low high double double_records (omega arith) s (belonging low high double s double_records refl each_told)

script_for_whole : IsScript whole.least whole.most double
script_for_whole = (accepted_exactly whole.least whole.most double).0.0 refl

script_for_single : IsScript single.least single.most double
script_for_single = (accepted_exactly single.least single.most double).0.0 refl

pub published : Published
unfolding from_line
published = record {
  read = refl;
  for_whole = script_for_whole;
  for_single = script_for_single;
  accepted_for_whole = accepted_double whole.least whole.most script_for_whole;
  accepted_for_single = accepted_double single.least single.most script_for_single;
  nought = closes double 1024 (0 ∷ 9 ∷ []) 1000000 _ _ (0 ∷ 0 ∷ []) refl;
  three = closes double 1024 (3 ∷ 9 ∷ []) 1000000 _ _ (3 ∷ 6 ∷ []) refl;
  one_stopped = closes double 1024 (1 ∷ 9 ∷ []) 7 _ _ (1 ∷ 0 ∷ []) refl;
  one_finished = closes double 1024 (1 ∷ 9 ∷ []) 8 _ _ (1 ∷ 2 ∷ []) refl;
  deepest = closes double 1024 (255 ∷ 9 ∷ []) 1000000 _ _ (255 ∷ 510 ∷ []) refl;
  too_deep = closes double 1024 (256 ∷ 9 ∷ []) 1000000 _ _ (256 ∷ 9 ∷ []) refl;
  too_large = closes double 257 (255 ∷ 9 ∷ []) 1000000 _ _ (255 ∷ 9 ∷ []) refl;
  past_most = refl;
  away_from_zero = refl;
  past_least = refl;
  largest = refl;
  infinite = refl;
}

pub told_apart : ToldApart
told_apart = record {
  case_through_formal = record { is_script = (accepted_exactly whole.least whole.most through_formal).0.0 refl; closes = closes through_formal 64 (9 ∷ []) 1000 _ _ (42 ∷ []) refl };
  case_own_locals = record { is_script = (accepted_exactly whole.least whole.most own_locals).0.0 refl; closes = closes own_locals 64 (9 ∷ 0 ∷ []) 1000 _ _ (9 ∷ 6 ∷ []) refl };
  case_static_scope = record { is_script = (accepted_exactly whole.least whole.most static_scope).0.0 refl; closes = closes static_scope 64 (7 ∷ 0 ∷ []) 1000 _ _ (7 ∷ 7 ∷ []) refl };
  case_fixed_index = record { is_script = (accepted_exactly whole.least whole.most fixed_index).0.0 refl; closes = closes fixed_index 64 (0 ∷ 1 ∷ 1 ∷ 1 ∷ []) 1000 _ _ (2 ∷ 5 ∷ 1 ∷ 1 ∷ []) refl };
  case_alias = record { is_script = (accepted_exactly whole.least whole.most alias).0.0 refl; closes = closes alias 64 (4 ∷ []) 1000 _ _ (13 ∷ []) refl };
  case_shadowed_procedure = record { is_script = (accepted_exactly whole.least whole.most shadowed_procedure).0.0 refl; closes = closes shadowed_procedure 64 (0 ∷ []) 1000 _ _ (21 ∷ []) refl };
}

pub quotients_told : QuotientsTold
quotients_told = record {
  third = refl;
  two_thirds = refl;
  seven_thirds = refl;
  half = refl;
  minus_half = refl;
  half_by_minus = refl;
  half_of_both = refl;
  by_zero = refl;
  zero_by_zero = refl;
}
