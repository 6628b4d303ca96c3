-- The system that declarations belong to, one user at a time.
use Rattle.std.proofs.Common.{◌≡◌, ℕ, zero, suc, ◌+◌, ◌-◌, ◌<◌, List, [], length, Some, None, Option, sym, refl, ap, ◌∙◌, arith}
use Rattle.lines.specs.declared.records.Line.{Line}
use Rattle.script.specs.Tree.{line, nought}
use Rattle.script.specs.Around.{Naming, around, fellows, fellows_by, handed, joins, naming, opens_array, opens_body, opens_simple, opens_system, silent, user, uses_array, uses_procedure, uses_simple}
use Rattle.script.specs.Tests.{fellows_by_lines, under}
use Rattle.acceptance.specs.Scopes.{system_at, system_by, system_from}

-- a line of no other sort passes nothing on
pub no_system : (p : ℕ) (s : Option ℕ) (x : Line) → ((a b : ℕ) → x ≡ Line.System a b → ⊥) → ((a b : ℕ) → x ≡ Line.Join a b → ⊥) → system_by p (naming x) s ≡ None
no_system p s (Line.Global a b) h k = refl
no_system p s (Line.Constant z) h k = refl
no_system p s (Line.Simple a) h k = refl
no_system p s (Line.Element a b) h k = refl
no_system p s (Line.Operation o a b) h k = refl
no_system p s (Line.Comparison r a b) h k = refl
no_system p s (Line.Choice a b c) h k = refl
no_system p s (Line.Truth b) h k = refl
no_system p s (Line.Negation a) h k = refl
no_system p s (Line.Implication a b) h k = refl
no_system p s (Line.Assignment a b) h k = refl
no_system p s (Line.Sequence a b) h k = refl
no_system p s (Line.Branch a b c) h k = refl
no_system p s (Line.Call a b c) h k = refl
no_system p s (Line.NewSimple a b) h k = refl
no_system p s (Line.NewArray a b c) h k = refl
no_system p s (Line.System a b) h k = absurd (h a b refl)
no_system p s (Line.Procedure a b c d) h k = refl
no_system p s (Line.Join a b) h k = absurd (k a b refl)

module _ (ls : List Line) where
  abbrev last : ℕ
  last = length ls

  handed_any : (p : ℕ) (s : Option ℕ) → handed (λ p l s. system_by p (naming l) s) None (line ls) last p s ≡ system_by p (naming (line ls p)) s
  handed_any zero s = refl
  handed_any (suc p) s = refl

  pub system_turn : (i n p : ℕ) (l : Line) → i < last → p ≡ user (line ls) (suc last) n → l ≡ line ls p
      → system_from ls (last - i) n ≡ system_by p (naming l) (system_from ls (last - (i + 1)) p)
  system_turn i n p l q e h =
      let s : last - i ≡ suc (last - (i + 1)) = omega arith in
      ap (λ f. system_from ls f n) s
      ∙ (ap (λ u. handed (λ p l s. system_by p (naming l) s) None (line ls) last u (system_from ls (last - (i + 1)) u)) (sym e)
      ∙ (handed_any p (system_from ls (last - (i + 1)) p)
      ∙ ap (λ k. system_by p (naming k) (system_from ls (last - (i + 1)) p)) (sym h)))

  pub system_top : (i n : ℕ) → i < last → 0 ≡ user (line ls) (suc last) n → system_from ls (last - i) n ≡ None
  system_top i n q e = system_turn i n 0 nought q e refl

  -- the procedures of a system's line
  abbrev procedures_in : Option ℕ → List (ℕ × ℕ)
  procedures_in None = []
  procedures_in (Some s) = fellows_by (under (line ls)) (naming (line ls s)) []

  one_more : (u : ℕ) (g : Naming) (ys : List (ℕ × ℕ)) (s : Option ℕ) → naming (line ls u) ≡ g → ys ≡ procedures_in s
      → fellows_by (under (line ls)) g ys ≡ procedures_in (system_by u g s)
  one_more u silent ys s e h = refl
  one_more u (uses_simple a) ys s e h = refl
  one_more u (uses_array a) ys s e h = refl
  one_more u (uses_procedure a) ys s e h = refl
  one_more u (opens_simple a) ys s e h = refl
  one_more u (opens_array a) ys s e h = refl
  one_more u (opens_system d) ys s e h = ap (λ g. fellows_by (under (line ls)) g []) (sym e)
  one_more u (opens_body q x y) ys s e h = refl
  one_more u (joins a b) ys s e h = h

  fellows_of : (f n : ℕ) → around (fellows (under (line ls))) [] (line ls) last f n ≡ procedures_in (system_from ls f n)
  fellows_of zero n = refl
  fellows_of (suc f) n = go (user (line ls) (suc last) n) (fellows_of f (user (line ls) (suc last) n))
    where
      go : (u : ℕ) → around (fellows (under (line ls))) [] (line ls) last f u ≡ procedures_in (system_from ls f u)
          → handed (fellows (under (line ls))) [] (line ls) last u (around (fellows (under (line ls))) [] (line ls) last f u)
          ≡ procedures_in (handed (λ p l s. system_by p (naming l) s) None (line ls) last u (system_from ls f u))
      go zero h = refl
      go (suc u) h = one_more (suc u) (naming (line ls (suc u))) (around (fellows (under (line ls))) [] (line ls) last f (suc u)) (system_from ls f (suc u)) refl h

  -- the fellows of a procedure are the procedures of its system
  fellows_are : (n : ℕ) → fellows_by_lines (line ls) last n ≡ procedures_in (system_at ls n)
  fellows_are n = fellows_of last n

  -- what the fellows are where the procedure is in a system or in none
  pub fellows_in : (n s : ℕ) (l : Line) → Some s ≡ system_at ls n → l ≡ line ls s → fellows_by_lines (line ls) last n ≡ fellows_by (under (line ls)) (naming l) []
  fellows_in n s l e h = fellows_are n ∙ (ap procedures_in (sym e) ∙ ap (λ k. fellows_by (under (line ls)) (naming k) []) (sym h))

  pub fellows_none : (n : ℕ) → None ≡ system_at ls n → fellows_by_lines (line ls) last n ≡ []
  fellows_none n e = fellows_are n ∙ ap procedures_in (sym e)

-- a line that is no system has no procedures
pub none_there : (Q : ℕ → List (ℕ × ℕ)) (x : Line) → ((a b : ℕ) → x ≡ Line.System a b → ⊥) → fellows_by Q (naming x) [] ≡ []
none_there Q (Line.Global a b) h = refl
none_there Q (Line.Constant z) h = refl
none_there Q (Line.Simple a) h = refl
none_there Q (Line.Element a b) h = refl
none_there Q (Line.Operation o a b) h = refl
none_there Q (Line.Comparison r a b) h = refl
none_there Q (Line.Choice a b c) h = refl
none_there Q (Line.Truth b) h = refl
none_there Q (Line.Negation a) h = refl
none_there Q (Line.Implication a b) h = refl
none_there Q (Line.Assignment a b) h = refl
none_there Q (Line.Sequence a b) h = refl
none_there Q (Line.Branch a b c) h = refl
none_there Q (Line.Call a b c) h = refl
none_there Q (Line.NewSimple a b) h = refl
none_there Q (Line.NewArray a b c) h = refl
none_there Q (Line.System a b) h = absurd (h a b refl)
none_there Q (Line.Procedure a b c d) h = refl
none_there Q (Line.Join a b) h = refl
