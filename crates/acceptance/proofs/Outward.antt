-- The innermost declaration of a name around a line, one user at a time.
use Rattle.std.proofs.Common.{◌≡◌, ℕ, zero, suc, ◌+◌, ◌-◌, ◌<◌, ◌≤◌, List, [], ◌∷◌, length, Option, sym, refl, ap, ◌∙◌, arith}
use Rattle.std.specs.Option.{option_or}
use Rattle.lines.specs.declared.records.Line.{Line}
use Rattle.lines.specs.declared.records.Declaration.{Declaration}
use Rattle.script.specs.Tree.{line}
use Rattle.script.specs.Around.{handed, naming, user}
use Rattle.script.specs.Tests.{under}
use Rattle.acceptance.specs.declared.declared.Sought.{Sought}
use Rattle.acceptance.specs.declared.declared.Sought.TheVariants.{Procedure}
use Rattle.acceptance.specs.Scopes.{declared_from, entries, global_declared, global_entries, last_declared}

-- procedures are no globals
pub no_procedures : (n c : ℕ) (gs : List (ℕ × ℕ)) → global_entries Procedure n c gs ≡ []
no_procedures n c [] = refl
no_procedures n c (g ∷ gs) = no_procedures (suc n) _ gs

module _ (k : Sought) (a : ℕ) (ls : List Line) where
  abbrev last : ℕ
  last = length ls

  abbrev pub here : ℕ → Option Declaration
  here p = last_declared (entries k (under (line ls)) p (naming (line ls p))) a

  abbrev hand : ℕ → Option Declaration → Option Declaration
  hand p o = handed (λ p l o. option_or (last_declared (entries k (under (line ls)) p (naming l)) a) o) (global_declared k a ls) (line ls) last p o

  hand_some : (p : ℕ) (o : Option Declaration) → 0 < p → hand p o ≡ option_or (here p) o
  hand_some zero o h = absurd (omega (arith, h))
  hand_some (suc p) o h = refl

  stepped : (i n p : ℕ) → i < last → p ≡ user (line ls) (suc last) n → declared_from k a ls (last - i) n ≡ hand p (declared_from k a ls (last - (i + 1)) p)
  stepped i n p q e =
      let s : last - i ≡ suc (last - (i + 1)) = omega arith in
      ap (λ f. declared_from k a ls f n) s ∙ ap (λ u. hand u (declared_from k a ls (last - (i + 1)) u)) (sym e)

  pub outward_turn : (i n p : ℕ) → i < last → p ≡ user (line ls) (suc last) n → 0 < p
      → declared_from k a ls (last - i) n ≡ option_or (here p) (declared_from k a ls (last - (i + 1)) p)
  outward_turn i n p q e h = stepped i n p q e ∙ hand_some p (declared_from k a ls (last - (i + 1)) p) h

  pub outward_top : (i n : ℕ) → i < last → 0 ≡ user (line ls) (suc last) n → declared_from k a ls (last - i) n ≡ global_declared k a ls
  outward_top i n q e = stepped i n 0 q e

  pub outward_out : (i n : ℕ) → last ≤ i → declared_from k a ls (last - i) n ≡ global_declared k a ls
  outward_out i n q = let s : last - i ≡ 0 = omega arith in ap (λ f. declared_from k a ls f n) s
