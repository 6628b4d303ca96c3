-- The globals of a script looked at in line order, cell by cell.
use Rattle.std.proofs.Common.{◌≡◌, ℕ, zero, suc, ◌+◌, ◌*◌, ◌<◌, ◌≤◌, true, false, List, [], length, get_or, drop, slice_index, sym, ap, ◌∙◌, subst, inl, inr, arith}
use Rattle.std.proofs.lemmas.Bool.{both_ways, cases_eq, cases_lt}
use Rattle.kinds.specs.Arithmetic.{Arithmetic}
use Rattle.lines.specs.declared.records.Line.{Line}
use Rattle.lines.specs.declared.records.Record.{Record}
use Rattle.script.specs.Names.{Names, nothing}
use Rattle.script.specs.Apart.{globals_of, heads, no_globals, own}
use Rattle.acceptance.specs.Sheet.{lines_of}
use Rattle.acceptance.specs.Scopes.{cells_of}
use Rattle.acceptance.proofs.Cells.{Counted, TellGlobals, cells_in, counted_first, counted_turn, stretch, tell_first, tell_here, tell_more}
use Rattle.acceptance.proofs.Listing.{heads_more, heads_stop}
use Rattle.acceptance.proofs.Roles.{names_none, no_name}
use Rattle.calls.specs.Globals.{Has, Unlawful}

-- the cells from a first one on, below another, hold lawful words
abbrev pub Lawful : Arithmetic → List ℕ → ℕ → ℕ → Type 0
Lawful K words first past = (c : ℕ) → first ≤ c → c < past → K.lawful (slice_index words c) ≡ true

has_within : (first b c : ℕ) → Has (stretch first b) c → (first ≤ c) × (c < first + cells_of b)
has_within first zero c h = (omega (arith, h), omega (arith, h))
has_within first (suc k) c h = h

within_has : (first b c : ℕ) → first ≤ c → c < first + cells_of b → Has (stretch first b) c
within_has first zero c h k = omega (arith, h, k)
within_has first (suc k) c h q = (h, q)

module _ (K : Arithmetic) (rs : List Record) (words : List ℕ) where
  abbrev G : Names
  G = (globals_of (lines_of rs)).names

  abbrev rest : ℕ → List (ℕ × ℕ)
  rest i = heads (lines_of (drop i rs))

  -- the globals of the first i lines have been looked at, with the cells below the first
  pub record Passed (i first : ℕ) : Type 0 where
    pub small : first ≤ 65535 * i
    pub counted : Counted rs i first
    pub tell : TellGlobals rs i first
    pub behind : i + length (rest i) ≡ length (rest 0)
    pub lawful : (m : ℕ) → m ≤ i → ¬ (Unlawful K (lines_of rs) words m)

  none_there : (m : ℕ) → G (own m) ≡ nothing → ¬ (Unlawful K (lines_of rs) words m)
  none_there m e u = subst (λ s. Has s u.0) e u.1

  pub passed_first : Passed 0 0
  passed_first = record {
    small = omega arith;
    counted = counted_first rs;
    tell = tell_first rs;
    behind = omega arith;
    lawful = λ m q. none_there m (let z : m ≡ 0 = omega (arith, q) in ap (λ n. G (own n)) z ∙ no_name (lines_of rs));
  }

  -- behind all globals
  pub passed_all : (i first : ℕ) → Passed i first → rest i ≡ [] → (n : ℕ) → ¬ (Unlawful K (lines_of rs) words n)
  passed_all i first p e n =
      elim (cases_lt n (i + 1)) [
        | inl w ↦ p.lawful n (omega (arith, w))
        | inr w ↦ none_there n (names_none 1 (rest 0) no_globals (own n)
            (λ m q r s. let long : length (rest i) ≡ 0 = ap length e in omega (arith, p.behind, long, w, q, r, s)))
      ]

  module _ (i first : ℕ) (p : Passed i first) (d : Record) (q : i < length rs) where
    pub nothing_more : ((a b : ℕ) → (get_or rs i d).line ≡ Line.Global a b → ⊥) → rest i ≡ []
    nothing_more h = heads_stop rs i d q h

    module _ (a b : ℕ) (e : (get_or rs i d).line ≡ Line.Global a b) where
      stands : G (own (i + 1)) ≡ stretch first b
      stands = tell_here rs i first d q a b e p.tell

      -- its cells are there
      pub room : first + cells_of b ≤ (globals_of (lines_of rs)).taken
      room =
          let next : (first + cells_of b) + cells_in (rest (i + 1)) ≡ (globals_of (lines_of rs)).taken = counted_turn rs i first p.counted d q a b e in
          omega (arith, next)

      pub unlawful_here : (c : ℕ) → first ≤ c → c < first + cells_of b → K.lawful (slice_index words c) ≡ false → Unlawful K (lines_of rs) words (i + 1)
      unlawful_here c h k f = (c, subst (λ s. Has s c) (sym stands) (within_has first b c h k), f)

      pub passed_more : cells_of b ≤ 65535 → Lawful K words first (first + cells_of b) → Passed (i + 1) (first + cells_of b)
      passed_more few h = record {
        small = let s : first ≤ 65535 * i = p.small in omega (arith, few, s);
        counted = counted_turn rs i first p.counted d q a b e;
        tell = tell_more rs i first d q a b e p.tell;
        behind =
            let more : length (rest i) ≡ suc (length (rest (i + 1))) = ap length (heads_more rs i d q a b e) in
            let was : i + length (rest i) ≡ length (rest 0) = p.behind in
            omega (arith, more, was);
        lawful = λ m r. elim (cases_eq m (i + 1)) [
          | inl w ↦ λ u.
              let v : Unlawful K (lines_of rs) words (i + 1) = subst (Unlawful K (lines_of rs) words) w u in
              let in_it : (first ≤ v.0) × (v.0 < first + cells_of b) = has_within first b v.0 (subst (λ s. Has s v.0) stands v.1) in
              both_ways (K.lawful (slice_index words v.0)) (v.2) (h v.0 in_it.0 in_it.1)
          | inr w ↦ p.lawful m (omega (arith, r, w))
        ];
      }
