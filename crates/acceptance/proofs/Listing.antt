-- The globals that a sheet begins with, record by record.
use Rattle.std.proofs.Common.{◌≡◌, ℕ, ◌+◌, ◌<◌, ◌≤◌, List, [], ◌∷◌, ◌++◌, length, get_or, drop, None, sym, ap, ◌∙◌, inl, inr, add-one}
use Rattle.std.proofs.lemmas.List.{at_drop_all, at_drop_more, append_assoc, append-nil}
use Rattle.lines.specs.declared.records.Line.{Line}
use Rattle.lines.specs.declared.records.Record.{Record}
use Rattle.script.specs.Apart.{as_global, head_then, heads}
use Rattle.script.proofs.Globals.{global_or}
use Rattle.acceptance.specs.declared.declared.Sought.{Sought}
use Rattle.acceptance.specs.Sheet.{lines_of}
use Rattle.acceptance.specs.Scopes.{Entry, cells_of, global_entries, global_entry}

-- a record to look up by default
abbrev pub blank : Record
blank = record { line = Line.Global 0 0; declaration = None }

module _ (rs : List Record) (i : ℕ) (d : Record) (q : i < length rs) where
  heads_there : heads (lines_of (drop i rs)) ≡ head_then (as_global (get_or rs i d).line) (heads (lines_of (drop (i + 1) rs)))
  heads_there = at_drop_more (λ us. heads (lines_of us)) rs i d q

  pub heads_more : (a b : ℕ) → (get_or rs i d).line ≡ Line.Global a b → heads (lines_of (drop i rs)) ≡ (a, b) ∷ heads (lines_of (drop (i + 1) rs))
  heads_more a b e = heads_there ∙ ap (λ l. head_then (as_global l) (heads (lines_of (drop (i + 1) rs)))) e

  pub heads_stop : ((a b : ℕ) → (get_or rs i d).line ≡ Line.Global a b → ⊥) → heads (lines_of (drop i rs)) ≡ []
  heads_stop h = heads_there ∙ elim (global_or (get_or rs i d).line) [
    | inl w ↦ ap (λ o. head_then o (heads (lines_of (drop (i + 1) rs)))) w.0
    | inr w ↦ absurd (h w.0 w.1 w.2)
  ]

  module _ (k : Sought) (c : ℕ) (before all : List Entry) (inv : (before ++ global_entries k (i + 1) c (heads (lines_of (drop i rs)))) ≡ all) where
    -- one global further
    pub listing_turn : (a b : ℕ) → (get_or rs i d).line ≡ Line.Global a b → (now : List Entry) → now ≡ (before ++ global_entry k (i + 1) c a b)
        → (now ++ global_entries k ((i + 1) + 1) (c + cells_of b) (heads (lines_of (drop (i + 1) rs)))) ≡ all
    listing_turn a b e now h =
        let rest = global_entries k ((i + 1) + 1) (c + cells_of b) (heads (lines_of (drop (i + 1) rs))) in
        ap (λ xs. xs ++ rest) h
        ∙ (append_assoc before (global_entry k (i + 1) c a b) rest
        ∙ (ap (λ n. before ++ (global_entry k (i + 1) c a b ++ global_entries k n (c + cells_of b) (heads (lines_of (drop (i + 1) rs))))) (add-one (i + 1))
        ∙ (ap (λ gs. before ++ global_entries k (i + 1) c gs) (sym (heads_more a b e)) ∙ inv)))

    pub listing_stop : ((a b : ℕ) → (get_or rs i d).line ≡ Line.Global a b → ⊥) → before ≡ all
    listing_stop h = sym (append-nil before) ∙ (ap (λ gs. before ++ global_entries k (i + 1) c gs) (sym (heads_stop h)) ∙ inv)

-- all records were globals
pub listing_end : (rs : List Record) (i : ℕ) → length rs ≤ i → (k : Sought) (c : ℕ) (before all : List Entry)
    → (before ++ global_entries k (i + 1) c (heads (lines_of (drop i rs)))) ≡ all → before ≡ all
listing_end rs i q k c before all inv = sym (append-nil before) ∙ (ap (λ gs. before ++ global_entries k (i + 1) c gs) (sym (at_drop_all (λ us. heads (lines_of us)) rs i q)) ∙ inv)
