-- What a turn of the loop over a sheet's lines does to what is left to read.
use Rattle.std.proofs.Common.{◌≡◌, ℕ, ◌+◌, ◌<◌, ◌≤◌, true, false, Bool, cond, ◌&&◌, eqb, leb, ◌⊎◌, List, [], ◌∷◌, ◌++◌, map, length, get_or, drop, set, Some, None, Ok, Err, Option, Result, sym, refl, ap, ◌∙◌, append_assoc, add-one, inl, inr, min, arith, rules}
use Rattle.std.proofs.lemmas.List.{append-nil, length-set, length_push, length-map, map_push, drop_more, set_at, set-get_or}
use Rattle.std.specs.Option.{ok_or}
use Rattle.std.specs.Result.{IsErr, IsErrAnd}
use Rattle.text.specs.Cutting.{Absent, CutAt}
use Rattle.text.specs.Lines.{Row, closed, unclosed, in_front, rows}
use Rattle.text.proofs.Rows.{rows_cut, rows_unclosed}
use Rattle.lines.specs.declared.records.Line.{Line}
use Rattle.lines.specs.declared.records.Record.{Record}
use Rattle.lines.specs.declared.refusals.Cause.{Cause}
use Rattle.lines.specs.declared.refusals.Cause.TheVariants.{Form, Room}
use Rattle.text.specs.declared.refusals.Refusal.{Refusal}
use Rattle.lines.specs.Reading.{line_reading}
use Rattle.sheet.specs.Reading.{FirstReads, FirstRefuses, row_reading, reading, Outcome, refused, then_outcome, from_line, or_count, answer, unresolved, filled}

-- lines before those of an outcome
abbrev pub after : List Line → Outcome → Outcome
after ls o = record { lines = ls ++ o.lines; refusal = o.refusal }

abbrev pub ended : Option (Refusal Cause) → Outcome
ended r = record { lines = []; refusal = r }

pub lines_none : (room n : ℕ) → from_line room n [] ≡ ended None
unfolding from_line
lines_none room n = refl

pub lines_step : (room n : ℕ) (row : Row) (rs : List Row) → from_line room n (row ∷ rs) ≡ then_outcome n (reading room n row) (from_line room (n + 1) rs)
unfolding from_line
lines_step room n row rs = rw add-one refl

reading_full : (room n : ℕ) (row : Row) → (2048 < n) ⊎ (room < n) → reading room n row ≡ Err Room
reading_full room n row h = let t : leb n 2048 && leb n room ≡ false = grind (arith, rules) in rw t refl

reading_row : (room n : ℕ) (row : Row) → n ≤ 2048 → n ≤ room → reading room n row ≡ row_reading n row
reading_row room n row p q = let t : leb n 2048 && leb n room ≡ true = grind (arith, rules) in rw t refl

-- no line more is taken
pub lines_full : (room n : ℕ) (rs : List Row) → 0 < length rs → (2048 < n) ⊎ (room < n) → from_line room n rs ≡ refused Room n
lines_full room n [] l h = absurd (omega arith)
lines_full room n (row ∷ rs) l h = lines_step room n row rs ∙ ap (λ r. then_outcome n r (from_line room (n + 1) rs)) (reading_full room n row h)

-- the next line reads as l
pub lines_read : (room n : ℕ) (text after : List ℕ) (l : Line) → n ≤ 2048 → n ≤ room → FirstReads n text l after → from_line room n (rows text) ≡ then_outcome n (Ok l) (from_line room (n + 1) (rows after))
lines_read room n text after l p q f =
    ap (from_line room n) f.1 ∙ (lines_step room n f.0 (rows after) ∙ ap (λ r. then_outcome n r (from_line room (n + 1) (rows after))) (reading_row room n f.0 p q ∙ f.2))

-- the next line is refused
pub lines_refused : (room n : ℕ) (text : List ℕ) (c : Cause) → n ≤ 2048 → n ≤ room → FirstRefuses n text c → from_line room n (rows text) ≡ refused c n
lines_refused room n text c p q f =
    ap (from_line room n) f.2 ∙ (lines_step room n f.0 f.1 ∙ ap (λ r. then_outcome n r (from_line room (n + 1) f.1)) (reading_row room n f.0 p q ∙ f.3))

-- what is known after a `?`
pub stopped_by : {T E : Type 0} (r : Result T E) (x : E) → IsErr r → IsErrAnd r (λ e. e ≡ x) → r ≡ Err x
stopped_by (Ok y) x h k = let z : ◌≡◌ {A = ℕ} 0 1 = cc in absurd (omega arith)
stopped_by (Err y) x h k = ap Err k

pub ok_or_said : {T E : Type 0} (o : Option T) (x y : E) → ◌≡◌ {A = Result T E} (Err x) (ok_or o y) → x ≡ y
ok_or_said None x y e = cc
ok_or_said (Some t) x y e = let z : ◌≡◌ {A = ℕ} 0 1 = cc in absurd (omega arith)

-- the first line of a text that is cut, and of one that is not
pub first_reads : (n : ℕ) (text front after : List ℕ) (l : Line) → CutAt 10 text front after → Ok l ≡ line_reading n front → FirstReads n text l after
first_reads n text front after l c e = (closed front, rows_cut text front after c, sym e)

pub first_refused : (n : ℕ) (text front after : List ℕ) (x : Cause) → CutAt 10 text front after → Err x ≡ line_reading n front → FirstRefuses n text x
first_refused n text front after x c e = (closed front, rows after, rows_cut text front after c, sym e)

pub first_unclosed : (n : ℕ) (text : List ℕ) (x : Cause) → 0 < length text → Absent 10 text → x ≡ Form → FirstRefuses n text x
first_unclosed n text x l h e = (unclosed text, [], rows_unclosed text l h, ap Err (sym e))

-- a text of some bytes has some line
in_front_some : (b : ℕ) (rs : List Row) → 0 < length (in_front b rs)
in_front_some b [] = omega arith
in_front_some b (closed l ∷ rs) = omega arith
in_front_some b (unclosed l ∷ rs) = omega arith

pub rows_some : (xs : List ℕ) → 0 < length xs → 0 < length (rows xs)
rows_some [] l = l
rows_some (x ∷ xs) l = elim (eqb x 10) as (λ b. 0 < length (cond b (closed [] ∷ rows xs) (in_front x (rows xs)))) [ true ↦ omega arith | false ↦ in_front_some x (rows xs) ]

pub rows_none : (room n : ℕ) (text : List ℕ) → length text ≡ 0 → from_line room n (rows text) ≡ ended None
rows_none room n [] l = lines_none room n
rows_none room n (x ∷ xs) l = absurd (omega arith)

-- what is known after `count` lines: they are `ls`, and their records are filled
pub record ReadSoFar (room count : ℕ) (text rest : List ℕ) (records old : List Record) (ls : List Line) : Type 0 where
  pub counted : length ls ≡ count
  pub within : count ≤ 2048
  pub held : length records ≡ room
  pub full : count ≤ room
  pub whole : from_line room 1 (rows text) ≡ after ls (from_line room (count + 1) (rows rest))
  pub memory : records ≡ filled ls old

pub started : (text : List ℕ) (old : List Record) → ReadSoFar (length old) 0 text text old old []
started text old = record { counted = refl; within = omega arith; held = refl; full = omega arith; whole = refl; memory = refl }

-- the reading ends here
pub stopped : (room count : ℕ) (text rest : List ℕ) (records old : List Record) (ls : List Line) (r : Option (Refusal Cause)) → ReadSoFar room count text rest records old ls → from_line room (count + 1) (rows rest) ≡ ended r → (or_count count r ≡ answer (from_line room 1 (rows text))) × (records ≡ filled (from_line room 1 (rows text)).lines old)
stopped room count text rest records old ls r s e =
    let o : from_line room 1 (rows text) ≡ after ls (ended r) = s.whole ∙ ap (after ls) e in
    let n : (from_line room 1 (rows text)).lines ≡ ls = ap (λ x. x.lines) o ∙ append-nil ls in (
      sym (ap (λ x. or_count (length x) (from_line room 1 (rows text)).refusal) n ∙ (ap (λ x. or_count (length ls) x.refusal) o ∙ ap (λ k. or_count k r) s.counted)),
      s.memory ∙ ap (λ x. filled x old) (sym n),
    )

filled_more : (ls : List Line) (l : Line) (old : List Record) (count : ℕ) → length ls ≡ count → count < length old → set (filled ls old) count (unresolved l) ≡ filled (ls ++ l ∷ []) old
filled_more ls l old count e h =
    let x = unresolved l in
    let n : length (map unresolved ls) ≡ count = length-map ls unresolved ∙ e in
    let m : length (ls ++ l ∷ []) ≡ count + 1 = length_push ls l ∙ ap (λ k. k + 1) e in
    ap (λ k. set (map unresolved ls ++ drop k old) count x) e
    ∙ (ap (λ t. set (map unresolved ls ++ t) count x) (drop_more old count x h)
    ∙ (set_at (map unresolved ls) (get_or old count x) (drop (count + 1) old) x count n
    ∙ (sym (append_assoc (map unresolved ls) (x ∷ []) (drop (count + 1) old))
    ∙ (ap (λ t. t ++ drop (count + 1) old) (sym (map_push unresolved ls l)) ∙ ap (λ k. map unresolved (ls ++ l ∷ []) ++ drop k old) (sym m)))))

-- one line more
pub one_more : (room count : ℕ) (text rest back : List ℕ) (records old : List Record) (ls : List Line) (l : Line) → ReadSoFar room count text rest records old ls → count < 2048 → count < room → length old ≡ room → from_line room (count + 1) (rows rest) ≡ then_outcome (count + 1) (Ok l) (from_line room (count + 1 + 1) (rows back)) → ReadSoFar room (count + 1) text back (set records count (unresolved l)) old (ls ++ l ∷ [])
one_more room count text rest back records old ls l s p q k e = record {
  counted = length_push ls l ∙ ap (λ n. n + 1) s.counted;
  within = omega arith;
  held = length-set records count (unresolved l) ∙ s.held;
  full = omega arith;
  whole = s.whole ∙ (ap (after ls) e ∙ ap (λ xs. record { lines = xs; refusal = (from_line room (count + 1 + 1) (rows back)).refusal }) (sym (append_assoc ls (l ∷ []) (from_line room (count + 1 + 1) (rows back)).lines)));
  memory = ap (λ xs. set xs count (unresolved l)) s.memory ∙ filled_more ls l old count s.counted (omega arith);
}

-- every place that the loop goes over is taken
pub all_taken : (room places : ℕ) → places ≡ min room 2048 → (2048 < places + 1) ⊎ (room < places + 1)
all_taken room places e = by (leb room 2048) refl where
  by : (b : Bool) → leb room 2048 ≡ b → (2048 < places + 1) ⊎ (room < places + 1)
  by true h = inr (grind arith)
  by false h = inl (grind arith)

-- a place that is written with what it held
pub unwritten : (xs ys : List Record) (i : ℕ) (d : Record) → set xs i (get_or xs i d) ++ ys ≡ xs ++ ys
unwritten xs ys i d = ap (λ zs. zs ++ ys) (set-get_or xs i d)
