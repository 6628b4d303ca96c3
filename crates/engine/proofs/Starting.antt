-- An accepted script's records: its constants are the kind's, and its text is where a run starts.
use Rattle.std.proofs.Common.{◌≡◌, ℕ, zero, suc, ◌<◌, ◌≤◌, Bool, true, false, ◌&&◌, T, List, [], ◌∷◌, length, set, ℤ, int_le, Some, sym, refl, ◌∙◌, subst, arith}
use Rattle.std.specs.List.{slice_get}
use Rattle.kinds.specs.Arithmetic.{Arithmetic}
use Rattle.lines.specs.declared.records.Line.{Line}
use Rattle.lines.specs.declared.records.Record.{Record}
use Rattle.script.specs.Tree.{line}
use Rattle.standing.specs.Records.{line_in}
use Rattle.standing.specs.Standing.{Says}
use Rattle.acceptance.specs.Sheet.{lines_of}
use Rattle.acceptance.specs.Scripts.{Accepted}
use Rattle.acceptance.proofs.Stands.{accepted_stands}
use Rattle.engine.specs.Working.{OfKind}
use Rattle.engine.specs.declared.frame.Binding.TheVariants.{Script}
use Rattle.engine.specs.declared.frame.Frame.{Frame}
use Rattle.engine.specs.Levels.{Waiting}
use Rattle.engine.specs.Running.{globals_in}
use lib.ListN.{length-map}
use Rattle.script.specs.Apart.{globals_of, past_globals, statement_apart}
use Rattle.script.specs.Scoped.{declaring_lines}
use Rattle.script.proofs.Declared.{lines_once, lines_within}
use Rattle.script.proofs.Lists.{each_map}
use Rattle.standing.specs.Standing.{StandsStatement}
use Rattle.rule.specs.Closing.{first_items, program_of}
use Rattle.rule.specs.Machine.{outside}
use Rattle.rule.proofs.InOrder.{fine_by_globals}
use Rattle.engine.proofs.Pushing.{get_same, link_in, waits}
use Rattle.engine.proofs.Valuing.{inner, never}

-- what a record says is the line of its number
said_there : (rs : List Record) (n : ℕ) (l : Line) → line_in (slice_get rs n) ≡ Some l → (n < length (lines_of rs)) × (line (lines_of rs) (suc n) ≡ l)
said_there [] n l e = absurd (never l (sym e))
said_there (r ∷ rs) zero l e = (omega arith, inner r.line l e)
said_there (r ∷ rs) (suc n) l e = let t = said_there rs n l e in (omega (arith, t.0), t.1)

pub said_line : (rs : List Record) (j : ℕ) (l : Line) → Says rs j l → (j ≤ length (lines_of rs)) × (line (lines_of rs) j ≡ l)
said_line rs zero l e = absurd (never l (sym e))
said_line rs (suc n) l e = let t = said_there rs n l e in (omega (arith, t.0), t.1)

both : (a b : Bool) → T a → T b → T (a && b)
both true b x y = y
both false b x y = absurd x

pub accepted_of_kind : (K : Arithmetic) (rs : List Record) → Accepted K.least K.most rs → OfKind K rs
accepted_of_kind K rs a j z s =
    let t = said_line rs j (Line.Constant z) s in
    let k = (a.script).of_kind j z t.0 t.1 in
    both (int_le K.least z) (int_le z K.most) (k.0).le (k.1).le

-- the frame of the whole script
abbrev pub first_frame : ℕ → ℕ → Frame
first_frame u l = record { line = 0; binding = Script; outer = 0; used = u; rest = Some l }

pub starts : (low high : ℤ) (rs : List Record) (a : Accepted low high rs) (fs : List Frame) (u l : ℕ) → 0 < length fs → length rs ≡ l → (globals_of (lines_of rs)).taken ≡ u
    → Waiting (globals_in rs) rs (set fs 0 (first_frame u l)) 1 (first_items (program_of (lines_of rs) (a.script).text))
starts low high rs a fs u l h e q =
    let ls = lines_of rs in
    let G = globals_in rs in
    let s = a.script in
    let fs' = set fs 0 (first_frame u l) in
    let t = get_same fs 0 (first_frame u l) h in
    let n : length ls ≡ l = length-map rs (λ r. r.line) ∙ e in
    waits G rs fs' 0 l (first_frame u l) _ [] t refl
    (record {
      level = refl;
      used = q;
      text = subst (StandsStatement G rs (statement_apart (globals_of ls).scope s.text)) n (accepted_stands low high rs a);
      env = link_in G rs fs' 0 0 (first_frame u l) outside t (refl, refl);
      fine = fine_by_globals ls s.text s.scoped (lines_once low high ls s)
          (each_map (λ x. (past_globals ls ≤ x) × (x < suc (length ls))) (λ x. past_globals ls ≤ x) (λ x w. w.0) (declaring_lines s.text) (lines_within low high ls s (suc (length ls)) (omega arith)));
      proper = tt;
    })
    refl
