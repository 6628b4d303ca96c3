-- The store that is handed over for a run: it may lack cells or hold unlawful words, which is fault 26.
use Rattle.std.specs.Prelude.{◌≡◌, ℕ, ◌≤◌, Bool, true, false, List, length, Some, None, Option, nat_le, slice_get}
use Rattle.kinds.specs.Arithmetic.{Arithmetic, Laws}
use Rattle.lines.specs.declared.records.Line.{Line}
use Rattle.script.specs.Apart.{globals_of}
use Rattle.script.specs.IsScript.{IsScript}
use Rattle.rule.specs.Work.{Work, gives, faults}
use Rattle.rule.specs.Machine.{machine}
use Rattle.rule.specs.Closing.{own_fetch, own_room, program_of, first_items}
use Rattle.rule.specs.Resume.{advance, machine_step}
use Rattle.rule.specs.Lawful.{LawfulBelow, ReadsLawfully}

abbrev pub lawful_or_fault : Bool → ℕ → Work ℕ
lawful_or_fault true w = gives w
lawful_or_fault false w = faults 26

abbrev pub word_or_fault : Arithmetic → Option ℕ → Work ℕ
word_or_fault K None = faults 26
word_or_fault K (Some w) = lawful_or_fault (K.lawful w) w

-- the word of a cell; fault 26 where there is no such cell, and where the word is not lawful
abbrev pub handed : Arithmetic → List ℕ → ℕ → Work ℕ
handed K σ c = word_or_fault K (slice_get σ c)

-- the store takes the puts into its cells, and no others
abbrev pub handed_room : List ℕ → ℕ → Bool
handed_room σ u = nat_le u (length σ)

-- neither that store nor the rule's own gives an unlawful word of lawful ones
abbrev pub StoresReadLawfully : Type 0
StoresReadLawfully = (K : Arithmetic) → ReadsLawfully K (handed K) × ReadsLawfully K own_fetch

-- From lawful words in the globals' cells, with the cells that the size tells, a script of the kind runs over the store that is handed over
-- as over the rule's own, with every allowance: the machine comes to the same states, and halts alike.
abbrev pub HandedOver : Type 0
HandedOver = (K : Arithmetic) → Laws K → (size : ℕ) (ls : List Line) (s : IsScript K.least K.most ls) → (globals_of ls).taken ≤ size
    → (n : ℕ) (σ : List ℕ) → size ≤ length σ → LawfulBelow K (globals_of ls).taken σ
    → let G = (globals_of ls).names in let ps = first_items (program_of ls s.text) in
    (advance (machine_step K size (handed K) handed_room G) n ps σ ≡ advance (machine_step K size own_fetch own_room G) n ps σ)
    × (machine K size (handed K) handed_room G n ps σ ≡ machine K size own_fetch own_room G n ps σ)
