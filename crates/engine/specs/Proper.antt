-- Environments whose names are in order: what each name is at a place of the text, as the declarations around it say.
use Rattle.script.specs.Names.{Names}
use Rattle.script.specs.Script.{only}
use Rattle.rule.specs.Fine.{Kinds, a_simple, an_array, with_procedures, start_kind, FineDeclarations}
use Rattle.rule.specs.Machine.{Env, outside, simple_in, array_in, system_in}

-- G is for the globals
abbrev pub kinds_at : Names → Env → Kinds
kinds_at G outside = λ x. start_kind (G x)
kinds_at G (simple_in x c ρ) = only x a_simple (kinds_at G ρ)
kinds_at G (array_in a b n ρ) = only a an_array (kinds_at G ρ)
kinds_at G (system_in d ρ) = with_procedures d (kinds_at G ρ)

-- the names in the bodies of the procedures around are in order too
abbrev pub Proper : Names → Env → Type 0
Proper G outside = Unit {0}
Proper G (simple_in x c ρ) = Proper G ρ
Proper G (array_in a b n ρ) = Proper G ρ
Proper G (system_in d ρ) = FineDeclarations (with_procedures d (kinds_at G ρ)) d × Proper G ρ
