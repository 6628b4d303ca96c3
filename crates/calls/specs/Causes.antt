-- Why a call of a session is refused: the number and the meaning of each cause.
use Rattle.std.specs.Prelude.{ℕ, List, codes}
use Rattle.calls.specs.declared.causes.SessionCause.{SessionCause}
use Rattle.calls.specs.declared.causes.SessionCause.TheVariants.{StoreTooSmall, UnlawfulGlobal, NotAtRest, NoSuchGlobal, UnlawfulWord, NoSuchRun, WrongGrant, RunIsOver, NoRunLeft, StoreFails}

abbrev pub number_of : SessionCause → ℕ
number_of StoreTooSmall = 11
number_of UnlawfulGlobal = 12
number_of NotAtRest = 13
number_of NoSuchGlobal = 14
number_of UnlawfulWord = 15
number_of NoSuchRun = 16
number_of WrongGrant = 17
number_of RunIsOver = 18
number_of NoRunLeft = 19
number_of StoreFails = 26

abbrev pub meaning_of : SessionCause → List ℕ
meaning_of StoreTooSmall = codes "the store is smaller than the globals"
meaning_of UnlawfulGlobal = codes "a global's word is unlawful for the number kind"
meaning_of NotAtRest = codes "no session is at rest here"
meaning_of NoSuchGlobal = codes "there is no such global, or no such index"
meaning_of UnlawfulWord = codes "the word is unlawful for the number kind"
meaning_of NoSuchRun = codes "the ticket is of no open run"
meaning_of WrongGrant = codes "the grant is of nothing, or of too much"
meaning_of RunIsOver = codes "the run is over"
meaning_of NoRunLeft = codes "no run is left to begin"
meaning_of StoreFails = codes "the store refuses a place or holds an unlawful word"
