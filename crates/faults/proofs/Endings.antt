-- An ending is told by the copy rule's.
use Rattle.std.proofs.Common.{refl}
use Rattle.faults.specs.declared.ending.Ending.TheVariants as End
use Rattle.faults.specs.declared.fault.Fault.TheVariants.{OutOfRange, ZeroDivisor, NoElement, TooDeep, NoCells, Refused}
use Rattle.faults.specs.Endings.{EndingsTold}

pub endings_told : EndingsTold
endings_told End.Finished = refl
endings_told End.Stopped = refl
endings_told (End.Fault OutOfRange l) = refl
endings_told (End.Fault ZeroDivisor l) = refl
endings_told (End.Fault NoElement l) = refl
endings_told (End.Fault TooDeep l) = refl
endings_told (End.Fault NoCells l) = refl
endings_told (End.Fault Refused l) = refl
