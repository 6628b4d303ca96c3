-- Whole keeps the laws of a kind.
use Rattle.std.proofs.Common.{rules}
use Rattle.kinds.specs.Arithmetic.{Laws}
use Rattle.kinds.specs.Whole.{whole}

pub laws : Laws whole
laws = search rules
