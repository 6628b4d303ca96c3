use Rattle.std.proofs.Common.{not, T, ℤ, sym, subst, w32}
use lib.Ieee.{binary32, of_int, is_nan}
use Rattle.std.proofs.lemmas.Int.{to_z-of_z}
use Rattle.kinds.specs.Singles.{constant_finite, finite_number}
use Rattle.kinds.proofs.single.exact_word.Goals as goal

pub float_to_bits-result : goal.float_to_bits-result
float_to_bits-result c =
    subst (λ (z : ℤ). T (not (is_nan (of_int binary32 z)))) (sym (to_z-of_z w32 c.args.n c.ranges.n))
    (finite_number (of_int binary32 c.args.n) (constant_finite c.args.n c.requires))
