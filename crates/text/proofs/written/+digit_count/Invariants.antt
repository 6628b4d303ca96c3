use Rattle.text.proofs.written.+digit_count.Given as goal

abbrev pub decreases-digit-count : goal.decreases-digit_count
decreases-digit-count l = l.n
