use Rattle.rule.proofs.Simulation.{machine_agrees}
use Rattle.rule.proofs.laws.machine_agrees.Goals as goal

pub returns : goal.returns
returns c = machine_agrees
