use Rattle.rule.proofs.Resume.{resumes}
use Rattle.rule.proofs.laws.resumes.Goals as goal

pub returns : goal.returns
returns c = resumes
