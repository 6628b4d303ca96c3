use Rattle.field.proofs.OneReport.{one_report}
use Rattle.field.proofs.laws.one_report.Goals as goal

pub returns : goal.returns
returns c = one_report
