use Rattle.crew.proofs.Answering.{more_reports}
use Rattle.crew.proofs.binding.bind_all.Goals as goal

-- a job more was reported
pub loop-preserved : goal.loop-preserved
loop-preserved g c = (tt, tt, more_reports _ _ _ c.loop.invariant.2 c.report.ensures.reports)

-- one more was, and then memory was wanting
pub returns-then-not-report-clause-reports : goal.returns-then-not-report-clause-reports
returns-then-not-report-clause-reports g c = more_reports _ _ _ c.loop.invariant.2 c.report.ensures.reports
