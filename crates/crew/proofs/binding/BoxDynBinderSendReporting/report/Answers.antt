use Rattle.crew.proofs.Answering.{reports}
use Rattle.crew.proofs.binding.BoxDynBinderSendReporting.report.Goals as goal

-- it reports, or does nothing
pub returns-clause-reports : goal.returns-clause-reports
returns-clause-reports g c = reports c.bind_job.result c.args.desk.now c.args.pass.now c.bind_job.new.pass c.args.job.now _ c.bind_job.ensures.applied c.bind_job.ensures.unapplied
