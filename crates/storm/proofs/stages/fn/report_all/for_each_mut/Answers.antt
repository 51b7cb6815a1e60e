use Rattle.storm.proofs.stages.fn.report_all.for_each_mut.Goals as goal

-- the record is named, since a search for its fields takes minutes
pub returns : goal.returns
returns g c = record {
  number = c.bind_all.ensures.number;
  made = c.bind_all.ensures.reports.0;
  makes = c.bind_all.ensures.reports.1;
  reports = c.bind_all.ensures.reports.2;
}
