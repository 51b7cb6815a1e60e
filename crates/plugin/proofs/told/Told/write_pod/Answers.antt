use Rattle.std.proofs.Common.{sym, ap}
use Rattle.whost.specs.declared.records.Records.{Records}
use Rattle.plugin.proofs.told.Told.write_pod.Goals as goal

pub invariant_of-self : goal.invariant_of-self
invariant_of-self c = record {
  pod = (c.args.pod.now, sym c.copied.ensures, ap (λ (r : Records). r.pod) c.show_pod.ensures);
  node = rw c.show_pod.ensures c.self.invariant.node;
}
