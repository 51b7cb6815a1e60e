use Rattle.std.proofs.Common.{ap}
use Rattle.whost.specs.declared.records.Records.{Records}
use Rattle.plugin.proofs.TellingLemmas.{kept_node}
use Rattle.plugin.proofs.told.Told.write_node.Goals as goal

pub invariant_of-self : goal.invariant_of-self
invariant_of-self c =
    let of = ap (λ (r : Records). r.node) c.show_node.ensures in
    record {
      pod = rw c.show_node.ensures c.self.invariant.pod;
      node = kept_node c.shared.result c.args.node.now c.args.used.now c.show_node.new.self.node of c.shared.ensures;
    }
