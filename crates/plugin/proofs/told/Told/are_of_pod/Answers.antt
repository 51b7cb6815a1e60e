use Rattle.std.proofs.Common.{◌∙◌, sym, ap}
use Rattle.std.specs.Cmp.Lexicographic.{bytes_decides}
use Rattle.whost.specs.declared.records.Records.{Records}
use Rattle.plugin.proofs.TellingLemmas.{noted_pod}
use Rattle.plugin.proofs.told.Told.are_of_pod.Goals as goal

pub returns-then-eq : goal.returns-then-eq
returns-then-eq c = λ t.
    let uid = sym c.as_bytes.ensures.bytes ∙ (bytes_decides c.as_bytes.result.now c.as_bytes-2.result.now).0 (sym c.if-eq.ensures) ∙ c.as_bytes-2.ensures.bytes in
    let third = sym c.pod3.ensures ∙ sym c.as_bytes-then-eq.ensures.bytes
    ∙ (bytes_decides c.as_bytes-then-eq.result.now c.as_bytes-then-eq-2.result.now).0 (sym c.eq-then-eq.ensures ∙ t)
    ∙ c.as_bytes-then-eq-2.ensures.bytes ∙ c.requires in
    ap (λ (r : Records). r.pod) (sym c.self.view_is)
    ∙ noted_pod c.self.inside.uid c.in-Some.uid c.self.inside.records.pod c.args.pod.now c.in-Some.is uid third c.self.invariant.pod
