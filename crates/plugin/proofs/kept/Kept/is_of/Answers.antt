use Rattle.std.proofs.Common.{sym, ◌∙◌, arith}
use Rattle.std.specs.Cmp.Lexicographic.{bytes_decides}
use Rattle.plugin.proofs.KeptLemmas.{pod_is}
use Rattle.plugin.proofs.kept.Kept.is_of.Goals as goal

pub returns-then-class-len-clause-pod : goal.returns-then-class-len-clause-pod
returns-then-class-len-clause-pod c = λ t.
    pod_is c.args.self.now.classes.items c.args.class c.index.result.now c.args.pod.now (omega (arith, c.if-class-len.true, c.len.ensures)) c.index.ensures
    (sym c.as_slice.ensures.value ∙ (bytes_decides c.as_slice.result.now c.as_bytes.result.now).0 (sym c.eq.ensures ∙ t) ∙ c.as_bytes.ensures.bytes)
