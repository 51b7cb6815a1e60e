use Rattle.std.proofs.Common.{ℕ, List, refl, sym, subst}
use Rattle.plugin.specs.inside.Kept.{NewlyHeard}
use Rattle.plugin.proofs.KeptLemmas.{class_set, pod_of}
use Rattle.plugin.proofs.kept.Kept.note.Goals as goal

pub returns : goal.returns
returns c = λ plugins hold says.
    let same = pod_of c.args.self.now.classes.items c.args.spot.class c.index_mut.result.now c.args.pod.now (c.if-not-is_of.ensures.there refl) c.index_mut.ensures.value (c.if-not-is_of.ensures.pod refl) in
    class_set plugins c.args.self.now.classes.items c.args.spot.class c.index_mut.result.now c.note.new.self (c.if-not-is_of.ensures.there refl) c.index_mut.ensures.value
    (λ h. c.note.ensures.keeps plugins h (subst (λ (p : List ℕ). NewlyHeard plugins p c.args.node.now c.args.used.now c.args.place c.args.heard c.args.reach) (sym same) says)) hold
