use Rattle.std.proofs.Common.{ℕ, List, refl, sym, subst}
use Rattle.plugin.specs.inside.Kept.{HearOfAll, Holds}
use Rattle.plugin.proofs.KeptLemmas.{class_set, class_at, pod_of}
use Rattle.plugin.specs.declared.answers.Answers.{Answers}
use Rattle.plugin.specs.inside.Answers.{AnswersHold}
use Rattle.plugin.proofs.kept.Kept.look_up.Goals as goal

pub returns-then-not-is_of-clause-known : goal.returns-then-not-is_of-clause-known
returns-then-not-is_of-clause-known c = λ plugins hold. c.nothing.ensures.holds plugins c.args.pod.now c.args.node.now c.args.used.now

pub returns-clause-keeps : goal.returns-clause-keeps
returns-clause-keeps c = λ plugins hold.
    class_set plugins c.args.self.now.classes.items c.args.spot.class c.index_mut.result.now c.show.new.self (c.if-not-is_of.ensures.there refl) c.index_mut.ensures.value
    (λ h. c.show.ensures.keeps plugins h) hold

pub returns-clause-known : goal.returns-clause-known
returns-clause-known c = λ plugins hold.
    subst (λ (p : List ℕ). Holds plugins p c.args.node.now c.args.used.now c.show.result.known)
    (pod_of c.args.self.now.classes.items c.args.spot.class c.index_mut.result.now c.args.pod.now (c.if-not-is_of.ensures.there refl) c.index_mut.ensures.value (c.if-not-is_of.ensures.pod refl))
    (c.show.ensures.known plugins (class_at plugins c.args.self.now.classes.items c.args.spot.class c.index_mut.result.now (c.if-not-is_of.ensures.there refl) c.index_mut.ensures.value hold))

pub returns-clause-of_all : goal.returns-clause-of_all
returns-clause-of_all c = λ plugins hold.
    let class = c.index_mut.result.now in
    let there = c.if-not-is_of.ensures.there refl in
    let same = pod_of c.args.self.now.classes.items c.args.spot.class class c.args.pod.now there c.index_mut.ensures.value (c.if-not-is_of.ensures.pod refl) in
    let holds = class_at plugins c.args.self.now.classes.items c.args.spot.class class there c.index_mut.ensures.value hold in
    subst (λ (a : Answers). AnswersHold (HearOfAll plugins c.args.pod.now) a) (sym c.show.ensures.of_all)
    (subst (λ (p : List ℕ). AnswersHold (HearOfAll plugins p) class.of_all) same holds.of_all)
