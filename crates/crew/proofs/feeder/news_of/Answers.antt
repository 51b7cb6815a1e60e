use Rattle.std.proofs.Common.{◌≡◌, sym, subst, rules}
use Rattle.quant.specs.declared.event.Event.TheVariants.{PodBound}
use Rattle.desk.specs.declared.step.Step.{Step}
use Rattle.desk.specs.declared.step.Step.TheVariants.{Event}
use Rattle.desk.specs.declared.step.Reply.{Reply}
use Rattle.crew.specs.inside.News.{WakesNone}
use Rattle.crew.proofs.Waking.{refused_wakes_none, bound_wakes_none}
use Rattle.crew.proofs.feeder.news_of.Goals as goal

-- a refused step brings nothing
pub returns-in-Refused : goal.returns-in-Refused
returns-in-Refused c = λ none. subst (λ (answer : Reply). WakesNone c.args.step.now answer) (sym c.in-Refused.is) (refused_wakes_none c.args.step.now c.in-Refused.field-0)

-- nor does a pod that is bound
pub returns-in-Event-PodBound : goal.returns-in-Event-PodBound
returns-in-Event-PodBound c =
    let of = c.in-Event-PodBound in
    let is : c.args.step.now ≡ Event (PodBound of.field-0-0 of.field-0-1 of.field-0-2 of.field-0-3) = search rules in
    λ none. subst (λ (e : Step). WakesNone e c.args.reply.now) (sym is) (bound_wakes_none of.field-0-0 of.field-0-1 of.field-0-2 of.field-0-3 c.args.reply.now)
