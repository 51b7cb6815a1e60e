use Rattle.std.proofs.Common.{sym, subst, ap}
use Rattle.whost.specs.declared.records.Records.{Records}
use Rattle.plugin.specs.Kit.{Ready, InstanceState, ScoreSays}
use Rattle.plugin.proofs.AskedLemmas.{by_class, by_row, by_node}
use Rattle.plugin.proofs.StayLemmas.{stays, stays_too}
use Rattle.plugin.proofs.member.Member.ask_score.Goals as goal

pub returns-in-Some-clause-says : goal.returns-in-Some-clause-says
returns-in-Some-clause-says c = λ told reaches. rw (sym c.self.view_is) (c.in-Some.ensures.says told (by_class c.args.records.now told reaches))

pub returns-in-Some-clause-stays : goal.returns-in-Some-clause-stays
returns-in-Some-clause-stays c = stays c.args.self.now _ c.score_within.new.self c.self.view_is c.score_within.ensures.stays

pub returns-in-Some-score_within-clause-says : goal.returns-in-Some-score_within-clause-says
returns-in-Some-score_within-clause-says c = λ told reaches.
    let one = ap (λ (i : InstanceState). i.ready) (stays c.args.self.now _ c.score_within.new.self c.self.view_is c.score_within.ensures.stays) in
    subst (λ (p : Ready). ScoreSays p told c.in-Some-score_within.said) one (c.in-Some-score_within.ensures.says told (by_row c.args.records.now told reaches))

pub returns-in-Some-score_within-clause-stays : goal.returns-in-Some-score_within-clause-stays
returns-in-Some-score_within-clause-stays c =
    stays_too c.args.self.now c.score_within.new.self c.score_within-2.new.self (stays c.args.self.now _ c.score_within.new.self c.self.view_is c.score_within.ensures.stays) c.score_within-2.ensures.stays

pub returns-in-Some-score_of_all-clause-says : goal.returns-in-Some-score_of_all-clause-says
returns-in-Some-score_of_all-clause-says c = λ told same.
    let one = ap (λ (i : InstanceState). i.ready)
    (stays_too c.args.self.now c.score_within.new.self c.score_within-2.new.self (stays c.args.self.now _ c.score_within.new.self c.self.view_is c.score_within.ensures.stays) c.score_within-2.ensures.stays) in
    subst (λ (r : Records). ScoreSays c.args.self.now.ready r c.in-Some-score_of_all.said) (sym same)
    (subst (λ (p : Ready). ScoreSays p c.args.records.now c.in-Some-score_of_all.said) one (c.in-Some-score_of_all.ensures.says c.args.records.now.node))

pub returns-in-Some-score_of_all-clause-stays : goal.returns-in-Some-score_of_all-clause-stays
returns-in-Some-score_of_all-clause-stays c =
    stays_too c.args.self.now c.score_within-2.new.self c.score_of_all.new.self (stays_too c.args.self.now c.score_within.new.self c.score_within-2.new.self (stays c.args.self.now _ c.score_within.new.self c.self.view_is c.score_within.ensures.stays) c.score_within-2.ensures.stays) c.score_of_all.ensures.stays

pub returns-in-Some-score_within-2-clause-says : goal.returns-in-Some-score_within-2-clause-says
returns-in-Some-score_within-2-clause-says c = λ told reaches.
    let one = ap (λ (i : InstanceState). i.ready)
    (stays_too c.args.self.now c.score_within-2.new.self c.score_of_all.new.self (stays_too c.args.self.now c.score_within.new.self c.score_within-2.new.self (stays c.args.self.now _ c.score_within.new.self c.self.view_is c.score_within.ensures.stays) c.score_within-2.ensures.stays) c.score_of_all.ensures.stays) in
    subst (λ (p : Ready). ScoreSays p told c.in-Some-score_within-2.said) one (c.in-Some-score_within-2.ensures.says told (by_node c.args.records.now told reaches))

pub returns-in-Some-score_within-2-clause-stays : goal.returns-in-Some-score_within-2-clause-stays
returns-in-Some-score_within-2-clause-stays c =
    stays_too c.args.self.now c.score_of_all.new.self c.score_within-3.new.self (stays_too c.args.self.now c.score_within-2.new.self c.score_of_all.new.self (stays_too c.args.self.now c.score_within.new.self c.score_within-2.new.self (stays c.args.self.now _ c.score_within.new.self c.self.view_is c.score_within.ensures.stays) c.score_within-2.ensures.stays) c.score_of_all.ensures.stays) c.score_within-3.ensures.stays

pub returns-clause-says : goal.returns-clause-says
returns-clause-says c = λ told same.
    let one = ap (λ (i : InstanceState). i.ready)
    (stays_too c.args.self.now c.score_of_all.new.self c.score_within-3.new.self (stays_too c.args.self.now c.score_within-2.new.self c.score_of_all.new.self (stays_too c.args.self.now c.score_within.new.self c.score_within-2.new.self (stays c.args.self.now _ c.score_within.new.self c.self.view_is c.score_within.ensures.stays) c.score_within-2.ensures.stays) c.score_of_all.ensures.stays) c.score_within-3.ensures.stays) in
    subst (λ (r : Records). ScoreSays c.args.self.now.ready r c.score.result) (sym same)
    (subst (λ (p : Ready). ScoreSays p c.args.records.now c.score.result) one c.score.ensures.says)

pub returns-clause-stays : goal.returns-clause-stays
returns-clause-stays c =
    stays_too c.args.self.now c.score_within-3.new.self c.score.new.self (stays_too c.args.self.now c.score_of_all.new.self c.score_within-3.new.self (stays_too c.args.self.now c.score_within-2.new.self c.score_of_all.new.self (stays_too c.args.self.now c.score_within.new.self c.score_within-2.new.self (stays c.args.self.now _ c.score_within.new.self c.self.view_is c.score_within.ensures.stays) c.score_within-2.ensures.stays) c.score_of_all.ensures.stays) c.score_within-3.ensures.stays) c.score.ensures.stays
