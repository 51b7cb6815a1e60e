use Rattle.std.proofs.Common.{sym, subst, ap}
use Rattle.whost.specs.declared.records.Records.{Records}
use Rattle.plugin.specs.Kit.{Ready, InstanceState, FilterSays}
use Rattle.plugin.proofs.AskedLemmas.{by_class, by_row, by_node}
use Rattle.plugin.proofs.StayLemmas.{stays, stays_too}
use Rattle.plugin.proofs.member.Member.ask_filter.Goals as goal

pub returns-in-Some-clause-says : goal.returns-in-Some-clause-says
returns-in-Some-clause-says c = λ told reaches. rw (sym c.self.view_is) (c.in-Some.ensures.says told (by_class c.args.records.now told reaches))

pub returns-in-Some-clause-stays : goal.returns-in-Some-clause-stays
returns-in-Some-clause-stays c = stays c.args.self.now _ c.filter_within.new.self c.self.view_is c.filter_within.ensures.stays

pub returns-in-Some-filter_within-clause-says : goal.returns-in-Some-filter_within-clause-says
returns-in-Some-filter_within-clause-says c = λ told reaches.
    let one = ap (λ (i : InstanceState). i.ready) (stays c.args.self.now _ c.filter_within.new.self c.self.view_is c.filter_within.ensures.stays) in
    subst (λ (p : Ready). FilterSays p told c.in-Some-filter_within.said) one (c.in-Some-filter_within.ensures.says told (by_row c.args.records.now told reaches))

pub returns-in-Some-filter_within-clause-stays : goal.returns-in-Some-filter_within-clause-stays
returns-in-Some-filter_within-clause-stays c =
    stays_too c.args.self.now c.filter_within.new.self c.filter_within-2.new.self (stays c.args.self.now _ c.filter_within.new.self c.self.view_is c.filter_within.ensures.stays) c.filter_within-2.ensures.stays

pub returns-in-Some-filter_of_all-clause-says : goal.returns-in-Some-filter_of_all-clause-says
returns-in-Some-filter_of_all-clause-says c = λ told same.
    let one = ap (λ (i : InstanceState). i.ready)
    (stays_too c.args.self.now c.filter_within.new.self c.filter_within-2.new.self (stays c.args.self.now _ c.filter_within.new.self c.self.view_is c.filter_within.ensures.stays) c.filter_within-2.ensures.stays) in
    subst (λ (r : Records). FilterSays c.args.self.now.ready r c.in-Some-filter_of_all.said) (sym same)
    (subst (λ (p : Ready). FilterSays p c.args.records.now c.in-Some-filter_of_all.said) one (c.in-Some-filter_of_all.ensures.says c.args.records.now.node))

pub returns-in-Some-filter_of_all-clause-stays : goal.returns-in-Some-filter_of_all-clause-stays
returns-in-Some-filter_of_all-clause-stays c =
    stays_too c.args.self.now c.filter_within-2.new.self c.filter_of_all.new.self (stays_too c.args.self.now c.filter_within.new.self c.filter_within-2.new.self (stays c.args.self.now _ c.filter_within.new.self c.self.view_is c.filter_within.ensures.stays) c.filter_within-2.ensures.stays) c.filter_of_all.ensures.stays

pub returns-in-Some-filter_within-2-clause-says : goal.returns-in-Some-filter_within-2-clause-says
returns-in-Some-filter_within-2-clause-says c = λ told reaches.
    let one = ap (λ (i : InstanceState). i.ready)
    (stays_too c.args.self.now c.filter_within-2.new.self c.filter_of_all.new.self (stays_too c.args.self.now c.filter_within.new.self c.filter_within-2.new.self (stays c.args.self.now _ c.filter_within.new.self c.self.view_is c.filter_within.ensures.stays) c.filter_within-2.ensures.stays) c.filter_of_all.ensures.stays) in
    subst (λ (p : Ready). FilterSays p told c.in-Some-filter_within-2.said) one (c.in-Some-filter_within-2.ensures.says told (by_node c.args.records.now told reaches))

pub returns-in-Some-filter_within-2-clause-stays : goal.returns-in-Some-filter_within-2-clause-stays
returns-in-Some-filter_within-2-clause-stays c =
    stays_too c.args.self.now c.filter_of_all.new.self c.filter_within-3.new.self (stays_too c.args.self.now c.filter_within-2.new.self c.filter_of_all.new.self (stays_too c.args.self.now c.filter_within.new.self c.filter_within-2.new.self (stays c.args.self.now _ c.filter_within.new.self c.self.view_is c.filter_within.ensures.stays) c.filter_within-2.ensures.stays) c.filter_of_all.ensures.stays) c.filter_within-3.ensures.stays

pub returns-clause-says : goal.returns-clause-says
returns-clause-says c = λ told same.
    let one = ap (λ (i : InstanceState). i.ready)
    (stays_too c.args.self.now c.filter_of_all.new.self c.filter_within-3.new.self (stays_too c.args.self.now c.filter_within-2.new.self c.filter_of_all.new.self (stays_too c.args.self.now c.filter_within.new.self c.filter_within-2.new.self (stays c.args.self.now _ c.filter_within.new.self c.self.view_is c.filter_within.ensures.stays) c.filter_within-2.ensures.stays) c.filter_of_all.ensures.stays) c.filter_within-3.ensures.stays) in
    subst (λ (r : Records). FilterSays c.args.self.now.ready r c.filter.result) (sym same)
    (subst (λ (p : Ready). FilterSays p c.args.records.now c.filter.result) one c.filter.ensures.says)

pub returns-clause-stays : goal.returns-clause-stays
returns-clause-stays c =
    stays_too c.args.self.now c.filter_within-3.new.self c.filter.new.self (stays_too c.args.self.now c.filter_of_all.new.self c.filter_within-3.new.self (stays_too c.args.self.now c.filter_within-2.new.self c.filter_of_all.new.self (stays_too c.args.self.now c.filter_within.new.self c.filter_within-2.new.self (stays c.args.self.now _ c.filter_within.new.self c.self.view_is c.filter_within.ensures.stays) c.filter_within-2.ensures.stays) c.filter_of_all.ensures.stays) c.filter_within-3.ensures.stays) c.filter.ensures.stays
