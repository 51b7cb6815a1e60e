use Rattle.std.proofs.Common.{sym, subst, ap, ◌∙◌}
use Rattle.plugin.specs.Kit.{Ready, InstanceState, FilterSays}
use Rattle.plugin.specs.inside.Said.{SaidOfAll}
use Rattle.plugin.specs.inside.Member.{ready_of}
use Rattle.plugin.proofs.SaidLemmas.{said_of_each, noted_of_all, of_each_node}
use Rattle.plugin.proofs.StayLemmas.{seen_stays, stays}
use Rattle.plugin.proofs.member.Member.filter_of_all.Goals as goal

pub returns-in-Some-clause-says : goal.returns-in-Some-clause-says
returns-in-Some-clause-says c =
    rw (sym c.self.view_is) (said_of_each (FilterSays (ready_of c.self.inside)) c.self.inside.filter.said c.self.inside.filter.first.items c.self.inside.filter.second.items c.self.inside.filter.third.items c.in-Some.said c.args.records.now
    c.self.invariant.filter c.in-Some.ensures.said c.in-Some.ensures.first c.in-Some.ensures.second c.in-Some.ensures.third)

pub invariant_of-self-3 : goal.invariant_of-self-3
invariant_of-self-3 c =
    let same = ap (λ (i : InstanceState). i.ready) (sym (c.self-2.view_is ∙ c.filter_shown-said.ensures.stays)) in
    record {
      filter = subst (λ (p : Ready). SaidOfAll (FilterSays p) c.note.new.self.said c.note.new.self.first.items c.note.new.self.second.items c.note.new.self.third.items) same
          (noted_of_all (FilterSays (ready_of c.self.inside)) c.filter_shown-said.result c.note.new.self.said c.note.new.self.first.items c.note.new.self.second.items c.note.new.self.third.items c.args.records.now
          c.note.ensures.said c.note.ensures.first c.note.ensures.second c.note.ensures.third
          (of_each_node (FilterSays (ready_of c.self.inside)) c.filter_shown-said.result c.args.records.now c.filter_shown-said.ensures.says));
      score = c.self-2.invariant.score;
      within = c.self-2.invariant.within;
    }

pub returns-clause-says : goal.returns-clause-says
returns-clause-says c =
    rw (sym c.self.view_is) (of_each_node (FilterSays (ready_of c.self.inside)) c.filter_shown-said.result c.args.records.now c.filter_shown-said.ensures.says)

pub returns-clause-stays : goal.returns-clause-stays
returns-clause-stays c =
    seen_stays c.args.self.now c.filter_shown-said.new.self _ c.self-2.view_is (stays c.args.self.now _ c.filter_shown-said.new.self c.self.view_is c.filter_shown-said.ensures.stays)

pub returns-then-waits-clause-stays : goal.returns-then-waits-clause-stays
returns-then-waits-clause-stays c = ap (λ (i : InstanceState). record i { store = c.self.inside.instance.store }) c.self.view_is
