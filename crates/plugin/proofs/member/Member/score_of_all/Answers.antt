use Rattle.std.proofs.Common.{sym, subst, ap, ◌∙◌}
use Rattle.plugin.specs.Kit.{Ready, InstanceState, ScoreSays}
use Rattle.plugin.specs.inside.Said.{SaidOfAll}
use Rattle.plugin.specs.inside.Member.{ready_of}
use Rattle.plugin.proofs.SaidLemmas.{said_of_each, noted_of_all, of_each_node, noted_within}
use Rattle.plugin.proofs.StayLemmas.{seen_stays, stays}
use Rattle.plugin.proofs.member.Member.score_of_all.Goals as goal

pub returns-in-Some-clause-says : goal.returns-in-Some-clause-says
returns-in-Some-clause-says c =
    rw (sym c.self.view_is) (said_of_each (ScoreSays (ready_of c.self.inside)) c.self.inside.score.said c.self.inside.score.first.items c.self.inside.score.second.items c.self.inside.score.third.items c.in-Some.said c.args.records.now
    c.self.invariant.score c.in-Some.ensures.said c.in-Some.ensures.first c.in-Some.ensures.second c.in-Some.ensures.third)

pub invariant_of-self-3 : goal.invariant_of-self-3
invariant_of-self-3 c =
    let same = ap (λ (i : InstanceState). i.ready) (sym (c.self-2.view_is ∙ c.score_shown-said.ensures.stays)) in
    record {
      score = subst (λ (p : Ready). SaidOfAll (ScoreSays p) c.note.new.self.said c.note.new.self.first.items c.note.new.self.second.items c.note.new.self.third.items) same
          (noted_of_all (ScoreSays (ready_of c.self.inside)) c.score_shown-said.result c.note.new.self.said c.note.new.self.first.items c.note.new.self.second.items c.note.new.self.third.items c.args.records.now
          c.note.ensures.said c.note.ensures.first c.note.ensures.second c.note.ensures.third
          (of_each_node (ScoreSays (ready_of c.self.inside)) c.score_shown-said.result c.args.records.now c.score_shown-said.ensures.says));
      filter = c.self-2.invariant.filter;
      within = noted_within c.score_shown-said.result c.note.new.self.said c.note.ensures.said c.score_shown-said.ensures.within;
    }

pub returns-clause-says : goal.returns-clause-says
returns-clause-says c =
    rw (sym c.self.view_is) (of_each_node (ScoreSays (ready_of c.self.inside)) c.score_shown-said.result c.args.records.now c.score_shown-said.ensures.says)

pub returns-clause-stays : goal.returns-clause-stays
returns-clause-stays c =
    seen_stays c.args.self.now c.score_shown-said.new.self _ c.self-2.view_is (stays c.args.self.now _ c.score_shown-said.new.self c.self.view_is c.score_shown-said.ensures.stays)

pub returns-then-waits-clause-stays : goal.returns-then-waits-clause-stays
returns-then-waits-clause-stays c = ap (λ (i : InstanceState). record i { store = c.self.inside.instance.store }) c.self.view_is
