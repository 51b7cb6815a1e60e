use Rattle.plugin.proofs.StayLemmas.{seen_stays}
use Rattle.plugin.proofs.member.Member.score_within.Goals as goal

pub returns-clause-stays : goal.returns-clause-stays
returns-clause-stays c = seen_stays c.args.self.now c.score_shown-said.new.self _ c.self.view_is c.score_shown-said.ensures.stays
