use Rattle.plugin.proofs.StayLemmas.{seen_stays}
use Rattle.plugin.proofs.member.Member.filter_within.Goals as goal

pub returns-clause-stays : goal.returns-clause-stays
returns-clause-stays c = seen_stays c.args.self.now c.filter_shown-said.new.self _ c.self.view_is c.filter_shown-said.ensures.stays
