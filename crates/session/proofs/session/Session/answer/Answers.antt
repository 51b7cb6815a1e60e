use Rattle.std.proofs.Common.{sym}
use Rattle.choose.specs.Kits.{rules_of}
use Rattle.output_lines.specs.Telling.{telling}
use Rattle.session.specs.Answers.{Answered}
use Rattle.session.proofs.Filled.{handed}
use Rattle.session.proofs.session.Session.answer.Goals as goal

pub returns-clause-answered : goal.returns-clause-answered
returns-clause-answered g c =
    rw (sym c.self.view_is)
    (handed (λ text. Answered (rules_of g.D.Kit.Rules.answers (g.D.Decider.kits c.args.decider.now)) (telling c.args.named.now c.args.explains) c.self.inside.desk c.args.command c.fill.new.desk text)
    c.hand_out.result c.clear.new.self c.fill.new.text c.args.out.now.items c.hand_out.new.out.items c.clear.ensures c.in-Ok.ensures.answered c.hand_out.ensures.whole)
