use Rattle.std.proofs.Common.{◌∙◌, subst}
use Rattle.wmach.specs.Configuration.{Setting}
use Rattle.wmach.specs.Plain.{reduce_plain}
use Rattle.wplain.specs.inside.Done.{DoneBy}
use Rattle.wplain.specs.Seen.{body_of_code}
use Rattle.wplain.proofs.plain.on_operands.Goals as goal

pub returns-in-Values : goal.returns-in-Values
returns-in-Values c = λ setting store locals.
    let done = subst (λ w. (setting : Setting) → DoneBy (λ store locals values rest. reduce_plain setting store locals values c.args.p rest) c.args.values.now.items c.operands.new.values.items w) c.in-Values.is c.in_ok-operands.ensures in
    done setting store locals (body_of_code c.args.rest.now) ∙ c.quiet.ensures store locals c.operands.new.values.items

pub returns-in-Cut : goal.returns-in-Cut
returns-in-Cut c = λ setting store locals.
    let done = subst (λ w. (setting : Setting) → DoneBy (λ store locals values rest. reduce_plain setting store locals values c.args.p rest) c.args.values.now.items c.operands.new.values.items w) c.in-Cut.is c.in_ok-operands.ensures in
    done setting store locals (body_of_code c.args.rest.now) ∙ c.quiet-in-Cut.ensures store locals c.operands.new.values.items
