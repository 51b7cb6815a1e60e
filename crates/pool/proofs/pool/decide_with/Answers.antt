use Rattle.std.proofs.Common.{length, IfOk, OnOk, sym, ◌∙◌, ap, subst}
use Rattle.choose.specs.Choice.{Choice, AreVerdicts}
use Rattle.pool.proofs.pool.decide_with.Goals as goal

pub returns-in-Err-clause-chosen : goal.returns-in-Err-clause-chosen
returns-in-Err-clause-chosen g c =
    let kit = g.K.Rules.answers c.args.home.now in
    subst (λ pod. Choice kit c.args.snapshot pod c.choose_here-in-Err.result) c.in-Ok.ensures
    (subst (λ a. Choice kit a.snapshot a.pod c.choose_here-in-Err.result) c.in-Err.ensures.full c.choose_here-in-Err.ensures.chosen)

pub returns-in-Err-clause-judged : goal.returns-in-Err-clause-judged
returns-in-Err-clause-judged g c =
    let kit = g.K.Rules.answers c.args.home.now in
    let made = c.choose_here-in-Err.new.verdicts in
    subst (λ pod. AreVerdicts kit pod c.args.snapshot made) c.in-Ok.ensures
    (subst (λ a. AreVerdicts kit a.pod a.snapshot made) c.in-Err.ensures.full c.choose_here-in-Err.ensures.judged)

pub returns-in-Ok-add-clause-chosen : goal.returns-in-Ok-add-clause-chosen
returns-in-Ok-add-clause-chosen g c =
    let kit = g.K.Rules.answers c.args.home.now in
    subst (λ pod. IfOk c.choose_there.result (Choice kit c.args.snapshot pod)) c.in-Ok.ensures
    (subst (λ a. IfOk c.choose_there.result (Choice kit a.snapshot a.pod)) c.in-Ok-add.ensures.added c.choose_there.ensures.chosen)

pub returns-in-Ok-add-clause-judged : goal.returns-in-Ok-add-clause-judged
returns-in-Ok-add-clause-judged g c =
    let kit = g.K.Rules.answers c.args.home.now in
    let made = c.choose_there.new.verdicts in
    subst (λ pod. OnOk c.choose_there.result (AreVerdicts kit pod c.args.snapshot made)) c.in-Ok.ensures
    (subst (λ a. OnOk c.choose_there.result (AreVerdicts kit a.pod a.snapshot made)) c.in-Ok-add.ensures.added c.choose_there.ensures.judged)

pub choose_there-requires-clause-pieces : goal.choose_there-requires-clause-pieces
choose_there-requires-clause-pieces g c = ap (λ a. a.pieces) c.in-Ok-add.ensures.added

pub choose_there-requires-clause-places : goal.choose_there-requires-clause-places
choose_there-requires-clause-places g c = c.requires.places ∙ sym (ap (λ a. length a.snapshot) c.in-Ok-add.ensures.added)

pub choose_here-requires-in-Err : goal.choose_here-requires-in-Err
choose_here-requires-in-Err g c = c.requires.places ∙ sym (ap (λ a. length a.snapshot) c.in-Err.ensures.full)
