use Rattle.std.proofs.Common.{◌∙◌, sym, subst}
use Rattle.translator.specs.Translate.{manner_of}
use Rattle.translator.specs.inside.Translate.{IsLineEnd}
use Rattle.translator.proofs.Given.{no_version, not_given}
use Rattle.translator.proofs.translate_run.translation_under.Goals as goal

pub returns-then-version-gt-MAX_VERSION-clause-ends : goal.returns-then-version-gt-MAX_VERSION-clause-ends
returns-then-version-gt-MAX_VERSION-clause-ends c =
    subst (λ given. IsLineEnd c.args.number c.args.line.now given c.uncounted.result)
    (sym (no_version (manner_of c.args.plan.now) c.args.version c.args.line.now c.if-version-gt-MAX_VERSION.true)) c.uncounted.ensures

pub returns-then-is_unanswered-clause-ends : goal.returns-then-is_unanswered-clause-ends
returns-then-is_unanswered-clause-ends c =
    subst (λ given. IsLineEnd c.args.number c.args.line.now given c.uncounted-then-is_unanswered.result)
    (sym (not_given (manner_of c.args.plan.now) c.args.version c.args.line.now c.in-Ok.translation c.if-version-gt-MAX_VERSION.false c.in-Ok.ensures.told
    (sym c.is_unanswered.ensures ∙ c.if-is_unanswered.true))) c.uncounted-then-is_unanswered.ensures
