use Rattle.std.proofs.Common.{arith, ◌+◌, ◌≤◌, length, subst}
use Rattle.wcode.specs.inside.Shown.{Reads}
use Rattle.wcode.proofs.Words.{word_found, word_none, no_word}
use Rattle.wcode.proofs.Shorter.{word_end}
use Rattle.wcode.proofs.reading.read_op.Goals as goal

pub returns-then-at-bytes-clause-none : goal.returns-then-at-bytes-clause-none
returns-then-at-bytes-clause-none c w rest h =
    let p : length c.args.bytes.now ≤ c.args.at = omega arith in no_word c.args.bytes.now c.args.at w rest p h

pub returns-clause-found : goal.returns-clause-found
returns-clause-found c =
    word_found c.args.bytes.now c.args.at c.read_form.result (omega arith)
    (subst (λ f. Reads c.args.bytes.now f (c.args.at + 1) c.read_form.result) c.form_of.ensures c.read_form.ensures)

pub returns-clause-end : goal.returns-clause-end
returns-clause-end c =
    word_end c.args.bytes.now c.args.at c.read_form.result (omega arith)
    (subst (λ f. Reads c.args.bytes.now f (c.args.at + 1) c.read_form.result) c.form_of.ensures c.read_form.ensures)

pub returns-clause-none : goal.returns-clause-none
returns-clause-none c =
    word_none c.args.bytes.now c.args.at c.read_form.result (omega arith)
    (subst (λ f. Reads c.args.bytes.now f (c.args.at + 1) c.read_form.result) c.form_of.ensures c.read_form.ensures)
