use Rattle.std.proofs.Common.{◌≡◌, ◌+◌, subst, sym, arith}
use Rattle.wcode.proofs.Lists.{HasLabels, Stands, no_labels, more_labels, label_stands, default_stands}
use Rattle.wcode.proofs.expression.read_labels.Goals as goal

pub loop-i-init : goal.loop-i-init
loop-i-init c =
    subst (λ l. HasLabels c.args.bytes.now c.args.at l c.args.at 0) (sym c.new-labels.ensures.items) (no_labels c.args.bytes.now c.args.at c.requires.place)

pub read_label-label-requires-clause-stands : goal.read_label-label-requires-clause-stands
read_label-label-requires-clause-stands c =
    label_stands c.args.bytes.now c.args.at c.loop-i.labels.items c.loop-i.place c.loop-i._i c.args.count c.loop-i.invariant c.loop-i-test.true c.requires.stands

pub loop-i-preserved : goal.loop-i-preserved
loop-i-preserved c =
    let m = more_labels c.args.bytes.now c.args.at c.loop-i.labels.items c.loop-i.place c.loop-i._i c.read_label-label.result.0 c.read_label-label.result.1
    c.loop-i.invariant c.read_label-label.ensures.end c.read_label-label.ensures.label in
    subst (λ l. HasLabels c.args.bytes.now c.args.at l c.read_label-label.result.1 (c.loop-i._i + 1)) (sym c.in_ok-push.ensures.items) m

pub read_label-default-requires-clause-stands : goal.read_label-default-requires-clause-stands
read_label-default-requires-clause-stands c =
    let e : c.args.count ≡ c.loop-i._i = omega arith in
    default_stands c.args.bytes.now c.args.at c.loop-i.labels.items c.loop-i.place c.loop-i._i c.loop-i.invariant
    (subst (Stands c.args.bytes.now c.args.at) e c.requires.stands)
