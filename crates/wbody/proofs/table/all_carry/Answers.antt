use Rattle.std.proofs.Common.{drop, arith}
use Rattle.wbody.specs.Context.{at_most_one}
use Rattle.wbody.specs.inside.Scope.{labels_of}
use Rattle.wbody.proofs.TableLabels.{passed_none, passed_more, passed_other, passed_all, stands_next}
use Rattle.wbody.proofs.table.all_carry.Goals as goal

pub loop-i-init : goal.loop-i-init
loop-i-init c = (
  c.requires.0,
  λ labels rest e s. passed_none (labels_of c.args.levels.now c.args.scope.now.result) (at_most_one c.args.wanted) labels (drop c.args.at c.args.bytes.now) rest s,
)

pub read_label-label-requires-clause-stands : goal.read_label-label-requires-clause-stands
read_label-label-requires-clause-stands c =
    let r = c.requires in
    stands_next (labels_of c.args.levels.now c.args.scope.now.result) (at_most_one c.args.wanted) r.1 (drop c.loop-i.place c.args.bytes.now) r.2 c.loop-i._i (c.loop-i.invariant.1 r.1 r.2 r.3 r.4) (omega (arith, r.3, c.loop-i-test.true))

pub returns-then-not-carries : goal.returns-then-not-carries
returns-then-not-carries c labels rest e s =
    passed_other (labels_of c.args.levels.now c.args.scope.now.result) (at_most_one c.args.wanted) labels (drop c.loop-i.place c.args.bytes.now) rest c.loop-i._i c.read_label-label.result.0 (drop c.read_label-label.result.1 c.args.bytes.now) (c.loop-i.invariant.1 labels rest e s) (omega (arith, e, c.loop-i-test.true)) c.read_label-label.ensures.label c.if-not-carries.ensures

pub loop-i-preserved : goal.loop-i-preserved
loop-i-preserved c = (
  c.read_label-label.ensures.end,
  λ labels rest e s.
      passed_more (labels_of c.args.levels.now c.args.scope.now.result) (at_most_one c.args.wanted) labels (drop c.loop-i.place c.args.bytes.now) rest c.loop-i._i c.read_label-label.result.0 (drop c.read_label-label.result.1 c.args.bytes.now) (c.loop-i.invariant.1 labels rest e s) (omega (arith, e, c.loop-i-test.true)) c.read_label-label.ensures.label c.if-not-carries.ensures,
)

pub returns : goal.returns
returns c labels rest e s =
    passed_all (labels_of c.args.levels.now c.args.scope.now.result) (at_most_one c.args.wanted) labels (drop c.loop-i.place c.args.bytes.now) rest c.loop-i._i (c.loop-i.invariant.1 labels rest e s) (omega (arith, e, c.loop-i-test.false))
