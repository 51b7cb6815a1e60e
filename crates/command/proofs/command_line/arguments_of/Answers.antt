use Rattle.std.proofs.Common.{◌∙◌, ◌+◌, ◌≤◌, false, length, map, ap, refl, subst, sym}
use Rattle.command.specs.declared.command_line.Takes.{Takes}
use Rattle.command.specs.inside.Built.{rule_and_reach, rule_by}
use Rattle.command.proofs.BuiltLemmas.{one_more, whole}
use Rattle.command.proofs.command_line.arguments_of.Goals as goal

pub loop-one-init : goal.loop-one-init
loop-one-init c = record {
  room = c.in-Ok.ensures.capacity;
  many = c.in-Ok.ensures.len;
  made = ap (map rule_and_reach) c.in-Ok.ensures.items;
}

pub loop-one-preserved : goal.loop-one-preserved
loop-one-preserved c = record {
  room = subst (λ n. length c.args.takes.now ≤ n) (sym c.push_reserved.ensures.capacity) c.loop-one.invariant.room;
  many = c.push_reserved.ensures.len ∙ ap (λ n. n + 1) c.loop-one.invariant.many;
  made = ap (map rule_and_reach) c.push_reserved.ensures.items
      ∙ one_more rule_and_reach (λ (t : Takes). (rule_by t, false)) c.loop-one.made.items c.args.takes.now _ c.loop-one.one-index _ c.argument.result
      c.loop-one-test.true refl c.loop-one.invariant.made c.argument.ensures;
}

pub returns : goal.returns
returns c =
    c.loop-one.invariant.made ∙ whole (λ (t : Takes). (rule_by t, false)) c.args.takes.now _ c.loop-one.one-index refl c.loop-one-test.false
