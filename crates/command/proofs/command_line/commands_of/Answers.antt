use Rattle.std.proofs.Common.{◌∙◌, ◌+◌, ◌≤◌, false, length, map, ap, refl, subst, sym}
use Rattle.command.specs.declared.command_line.CommandRow.{CommandRow}
use Rattle.command.specs.inside.Built.{command_by, shape_and_reach}
use Rattle.command.proofs.BuiltLemmas.{one_more, whole}
use Rattle.command.proofs.command_line.commands_of.Goals as goal

pub loop-row-init : goal.loop-row-init
loop-row-init c = record {
  room = c.in-Ok.ensures.capacity;
  many = c.in-Ok.ensures.len;
  made = ap (map shape_and_reach) c.in-Ok.ensures.items;
}

pub loop-row-preserved : goal.loop-row-preserved
loop-row-preserved c = record {
  room = subst (λ n. length c.args.rows.now ≤ n) (sym c.push_reserved.ensures.capacity) c.loop-row.invariant.room;
  many = c.push_reserved.ensures.len ∙ ap (λ n. n + 1) c.loop-row.invariant.many;
  made = ap (map shape_and_reach) c.push_reserved.ensures.items
      ∙ one_more shape_and_reach (λ (row : CommandRow). ((command_by row).top, false)) c.loop-row.made.items c.args.rows.now _ c.loop-row.row-index _ c.in-Ok-command_of.command
      c.loop-row-test.true refl c.loop-row.invariant.made c.in-Ok-command_of.ensures;
}

pub returns : goal.returns
returns c =
    c.loop-row.invariant.made ∙ whole (λ (row : CommandRow). ((command_by row).top, false)) c.args.rows.now _ c.loop-row.row-index refl c.loop-row-test.false
