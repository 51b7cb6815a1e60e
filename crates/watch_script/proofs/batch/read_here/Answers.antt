use Rattle.std.proofs.Common.{◌≡◌, Ok, ◌∙◌, ap, map, refl, subst, sym}
use Rattle.std.specs.Prelude.{option_to_list}
use Rattle.std.proofs.lemmas.List.Elements.{All-append, All-same}
use Rattle.desk.specs.Caller.{IsTimely}
use Rattle.streams.specs.Script.{asked_by}
use Rattle.watch_script.specs.Script.{watched}
use Rattle.watch_script.specs.declared.batch.Part.{Part}
use Rattle.watch_script.specs.inside.Lines.{AreRead}
use Rattle.watch_script.proofs.Batches.{asked_line, asked_timely, one_more_line, faulty_at, read_no_memory, read_all}
use Rattle.watch_script.proofs.batch.read_here.Goals as goal

-- one line more was read
pub loop-before-preserved : goal.loop-before-preserved
loop-before-preserved c =
    let grown = c.if-not-add.ensures.added refl in
    let says : asked_by watched c.index-lines-before.result.items ≡ Ok c.in-Ok.asked = ap (asked_by watched) (sym c.deref.ensures.value) ∙ c.in-Ok.ensures.asked in (
      one_more_line (λ x. x.items) c.args.lines.now c.loop-before.before c.index-lines-before.result c.loop-before.steps.items c.loop-before-test.true c.index-lines-before.is c.loop-before.invariant.0
          (option_to_list c.in-Ok.asked) c.add.new.steps.items (asked_line c.index-lines-before.result.items c.in-Ok.asked says) grown,
      All-same IsTimely _ _ grown (All-append IsTimely _ _ c.loop-before.invariant.1 (asked_timely c.in-Ok.asked c.in-Ok.ensures.timely)),
    )

-- a line is faulty
pub returns-in-Err : goal.returns-in-Err
returns-in-Err c = record {
  timely = c.loop-before.invariant.1;
  read = faulty_at (λ x. x.items) c.args.lines.now c.loop-before.before c.index-lines-before.result c.loop-before.steps.items c.loop-before-test.true c.index-lines-before.is c.loop-before.invariant.0
      c.in-Err.fault (rw c.deref.ensures.value at c.in-Err.ensures.asked);
}

-- there is no memory for a line's step
pub returns-then-not-add : goal.returns-then-not-add
returns-then-not-add c =
    subst (λ (part : Part). AreRead (map (λ x. x.items) c.args.lines.now) part.steps.items part.fault) (sym c.no_memory.ensures)
    (read_no_memory (λ x. x.items) c.args.lines.now c.loop-before.before c.add.new.steps.items c.loop-before-test.true (All-same IsTimely _ _ (c.add.ensures.kept c.if-not-add.true) c.loop-before.invariant.1))

-- all of them were read
pub returns : goal.returns
returns c = read_all (λ x. x.items) c.args.lines.now c.loop-before.before c.loop-before.steps.items c.loop-before-test.false c.loop-before.invariant.0 c.loop-before.invariant.1
