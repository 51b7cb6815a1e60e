use Rattle.std.proofs.Common.{◌≡◌, ◌<◌, length, get_or, sym, ap, ◌∙◌, arith}
use Rattle.name_table.specs.Slots.{map_of}
use Rattle.book.proofs.FinishLemmas.{least_of, passed_over, none_left}
use Rattle.book.proofs.overdue.Overdue.first.Goals as goal

-- those that come before it have gone, and those that come after it aren't less
pub returns-then-has_finished-clause-least : goal.returns-then-has_finished-clause-least
returns-then-has_finished-clause-least c =
    let names = c.loop-self.self.names.items in
    let given = c.loop-self.self.given in
    let is : c.copied.result ≡ get_or names given c.copied.result = c.copied.ensures ∙ c.index-uid.ensures ∙ ap (get_or names given) (sym c.copied.ensures) in
    let lt : given < length names = omega (arith, c.loop-self.self.names.ok.0, c.loop-self-test.true, c.len.ensures) in
    least_of (map_of c.args.table.now) c.args.limit names given c.copied.result c.loop-self.invariant.gathered lt is

-- the next one is looked at
pub loop-self-preserved : goal.loop-self-preserved
loop-self-preserved c =
    let names = c.loop-self.self.names.items in
    let given = c.loop-self.self.given in
    let lt : given < length names = omega (arith, c.loop-self.self.names.ok.0, c.loop-self-test.true, c.len.ensures) in
    record {
      names = c.loop-self.invariant.names;
      limit = c.loop-self.invariant.limit;
      gathered = passed_over (map_of c.args.table.now) c.args.limit names given c.index-uid.result.now c.loop-self.invariant.gathered lt c.index-uid.ensures
          (sym c.has_finished.ensures ∙ c.if-has_finished.false);
    }

-- all of them have gone
pub returns-clause-none : goal.returns-clause-none
returns-clause-none c =
    none_left (map_of c.args.table.now) c.args.limit c.loop-self.self.names.items c.loop-self.self.given c.loop-self.invariant.gathered
    (omega (arith, c.loop-self.self.names.ok.0, c.loop-self-test.false, c.len.ensures))
