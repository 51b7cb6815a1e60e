use Rattle.std.proofs.Common.{◌∙◌}
use Rattle.wstore.proofs.Overwriting.{function_written}
use Rattle.wstore.proofs.kept.put_functions.Goals as goal

pub loop-i-preserved : goal.loop-i-preserved
loop-i-preserved c = record {
  places = function_written c.args.table.now.places c.loop-i.table.places c.set.new.self.places c.args.at c.args.functions.now c.loop-i.i
      c.loop-i-test.true c.requires c.loop-i.invariant.places c.set.ensures.places;
  image = c.set.ensures.image ∙ c.loop-i.invariant.image;
}
