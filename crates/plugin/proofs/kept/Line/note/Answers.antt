use Rattle.std.proofs.Common.{refl}
use Rattle.plugin.proofs.KeptLemmas.{heard_of_row}
use Rattle.plugin.proofs.kept.Line.note.Goals as goal

pub returns : goal.returns
returns c = λ plugins pod hold says.
    c.note.ensures plugins pod c.args.self.now.node c.args.self.now.used hold
    (heard_of_row plugins pod c.args.self.now c.args.node.now c.args.used.now c.args.place c.args.heard c.args.reach (c.if-not-is_of.ensures refl) (c.if-not-same_amounts.ensures refl) says)
