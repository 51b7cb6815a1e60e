use Rattle.plugin.proofs.shown.Shown.show_node.Goals as goal

pub returns-clause-node : goal.returns-clause-node
returns-clause-node c = λ plugins hold. record {
  of_all = c.show-sighted.ensures.of_all plugins hold;
  known = c.show-sighted.ensures.known plugins hold;
}
