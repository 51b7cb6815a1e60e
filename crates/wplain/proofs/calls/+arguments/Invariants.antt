use Rattle.wplain.proofs.calls.+arguments.Given as goal

abbrev pub decreases-arguments : goal.decreases-arguments
decreases-arguments l = l.count
