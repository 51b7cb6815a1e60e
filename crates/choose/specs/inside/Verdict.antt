-- The parts of a total of a node on which no rule was asked.
use Rattle.choose.specs.declared.asking.Added.{Added}
use Rattle.choose.specs.Verdict.{no_scores}

-- what is added where there is no rule
abbrev pub nothing_added : Added
nothing_added = record { sum = 0; scores = no_scores }
