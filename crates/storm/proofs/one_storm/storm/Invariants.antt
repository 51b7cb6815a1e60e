use Rattle.storm.proofs.one_storm.storm.Given as goal

-- the desk that was just opened, and its limits
abbrev pub ghosts-storm_on : goal.ghosts-storm_on
ghosts-storm_on g a = record { book = a.blank.seen.book; limits = a.greatest }
