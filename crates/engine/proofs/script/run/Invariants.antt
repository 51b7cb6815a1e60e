use Rattle.engine.proofs.script.run.Given as goal

-- the desk that was just opened, and its limits
abbrev pub ghosts-run_desk : goal.ghosts-run_desk
ghosts-run_desk g a = record { book = a.blank.seen.book; limits = a.greatest }
