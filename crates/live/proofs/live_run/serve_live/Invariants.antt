use Rattle.live.proofs.live_run.serve_live.Given as goal

-- the desk that is opened, and its limits
abbrev pub ghosts-live_lines : goal.ghosts-live_lines
ghosts-live_lines g a = record { book = a.blank.seen.book; limits = a.greatest }
