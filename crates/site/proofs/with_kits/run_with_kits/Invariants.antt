use Rattle.choose.specs.Verdict.{HasVerdict}
use Rattle.site.proofs.with_kits.run_with_kits.Given as goal

-- the pool that is started, and what its kits say
abbrev pub ghosts-run_in : goal.ghosts-run_in
ghosts-run_in g a = record { book = a.blank.seen.book; Says = λ pod node verdict. HasVerdict (g.K.Rules.answers a.first) pod node verdict }
