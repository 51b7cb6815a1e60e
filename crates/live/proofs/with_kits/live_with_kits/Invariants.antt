use Rattle.choose.specs.Verdict.{HasVerdict}
use Rattle.live.proofs.with_kits.live_with_kits.Given as goal

-- the pool that is started, and what its kits say
abbrev pub ghosts-live_in : goal.ghosts-live_in
ghosts-live_in g a = record { book = a.blank.seen.book; Says = λ pod node verdict. HasVerdict (g.K.Rules.answers a.first) pod node verdict }
