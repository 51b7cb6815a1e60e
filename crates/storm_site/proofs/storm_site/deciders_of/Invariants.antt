use Rattle.std.proofs.Common.{◌≡◌, [], ◌∷◌, map}
use Rattle.storm_site.proofs.storm_site.deciders_of.Given as goal

-- there is one for each kit so far
abbrev pub invariant-loop-kit : goal.invariant-loop-kit
invariant-loop-kit l = map (λ d. d.kit ∷ []) l.deciders.items ≡ map (λ kit. kit ∷ []) l.yielded
