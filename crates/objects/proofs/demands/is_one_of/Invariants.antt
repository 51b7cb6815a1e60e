use Rattle.std.proofs.Common.{◌≡◌, drop, map}
use Rattle.objects.specs.Demands.{is_one_of}
use Rattle.objects.proofs.demands.is_one_of.Given as goal

abbrev pub invariant-loop-name : goal.invariant-loop-name
invariant-loop-name l =
    is_one_of (map (λ name. name.now) (drop l.name-index l.names)) l.fn.key ≡ is_one_of (map (λ name. name.now) l.names) l.fn.key
