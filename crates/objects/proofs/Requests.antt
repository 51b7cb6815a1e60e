-- What a pod counts for that stands on a node.
use Rattle.std.proofs.Common.{◌≡◌, ℕ, ◌^◌, min, Result, Ok, ◌∙◌}
use Rattle.quant.specs.declared.amount.Request.{Request}
use Rattle.quant.specs.Request.{request_of}
use Rattle.quant.proofs.RequestLemmas.{request_of_own}
use Rattle.objects.specs.Amounts.{at_most}

-- a result is of one value
pub ok_same : {A E : Type 0} (x y : A) (result : Result A E) → result ≡ Ok x → result ≡ Ok y → x ≡ y
ok_same x y result e f = cc

-- a request is known by its amounts
pub same_request : (r : Request) (cpu memory : ℕ) → r.cpu.0 ≡ min (2 ^ 30) cpu → r.mem.0 ≡ min (2 ^ 44) memory → r ≡ at_most cpu memory
unfolding at_most
same_request r cpu memory cpu_is memory_is =
    ok_same r (at_most cpu memory) (request_of r.cpu r.mem) (request_of_own r)
    ((λ j. request_of (record { 0 = cpu_is j }) (record { 0 = memory_is j })) ∙ request_of_own (at_most cpu memory))
