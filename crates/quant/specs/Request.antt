-- What a pod asks of a node, by what its containers ask.
use Rattle.std.specs.Prelude.{◌≡◌, ℕ, ◌^◌, ◌≤◌, max, Bool, true, false, nat_le, List, [], ◌∷◌, sum_by, Option, Some, None, Result, Ok, Err, refl}
use Rattle.std.proofs.lemmas.Bool.{leb-true}
use Rattle.quant.specs.declared.amount.Cpu.{Cpu}
use Rattle.quant.specs.declared.amount.Bytes.{Bytes}
use Rattle.quant.specs.declared.amount.Request.{Request}
use Rattle.quant.specs.declared.fault.QuantFault.{QuantFault}
use Rattle.quant.specs.declared.fault.QuantFault.TheVariants.{TooLarge}

-- the greatest of the numbers that f reads, and 0 where there is none
abbrev pub greatest_by : {X : Type 0} → (X → ℕ) → List X → ℕ
greatest_by f [] = 0
greatest_by f (x ∷ xs) = max (f x) (greatest_by f xs)

-- containers run together and init containers one after the other before them:
-- the greater of the sum over the containers and the greatest of the init containers
unfoldable pub asked : (Request → ℕ) → List Request → List Request → ℕ
asked amount containers init = max (sum_by amount containers) (greatest_by amount init)

-- why a number is at most another, where the test of it answers so
abbrev pub why_within : (n most : ℕ) (answer : Bool) → nat_le n most ≡ answer → Option (n ≤ most)
why_within n most true passed = Some (leb-true n most passed)
why_within n most false _ = None

abbrev pub within : (n most : ℕ) → Option (n ≤ most)
within n most = why_within n most (nat_le n most) refl

-- the request of these amounts, where both are within their limits
abbrev pub request_both : (cpu : Cpu) (mem : Bytes) → Option (cpu.0 ≤ 2 ^ 30) → Option (mem.0 ≤ 2 ^ 44) → Result Request QuantFault
request_both cpu mem (Some fits_cpu) (Some fits_mem) =
    Ok (record { cpu = cpu; mem = mem; within_cpu = fits_cpu; within_mem = fits_mem })
request_both cpu mem _ _ = Err TooLarge

-- the request of these amounts, which is too large above 2^30 thousandths of a core or 2^44 bytes
unfoldable pub request_of : Cpu → Bytes → Result Request QuantFault
request_of cpu mem = request_both cpu mem (within cpu.0 (2 ^ 30)) (within mem.0 (2 ^ 44))

-- what a pod asks in all
unfoldable pub pod_request : List Request → List Request → Result Request QuantFault
pod_request containers init =
    request_of (record { 0 = asked (λ r. r.cpu.0) containers init }) (record { 0 = asked (λ r. r.mem.0) containers init })
