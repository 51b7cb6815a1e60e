-- What a pod's request is made of.
use Rattle.std.proofs.Common.{◌≡◌, ℕ, ◌^◌, ◌≤◌, ◌<◌, max, List, [], ◌∷◌, Some, None, Ok, Err, refl, ap, arith, nat_le, Bool, true, false, Option}
use Rattle.std.specs.List.{fold}
use Rattle.std.proofs.Math.Bridge.{le_prop}
use Rattle.quant.specs.declared.amount.Cpu.{Cpu}
use Rattle.quant.specs.declared.amount.Bytes.{Bytes}
use Rattle.quant.specs.declared.amount.Request.{Request}
use Rattle.quant.specs.declared.fault.QuantFault.TheVariants.{TooLarge}
use Rattle.quant.specs.Request.{greatest_by, request_of, request_both, within, why_within}
use Rattle.std.proofs.lemmas.Bool.{leb-true}
use Rattle.std.proofs.lemmas.Bool.Decides.{nat_tests}

-- the greatest number, by going over the list with the greatest so far
greatest_after : {X : Type 0} (f : X → ℕ) (a : ℕ) (xs : List X) → fold (λ a x. max a (f x)) a xs ≡ max a (greatest_by f xs)
greatest_after f a [] = omega arith
greatest_after f a (x ∷ xs) = omega (arith, greatest_after f (max a (f x)) xs)

pub greatest_by_fold : {X : Type 0} (f : X → ℕ) (xs : List X) → fold (λ a x. max a (f x)) 0 xs ≡ greatest_by f xs
greatest_by_fold f xs = omega (arith, greatest_after f 0 xs)

-- a number that is at most another is so in one way, and the test says so
why_within_yes : (n most : ℕ) (answer : Bool) (e : nat_le n most ≡ answer) (h : n ≤ most) → why_within n most answer e ≡ Some h
why_within_yes n most true e h = ap Some (le_prop (leb-true n most e) h)
why_within_yes n most false e h = absurd (grind (arith, nat_tests))

why_within_no : (n most : ℕ) (answer : Bool) (e : nat_le n most ≡ answer) → most < n → why_within n most answer e ≡ None
why_within_no n most true e h = absurd (grind (arith, nat_tests))
why_within_no n most false e h = refl

within_yes : (n most : ℕ) (h : n ≤ most) → within n most ≡ Some h
within_yes n most h = why_within_yes n most (nat_le n most) refl h

within_no : (n most : ℕ) → most < n → within n most ≡ None
within_no n most h = why_within_no n most (nat_le n most) refl h

-- each request is that of its amounts
pub request_of_own : (r : Request) → request_of r.cpu r.mem ≡ Ok r
unfolding request_of
request_of_own r = rw (within_yes r.cpu.0 (2 ^ 30) r.within_cpu, within_yes r.mem.0 (2 ^ 44) r.within_mem) refl

-- too much of one resource is too large
pub request_of-cpu : (cpu : Cpu) (mem : Bytes) → 2 ^ 30 < cpu.0 → request_of cpu mem ≡ Err TooLarge
unfolding request_of
request_of-cpu cpu mem h = rw (within_no cpu.0 (2 ^ 30) h) refl

pub request_of-mem : (cpu : Cpu) (mem : Bytes) → 2 ^ 44 < mem.0 → request_of cpu mem ≡ Err TooLarge
unfolding request_of
request_of-mem cpu mem h =
    rw (within_no mem.0 (2 ^ 44) h) (by (within cpu.0 (2 ^ 30)))
  where
    by : (o : Option (cpu.0 ≤ 2 ^ 30)) → request_both cpu mem o None ≡ Err TooLarge
    by None = refl
    by (Some h) = refl
