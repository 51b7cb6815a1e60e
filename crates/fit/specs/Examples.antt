-- The rules at worked examples.
use Rattle.std.specs.Prelude.{◌≡◌, ℕ, ◌^◌, ◌≤◌, Ok, Err}
use Rattle.std.proofs.Common.{lit≤}
use Rattle.quant.specs.declared.amount.Res.{Res}
use Rattle.quant.specs.declared.amount.Request.{Request}
use Rattle.fit.specs.declared.room.Shortage.TheVariants.{Cpu, Memory, Pods}
use Rattle.fit.specs.Fit.{fit_of}
use Rattle.fit.specs.Score.{least_allocated_score}

-- thousandths of a core, bytes and pods
abbrev pub amounts : (cpu mem pods : ℕ) → Res
amounts cpu mem pods = record { cpu = record { 0 = cpu }; mem = record { 0 = mem }; pods = pods }

-- a request of so many thousandths of a core and bytes
abbrev pub asks : (cpu mem : ℕ) → cpu ≤ 2 ^ 30 → mem ≤ 2 ^ 44 → Request
asks cpu mem few small = record { cpu = record { 0 = cpu }; mem = record { 0 = mem }; within_cpu = few; within_mem = small }

abbrev pub nothing : Res
nothing = amounts 0 0 0

-- 4 cores, 8 GiB and 110 pods
abbrev pub node_a : Res
node_a = amounts 4000 8589934592 110

-- a node with 1 core, of which 1,200 thousandths are used
abbrev pub overfull : Res
overfull = amounts 1000 8589934592 110

abbrev pub too_much : Res
too_much = amounts 1200 0 1

pub record WorkedExamples : Type 0 where
  -- a tenth of a core and 64 MiB on the empty node: 97 and 99 hundredths are left
  pub small : fit_of node_a nothing (asks 100 67108864 (lit≤ tt) (lit≤ tt)) ≡ Ok tt
  pub small_score : least_allocated_score node_a nothing (asks 100 67108864 (lit≤ tt) (lit≤ tt)) ≡ 98
  -- all of it, and more than that: CPU is told before memory
  pub exactly_full : fit_of node_a nothing (asks 4000 8589934592 (lit≤ tt) (lit≤ tt)) ≡ Ok tt
  pub no_cpu : fit_of node_a nothing (asks 4001 9663676416 (lit≤ tt) (lit≤ tt)) ≡ Err Cpu
  pub no_memory : fit_of node_a nothing (asks 4000 9663676416 (lit≤ tt) (lit≤ tt)) ≡ Err Memory
  -- one core and 1 GiB: the larger of two nodes has more left
  pub larger : least_allocated_score node_a nothing (asks 1000 1073741824 (lit≤ tt) (lit≤ tt)) ≡ 81
  pub smaller : least_allocated_score (amounts 2000 4294967296 110) nothing (asks 1000 1073741824 (lit≤ tt) (lit≤ tt)) ≡ 62
  -- more used than there is: nothing fits but nothing, and the resource scores 0
  pub asks_nothing : fit_of overfull too_much (asks 0 0 (lit≤ tt) (lit≤ tt)) ≡ Ok tt
  pub scores_half : least_allocated_score overfull too_much (asks 0 0 (lit≤ tt) (lit≤ tt)) ≡ 50
  pub asks_little : fit_of overfull too_much (asks 1 0 (lit≤ tt) (lit≤ tt)) ≡ Err Cpu
  -- as many pods as there may be
  pub no_place : fit_of (amounts 1000 1073741824 2) (amounts 0 0 2) (asks 0 0 (lit≤ tt) (lit≤ tt)) ≡ Err Pods
  pub cpu_first : fit_of (amounts 1000 1073741824 2) (amounts 0 0 2) (asks 2000 0 (lit≤ tt) (lit≤ tt)) ≡ Err Cpu
  -- nothing allocatable, and as much as 64 bits hold
  pub nothing_there : least_allocated_score nothing nothing (asks 0 0 (lit≤ tt) (lit≤ tt)) ≡ 0
  pub all_free : least_allocated_score (amounts 18446744073709551615 18446744073709551615 4294967295) nothing (asks 0 0 (lit≤ tt) (lit≤ tt)) ≡ 100
