use Rattle.std.proofs.Common.{sym}
use Rattle.quant.proofs.RequestLemmas.{request_of_own, request_of-cpu, request_of-mem}
use Rattle.quant.proofs.amount.Request.new.Goals.{then-cpu-gt-MAX_CPU-via-then-cpu-gt-MAX_CPU, then-cpu-gt-MAX_CPU-via-else-cpu-gt-MAX_CPU+then-mem-gt-MAX_MEM}
use Rattle.quant.proofs.amount.Request.new.Goals as goal

pub returns-then-cpu-gt-MAX_CPU-clause-value : goal.returns-then-cpu-gt-MAX_CPU-clause-value
returns-then-cpu-gt-MAX_CPU-clause-value c =
    elim c.then-cpu-gt-MAX_CPU.branch [
      | then-cpu-gt-MAX_CPU-via-then-cpu-gt-MAX_CPU w ↦ sym (request_of-cpu c.args.cpu c.args.mem w.if-cpu-gt-MAX_CPU.true)
      | then-cpu-gt-MAX_CPU-via-else-cpu-gt-MAX_CPU+then-mem-gt-MAX_MEM w ↦ sym (request_of-mem c.args.cpu c.args.mem w.if-mem-gt-MAX_MEM.true)
    ]

pub returns-clause-value : goal.returns-clause-value
returns-clause-value c = sym (request_of_own _)
