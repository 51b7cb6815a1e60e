use Rattle.std.proofs.Common.{arith}
use Rattle.std.proofs.lemmas.Grind.{common_steps}
use Rattle.quant.specs.Amount.{cpu_read}
use Rattle.quant.proofs.GrammarLemmas.{cpu_grammar}
use Rattle.quant.proofs.spelling.read_cpu.Goals as goal

pub returns-in_err-whole-clause-grammar : goal.returns-in_err-whole-clause-grammar
returns-in_err-whole-clause-grammar c = cpu_grammar c.args.text.now

pub returns-in_err-amount-in-46-clause-grammar : goal.returns-in_err-amount-in-46-clause-grammar
returns-in_err-amount-in-46-clause-grammar c = cpu_grammar c.args.text.now

pub returns-in_default-clause-grammar : goal.returns-in_default-clause-grammar
returns-in_default-clause-grammar c = cpu_grammar c.args.text.now

pub returns-in_default-2-clause-grammar : goal.returns-in_default-2-clause-grammar
returns-in_default-2-clause-grammar c = cpu_grammar c.args.text.now

pub returns-then-amount-gt-MAX_CPU-clause-grammar : goal.returns-then-amount-gt-MAX_CPU-clause-grammar
returns-then-amount-gt-MAX_CPU-clause-grammar c = cpu_grammar c.args.text.now

pub returns-clause-grammar : goal.returns-clause-grammar
returns-clause-grammar c = cpu_grammar c.args.text.now

pub returns-in_err-amount-in-46-clause-value : goal.returns-in_err-amount-in-46-clause-value
unfolding cpu_read
returns-in_err-amount-in-46-clause-value c = grind (arith, common_steps)

pub returns-then-amount-gt-MAX_CPU-clause-value : goal.returns-then-amount-gt-MAX_CPU-clause-value
unfolding cpu_read
returns-then-amount-gt-MAX_CPU-clause-value c = grind (arith, common_steps)

pub returns-clause-value : goal.returns-clause-value
unfolding cpu_read
returns-clause-value c = grind (arith, common_steps)
