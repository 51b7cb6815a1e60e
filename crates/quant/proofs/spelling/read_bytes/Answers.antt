use Rattle.quant.proofs.GrammarLemmas.{bytes_grammar}
use Rattle.quant.proofs.spelling.read_bytes.Goals as goal

pub returns-in_err-count-clause-grammar : goal.returns-in_err-count-clause-grammar
returns-in_err-count-clause-grammar c = bytes_grammar c.args.text.now

pub returns-in_default-clause-grammar : goal.returns-in_default-clause-grammar
returns-in_default-clause-grammar c = bytes_grammar c.args.text.now

pub returns-in_default-checked_mul-clause-grammar : goal.returns-in_default-checked_mul-clause-grammar
returns-in_default-checked_mul-clause-grammar c = bytes_grammar c.args.text.now

pub returns-in_default-checked_mul-2-clause-grammar : goal.returns-in_default-checked_mul-2-clause-grammar
returns-in_default-checked_mul-2-clause-grammar c = bytes_grammar c.args.text.now

pub returns-in-Some-checked_mul-clause-grammar : goal.returns-in-Some-checked_mul-clause-grammar
returns-in-Some-checked_mul-clause-grammar c = bytes_grammar c.args.text.now
