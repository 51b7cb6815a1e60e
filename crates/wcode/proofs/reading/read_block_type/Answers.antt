use Rattle.std.proofs.Common.{◌+◌, ◌∷◌, drop, ap, ◌∙◌, arith}
use Rattle.leb.proofs.Digits.{at_place}
use Rattle.wcode.proofs.Words.{no_block_type}
use Rattle.wcode.proofs.reading.read_block_type.Goals as goal

pub returns-in-64-clause-found : goal.returns-in-64-clause-found
returns-in-64-clause-found c =
    at_place c.args.bytes.now c.args.at (omega arith) ∙ ap (λ b. b ∷ drop (c.args.at + 1) c.args.bytes.now) c.in-64.is

pub returns-in-127-clause-found : goal.returns-in-127-clause-found
returns-in-127-clause-found c =
    at_place c.args.bytes.now c.args.at (omega arith) ∙ ap (λ b. b ∷ drop (c.args.at + 1) c.args.bytes.now) c.in-127.is

pub returns-in-126-clause-found : goal.returns-in-126-clause-found
returns-in-126-clause-found c =
    at_place c.args.bytes.now c.args.at (omega arith) ∙ ap (λ b. b ∷ drop (c.args.at + 1) c.args.bytes.now) c.in-126.is

pub returns-in-125-clause-none : goal.returns-in-125-clause-none
returns-in-125-clause-none c = no_block_type c.args.bytes.now c.args.at (omega arith) (λ e. omega arith) (λ e. omega arith) (λ e. omega arith)

pub returns-in_default-clause-none : goal.returns-in_default-clause-none
returns-in_default-clause-none c = no_block_type c.args.bytes.now c.args.at (omega arith) (λ e. omega arith) (λ e. omega arith) (λ e. omega arith)
