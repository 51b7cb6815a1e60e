use Rattle.std.proofs.Common.{◌≡◌, ◌++◌, rules}
use Rattle.watch_script.proofs.Batches.{first_faulty, second_faulty, both_read}
use Rattle.watch_script.proofs.batch.together.Goals as goal

-- the first part has a fault
pub returns-in-Some : goal.returns-in-Some
returns-in-Some c = first_faulty (λ x. x.items) c.args.lines.now c.args.mid c.args.first.steps.items c.args.first.fault c.requires.first c.in-Some.fault c.in-Some.is

-- the second part has
pub returns-in-Some-fault : goal.returns-in-Some-fault
returns-in-Some-fault c =
    second_faulty (λ x. x.items) c.args.lines.now c.args.mid c.args.first.steps.items c.args.first.fault c.requires.first c.args.second.steps.items c.args.second.fault c.requires.second c.in-None.is
    c.requires.mid c.in-Some-fault.faulty c.in-Some-fault.is

-- neither has
pub returns : goal.returns
returns c =
    let grown : c.append.new.self.items ≡ c.args.first.steps.items ++ c.args.second.steps.items = search rules in
    both_read (λ x. x.items) c.args.lines.now c.args.mid c.args.first.steps.items c.args.first.fault c.requires.first c.args.second.steps.items c.args.second.fault c.requires.second c.in-None.is
    c.append.new.self.items c.in-None-fault.is grown
