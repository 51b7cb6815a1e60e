-- The chain of the name's bucket has each slot that may have the name.
use Rattle.name_table.proofs.TableLemmas.{found_by}
use Rattle.name_table.proofs.table.NameTable.find.Goals as goal

pub returns-clause-slot : goal.returns-clause-slot
returns-clause-slot g c =
    (
    found_by c.self.inside.keys c.self.inside.mask c.self.inside.chains c.self.inside.entries c.args.self.now c.self.inside.len c.self.view_is c.self.invariant c.args.name.now c.find_from.result
    c.bucket-bucket.result c.bucket-bucket.ensures.bucket c.get.result c.get.ensures c.find_from.ensures.found c.find_from.ensures.none
    ).slot

pub returns-clause-there : goal.returns-clause-there
returns-clause-there g c =
    (
    found_by c.self.inside.keys c.self.inside.mask c.self.inside.chains c.self.inside.entries c.args.self.now c.self.inside.len c.self.view_is c.self.invariant c.args.name.now c.find_from.result
    c.bucket-bucket.result c.bucket-bucket.ensures.bucket c.get.result c.get.ensures c.find_from.ensures.found c.find_from.ensures.none
    ).there

pub returns-clause-value : goal.returns-clause-value
returns-clause-value g c =
    (
    found_by c.self.inside.keys c.self.inside.mask c.self.inside.chains c.self.inside.entries c.args.self.now c.self.inside.len c.self.view_is c.self.invariant c.args.name.now c.find_from.result
    c.bucket-bucket.result c.bucket-bucket.ensures.bucket c.get.result c.get.ensures c.find_from.ensures.found c.find_from.ensures.none
    ).value
