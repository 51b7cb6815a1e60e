-- The link is written.
use Rattle.std.proofs.Common.{◌<◌, length, arith}
use Rattle.name_table.proofs.WrittenLemmas.{next_many, link_set}
use Rattle.name_table.proofs.links.Links.set.Goals as goal

pub write_up_to-requires-clause-few : goal.write_up_to-requires-clause-few
write_up_to-requires-clause-few c =
    let many = next_many c.self.inside.free c.self.inside.written.items c.self.inside.room c.args.self.now c.self.view_is in
    let few = c.self.invariant.0 in
    omega arith

pub write_up_to-requires-clause-room : goal.write_up_to-requires-clause-room
write_up_to-requires-clause-room c =
    let many = next_many c.self.inside.free c.self.inside.written.items c.self.inside.room c.args.self.now c.self.view_is in
    let room = c.self.invariant.1 in
    omega arith

pub returns : goal.returns
returns c =
    let s = c.self.inside in
    let slot = c.args.slot in
    let many = next_many s.free s.written.items s.room c.args.self.now c.self.view_is in
    let v = c.write_up_to.new.written in
    let long = v.ok.0 in
    let there = c.write_up_to.ensures.there in
    let lt : slot < length v.items = omega arith in
    link_set s.free s.written.items s.room c.args.self.now c.self.view_is slot v.items (record { next = c.args.next; home = c.args.home }) lt c.write_up_to.ensures.same (omega arith)
