-- The link is written, and what else it has stays.
use Rattle.std.proofs.Common.{◌≡◌, ◌<◌, length, get_or, ap, arith}
use Rattle.std.proofs.lemmas.List.{get_or_read}
use Rattle.name_table.specs.declared.links.Link.{Link}
use Rattle.name_table.specs.inside.Written.{first_link}
use Rattle.name_table.proofs.WrittenLemmas.{next_many, next_set}
use Rattle.name_table.proofs.links.Links.set_next.Goals as goal

pub write_up_to-requires-clause-few : goal.write_up_to-requires-clause-few
write_up_to-requires-clause-few c =
    let many = next_many c.self.inside.free c.self.inside.written.items c.self.inside.room c.args.self.now c.self.view_is in
    let few = c.self.invariant.0 in
    omega arith

pub write_up_to-requires-clause-room : goal.write_up_to-requires-clause-room
write_up_to-requires-clause-room c =
    let many = next_many c.self.inside.free c.self.inside.written.items c.self.inside.room c.args.self.now c.self.view_is in
    let room = c.self.invariant.1 in
    omega arith

pub returns : goal.returns
returns c =
    let s = c.self.inside in
    let slot = c.args.slot in
    let many = next_many s.free s.written.items s.room c.args.self.now c.self.view_is in
    let v = c.write_up_to.new.written in
    let long = v.ok.0 in
    let there = c.write_up_to.ensures.there in
    let lt : slot < length v.items = omega arith in
    let read : c.index_mut.result.now ≡ get_or v.items slot (first_link s.free slot) = get_or_read v.items slot c.index_mut.result.now lt c.index_mut.ensures.value (first_link s.free slot) in
    next_set s.free s.written.items s.room c.args.self.now c.self.view_is slot v.items (record { next = c.args.next; home = c.index_mut.result.now.home }) lt c.write_up_to.ensures.same (omega arith) (ap (λ (p : Link). p.home) read)
