-- A link that was never written is the first.
use Rattle.std.proofs.Common.{◌<◌, get_or, ap, ◌∙◌, arith, rules}
use Rattle.name_table.specs.declared.links.Link.{Link}
use Rattle.name_table.specs.inside.Written.{first_link}
use Rattle.name_table.proofs.WrittenLemmas.{next_many, next_read}
use Rattle.name_table.proofs.links.Links.next.Goals as goal

pub overflow_cast-result : goal.overflow_cast-result
overflow_cast-result c =
    let many = next_many c.self.inside.free c.self.inside.written.items c.self.inside.room c.args.self.now c.self.view_is in
    let few = c.self.invariant.0 in
    let room : c.args.slot < 1000000 = omega arith in
    search rules

pub overflow_add-result : goal.overflow_add-result
overflow_add-result c =
    let many = next_many c.self.inside.free c.self.inside.written.items c.self.inside.room c.args.self.now c.self.view_is in
    let few = c.self.invariant.0 in
    let room : c.args.slot < 1000000 = omega arith in
    search rules

pub returns-in-Some : goal.returns-in-Some
returns-in-Some c =
    let first = first_link c.self.inside.free c.args.slot in
    ap (λ (p : Link). p.next) (c.in-Some.ensures.lookup.4 (omega arith) first) ∙ ap (λ ws. (get_or ws c.args.slot first).next) c.deref.ensures.value
    ∙ next_read c.self.inside.free c.self.inside.written.items c.self.inside.room c.args.self.now c.self.view_is c.args.slot c.requires

pub returns-in-None : goal.returns-in-None
returns-in-None c =
    let first = first_link c.self.inside.free c.args.slot in
    ap (λ (p : Link). p.next) (c.in-None.ensures.lookup.4 (omega arith) first) ∙ ap (λ ws. (get_or ws c.args.slot first).next) c.deref.ensures.value
    ∙ next_read c.self.inside.free c.self.inside.written.items c.self.inside.room c.args.self.now c.self.view_is c.args.slot c.requires
