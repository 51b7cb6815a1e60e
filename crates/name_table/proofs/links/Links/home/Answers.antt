-- A link that was never written is the first.
use Rattle.std.proofs.Common.{get_or, ap, ◌∙◌, arith}
use Rattle.name_table.specs.declared.links.Link.{Link}
use Rattle.name_table.specs.inside.Written.{first_link}
use Rattle.name_table.proofs.WrittenLemmas.{home_read}
use Rattle.name_table.proofs.links.Links.home.Goals as goal

pub returns-in-Some : goal.returns-in-Some
returns-in-Some c =
    let first = first_link c.self.inside.free c.args.slot in
    ap (λ (p : Link). p.home) (c.in-Some.ensures.lookup.4 (omega arith) first) ∙ ap (λ ws. (get_or ws c.args.slot first).home) c.deref.ensures.value
    ∙ home_read c.self.inside.free c.self.inside.written.items c.self.inside.room c.args.self.now c.self.view_is c.args.slot c.requires

pub returns-in-None : goal.returns-in-None
returns-in-None c =
    let first = first_link c.self.inside.free c.args.slot in
    ap (λ (p : Link). p.home) (c.in-None.ensures.lookup.4 (omega arith) first) ∙ ap (λ ws. (get_or ws c.args.slot first).home) c.deref.ensures.value
    ∙ home_read c.self.inside.free c.self.inside.written.items c.self.inside.room c.args.self.now c.self.view_is c.args.slot c.requires
