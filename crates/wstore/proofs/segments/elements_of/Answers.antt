use Rattle.std.proofs.Common.{◌≡◌, ◌<◌, ◌∙◌, length, get_or, sym, ap, subst, arith}
use Rattle.std.proofs.lemmas.List.{length-map}
use Rattle.wmodule.specs.declared.module.Tables.{Tables}
use Rattle.wmodule.specs.declared.module.ElementSegment.{ElementSegment}
use Rattle.wmodule.specs.Placed.{Stands, IsElement}
use Rattle.wmodule.specs.Syntax.{ElementSyntax, element_in}
use Rattle.wstore.specs.Segments.{offset_of}
use Rattle.wstore.proofs.Found.{seen_at}
use Rattle.wstore.proofs.segments.elements_of.Goals as goal

pub offset_at-requires : goal.offset_at-requires
offset_at-requires c =
    let p = c.args.decoded.now in
    let stands : Stands p.bytes p.tables = subst (Stands p.bytes) c.tables.ensures.tables c.tables.ensures.stands in
    let within : c.args.segment < length p.tables.element_segments.items = omega (arith, c.requires, length-map p.tables.element_segments.items (element_in p.bytes)) in
    let x : ElementSegment = c.index-elements.result.now in
    let is : x ≡ get_or p.tables.element_segments.items c.args.segment x = subst (λ (t : Tables). x ≡ get_or t.element_segments.items c.args.segment x) c.tables.ensures.tables c.index-elements.ensures in
    subst (IsElement p.bytes) (sym is) (stands.places.elements c.args.segment x within)

pub returns-clause-at : goal.returns-clause-at
returns-clause-at c s there =
    let p = c.args.decoded.now in
    let x : ElementSegment = c.index-elements.result.now in
    let is : x ≡ get_or p.tables.element_segments.items c.args.segment x = subst (λ (t : Tables). x ≡ get_or t.element_segments.items c.args.segment x) c.tables.ensures.tables c.index-elements.ensures in
    c.offset_at.ensures ∙ ap (λ (e : ElementSyntax). offset_of e.offset) (seen_at (element_in p.bytes) p.tables.element_segments.items c.args.segment x s c.requires is there)

pub returns-clause-functions : goal.returns-clause-functions
returns-clause-functions c s there =
    let p = c.args.decoded.now in
    let x : ElementSegment = c.index-elements.result.now in
    let is : x ≡ get_or p.tables.element_segments.items c.args.segment x = subst (λ (t : Tables). x ≡ get_or t.element_segments.items c.args.segment x) c.tables.ensures.tables c.index-elements.ensures in
    c.as_slice.ensures.value ∙ ap (λ (e : ElementSyntax). e.functions) (seen_at (element_in p.bytes) p.tables.element_segments.items c.args.segment x s c.requires is there)
