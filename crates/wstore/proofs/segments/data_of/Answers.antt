use Rattle.std.proofs.Common.{◌≡◌, ◌<◌, ◌∙◌, length, get_or, sym, ap, subst, arith}
use Rattle.std.proofs.lemmas.List.{length-map}
use Rattle.wmodule.specs.declared.module.Tables.{Tables}
use Rattle.wmodule.specs.declared.module.DataSegment.{DataSegment}
use Rattle.wmodule.specs.Placed.{Stands, IsData}
use Rattle.wmodule.specs.Syntax.{DataSyntax, data_in}
use Rattle.wstore.specs.Segments.{offset_of}
use Rattle.wstore.proofs.Found.{seen_at}
use Rattle.wstore.proofs.segments.data_of.Goals as goal

pub offset_at-requires : goal.offset_at-requires
offset_at-requires c =
    let p = c.args.decoded.now in
    let stands : Stands p.bytes p.tables = subst (Stands p.bytes) c.tables.ensures.tables c.tables.ensures.stands in
    let within : c.args.segment < length p.tables.data_segments.items = omega (arith, c.requires, length-map p.tables.data_segments.items (data_in p.bytes)) in
    let x : DataSegment = c.index-data.result.now in
    let is : x ≡ get_or p.tables.data_segments.items c.args.segment x = subst (λ (t : Tables). x ≡ get_or t.data_segments.items c.args.segment x) c.tables.ensures.tables c.index-data.ensures in
    (subst (IsData p.bytes) (sym is) (stands.places.datas c.args.segment x within)).0

pub returns-clause-at : goal.returns-clause-at
returns-clause-at c s there =
    let p = c.args.decoded.now in
    let x : DataSegment = c.index-data.result.now in
    let is : x ≡ get_or p.tables.data_segments.items c.args.segment x = subst (λ (t : Tables). x ≡ get_or t.data_segments.items c.args.segment x) c.tables.ensures.tables c.index-data.ensures in
    c.offset_at.ensures ∙ ap (λ (d : DataSyntax). offset_of d.offset) (seen_at (data_in p.bytes) p.tables.data_segments.items c.args.segment x s c.requires is there)
