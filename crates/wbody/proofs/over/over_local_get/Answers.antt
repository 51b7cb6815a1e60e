use Rattle.std.proofs.Common.{Some, None, slice_index}
use Rattle.wbody.proofs.KindForms.{form_get}
use Rattle.wbody.proofs.PlainWords.{get_type, get_here, over_plain, over_untyped}
use Rattle.wbody.proofs.over.over_local_get.Goals as goal

pub index_at-x-requires-clause-known : goal.index_at-x-requires-clause-known
index_at-x-requires-clause-known c = form_get _ c.requires.known

pub returns : goal.returns
returns c =
    let i = c.index_at-x in
    over_plain c.args.scope.now c.args.bytes.now c.args.at i.result.1 (get_type (Some c.in-Some.t)) c.put.result c.and.result c.args.stack.now c.put.new.self
    (get_here c.args.scope.now c.args.bytes.now c.args.at i.result.1 i.result.0 (Some c.in-Some.t) i.ensures.word i.ensures.end.0 i.ensures.end.1 c.in-Some.ensures)
    c.put.ensures c.and.ensures

pub returns-in_default : goal.returns-in_default
returns-in_default c =
    let i = c.index_at-x in
    over_untyped c.args.scope.now c.args.bytes.now c.args.at i.result.1 c.args.stack.now c.args.stack.now
    (get_here c.args.scope.now c.args.bytes.now c.args.at i.result.1 i.result.0 None i.ensures.word i.ensures.end.0 i.ensures.end.1 c.in_default.ensures)
