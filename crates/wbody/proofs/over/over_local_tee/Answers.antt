use Rattle.std.proofs.Common.{Some, None, slice_index}
use Rattle.wbody.proofs.KindForms.{form_tee}
use Rattle.wbody.proofs.PlainWords.{tee_type, tee_here, over_plain, over_untyped}
use Rattle.wbody.proofs.over.over_local_tee.Goals as goal

pub index_at-x-requires-clause-known : goal.index_at-x-requires-clause-known
index_at-x-requires-clause-known c = form_tee _ c.requires.known

pub returns : goal.returns
returns c =
    let i = c.index_at-x in
    over_plain c.args.scope.now c.args.bytes.now c.args.at i.result.1 (tee_type (Some c.in-Some.t)) c.change_one.result c.and.result c.args.stack.now c.change_one.new.self
    (tee_here c.args.scope.now c.args.bytes.now c.args.at i.result.1 i.result.0 (Some c.in-Some.t) i.ensures.word i.ensures.end.0 i.ensures.end.1 c.in-Some.ensures)
    c.change_one.ensures c.and.ensures

pub returns-in_default : goal.returns-in_default
returns-in_default c =
    let i = c.index_at-x in
    over_untyped c.args.scope.now c.args.bytes.now c.args.at i.result.1 c.args.stack.now c.args.stack.now
    (tee_here c.args.scope.now c.args.bytes.now c.args.at i.result.1 i.result.0 None i.ensures.word i.ensures.end.0 i.ensures.end.1 c.in_default.ensures)
