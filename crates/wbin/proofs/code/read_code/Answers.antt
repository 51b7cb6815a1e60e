use Rattle.std.proofs.Common.{map, drop, refl, arith}
use Rattle.std.proofs.lemmas.Result.{err_from_is_err_and}
use Rattle.wcode.specs.Grammar.{end}
use Rattle.wcode.proofs.BlockLists.{blocks_spell}
use Rattle.wmodule.specs.declared.module.FunctionCode.{FunctionCode}
use Rattle.wbin.specs.inside.Reading.{Reads}
use Rattle.wbin.specs.inside.Codes.{ReadsCode}
use Rattle.wbin.proofs.CodeContents.{not_filled, body_missing}
use Rattle.wbin.proofs.Places.{code_filled}
use Rattle.wbin.proofs.code.read_code.Goals as goal

pub returns-then-end-bytes : goal.returns-then-end-bytes
unfolding Reads ReadsCode
returns-then-end-bytes c = λ m.
    (let a = c.in_ok-locals in
    let b = c.in_ok-blocks in
    let bytes = c.args.bytes.now in
    not_filled bytes c.args.at b.end (map (λ r. (r.count, r.value)) a.locals.items, b.ensures.found.0) (omega (arith, c.if-end-bytes.true, b.ensures.end.1))
    (drop a.begin bytes, a.ensures.1, blocks_spell bytes 256 end (drop a.begin bytes) b.ensures.found.0 (drop b.end bytes) b.blocks.items b.ensures.found.1))

pub returns : goal.returns
unfolding Reads ReadsCode
returns c =
    let a = c.in_ok-locals in
    let b = c.in_ok-blocks in
    let code : FunctionCode = record { locals = a.locals; body = record { begin = a.begin; end = b.end }; blocks = b.blocks } in
    code_filled c.args.bytes.now c.args.at b.end code b.ensures.found.0 refl (omega (arith, c.if-end-bytes.false)) b.ensures.end.1 b.ensures.end.0 a.ensures.1 b.ensures.found.1

pub returns-in_err-blocks : goal.returns-in_err-blocks
unfolding Reads ReadsCode
returns-in_err-blocks c =
    let p = err_from_is_err_and c.from_residual-in_err-blocks.result c.from_residual-in_err-blocks.ensures.1 in
    rw (p.1, p.2) (λ m. body_missing c.args.bytes.now c.args.at c.in_ok-locals.begin (map (λ r. (r.count, r.value)) c.in_ok-locals.locals.items) c.in_ok-locals.ensures.1 (c.in_err-blocks.ensures.none m))

pub returns-in_err-locals : goal.returns-in_err-locals
unfolding Reads ReadsCode
returns-in_err-locals c =
    let p = err_from_is_err_and c.from_residual.result c.from_residual.ensures.1 in
    rw (p.1, p.2) (λ m code f. c.in_err-locals.ensures m f.runs f.body f.runs_spelled)
