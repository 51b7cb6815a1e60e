use Rattle.std.proofs.Common.{map, subst, sym}
use Rattle.std.proofs.lemmas.Result.{err_from_is_err_and}
use Rattle.wbin.specs.inside.Outline.{section_of, OutlinesUpTo}
use Rattle.wbin.proofs.Modules.{decoded_tables, decoded_none}
use Rattle.wbin.proofs.decoder.read_tables.Goals as goal

pub returns-in_err-check_header-clause-none : goal.returns-in_err-check_header-clause-none
returns-in_err-check_header-clause-none c =
    let p = err_from_is_err_and c.from_residual.result c.from_residual.ensures.1 in
    rw (p.1, p.2) (λ n m h. c.in_err-check_header.ensures.none h.short h.rest h.headed)

pub returns-clause-tables : goal.returns-clause-tables
returns-clause-tables c =
    let b = c.args.bytes.now in
    let f = c.in-Ok.found in
    let o = subst (λ l. OutlinesUpTo b 8 (map (section_of b) l) f.fault) (sym c.as_slice.ensures.value) c.in-Ok.ensures.1 in
    decoded_tables b (map (section_of b) c.as_slice.result.now) f.fault c.assemble.result c.in_ok-check_header.ensures.short c.in_ok-check_header.ensures.headed o c.assemble.ensures

pub returns-clause-none : goal.returns-clause-none
returns-clause-none c =
    let b = c.args.bytes.now in
    let f = c.in-Ok.found in
    let o = subst (λ l. OutlinesUpTo b 8 (map (section_of b) l) f.fault) (sym c.as_slice.ensures.value) c.in-Ok.ensures.1 in
    decoded_none b (map (section_of b) c.as_slice.result.now) f.fault c.assemble.result o c.assemble.ensures
