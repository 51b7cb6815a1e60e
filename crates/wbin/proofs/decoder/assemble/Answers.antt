use Rattle.std.proofs.Common.{◌≡◌, map, length, subst, arith}
use Rattle.std.proofs.lemmas.List.{map-id}
use Rattle.std.proofs.lemmas.Result.{err_from_is_err_and}
use Rattle.wcode.specs.Grammar.{SpellsIndex}
use Rattle.wmodule.specs.Grammar.{Lists, Starts, contents_of, SpellsFunctionType, SpellsImport, SpellsTableType, SpellsLimits, SpellsGlobal, SpellsExport, SpellsElement, SpellsData, SpellsCode}
use Rattle.wbin.specs.inside.Outline.{section_of}
use Rattle.wbin.specs.inside.Decoded.{ReadsWhole, AssemblesTo}
use Rattle.wbin.proofs.Modules.{functions_listed, counts_differ, not_read, faulty}
use Rattle.wbin.proofs.decoder.assemble.Goals as goal

-- ---- what isn't read

pub returns-in_err-types : goal.returns-in_err-types
unfolding ReadsWhole
returns-in_err-types c =
    let sections = map (section_of c.args.bytes.now) c.args.sections.now in
    let p = err_from_is_err_and c.from_residual.result c.from_residual.ensures.1 in
    not_read (Lists SpellsFunctionType (contents_of 1 sections)) c.args.bytes.now sections c.args.fault c.from_residual.result c.in_err-types.field-0.0 p.0 p.1 p.2 c.in_err-types.ensures.read (λ m a. (m.types, a.types))

pub returns-in_err-imports : goal.returns-in_err-imports
unfolding ReadsWhole
returns-in_err-imports c =
    let sections = map (section_of c.args.bytes.now) c.args.sections.now in
    let p = err_from_is_err_and c.from_residual-in_err-imports.result c.from_residual-in_err-imports.ensures.1 in
    not_read (Lists SpellsImport (contents_of 2 sections)) c.args.bytes.now sections c.args.fault c.from_residual-in_err-imports.result c.in_err-imports.field-0.0 p.0 p.1 p.2 c.in_err-imports.ensures.read (λ m a. (m.imports, a.imports))

pub returns-in_err-signatures : goal.returns-in_err-signatures
unfolding ReadsWhole
returns-in_err-signatures c =
    let sections = map (section_of c.args.bytes.now) c.args.sections.now in
    let p = err_from_is_err_and c.from_residual-in_err-signatures.result c.from_residual-in_err-signatures.ensures.1 in
    not_read (Lists SpellsIndex (contents_of 3 sections)) c.args.bytes.now sections c.args.fault c.from_residual-in_err-signatures.result c.in_err-signatures.field-0.0 p.0 p.1 p.2 c.in_err-signatures.ensures.read (λ m a. (a.functions.indices, a.functions.types_listed))

pub returns-in_err-tables : goal.returns-in_err-tables
unfolding ReadsWhole
returns-in_err-tables c =
    let sections = map (section_of c.args.bytes.now) c.args.sections.now in
    let p = err_from_is_err_and c.from_residual-in_err-tables.result c.from_residual-in_err-tables.ensures.1 in
    not_read (Lists SpellsTableType (contents_of 4 sections)) c.args.bytes.now sections c.args.fault c.from_residual-in_err-tables.result c.in_err-tables.field-0.0 p.0 p.1 p.2 c.in_err-tables.ensures.read (λ m a. (m.tables, a.tables))

pub returns-in_err-memories : goal.returns-in_err-memories
unfolding ReadsWhole
returns-in_err-memories c =
    let sections = map (section_of c.args.bytes.now) c.args.sections.now in
    let p = err_from_is_err_and c.from_residual-in_err-memories.result c.from_residual-in_err-memories.ensures.1 in
    not_read (Lists SpellsLimits (contents_of 5 sections)) c.args.bytes.now sections c.args.fault c.from_residual-in_err-memories.result c.in_err-memories.field-0.0 p.0 p.1 p.2 c.in_err-memories.ensures.read (λ m a. (m.memories, a.memories))

pub returns-in_err-globals : goal.returns-in_err-globals
unfolding ReadsWhole
returns-in_err-globals c =
    let sections = map (section_of c.args.bytes.now) c.args.sections.now in
    let p = err_from_is_err_and c.from_residual-in_err-globals.result c.from_residual-in_err-globals.ensures.1 in
    not_read (Lists SpellsGlobal (contents_of 6 sections)) c.args.bytes.now sections c.args.fault c.from_residual-in_err-globals.result c.in_err-globals.field-0.0 p.0 p.1 p.2 c.in_err-globals.ensures.read (λ m a. (m.globals, a.globals))

pub returns-in_err-exports : goal.returns-in_err-exports
unfolding ReadsWhole
returns-in_err-exports c =
    let sections = map (section_of c.args.bytes.now) c.args.sections.now in
    let p = err_from_is_err_and c.from_residual-in_err-exports.result c.from_residual-in_err-exports.ensures.1 in
    not_read (Lists SpellsExport (contents_of 7 sections)) c.args.bytes.now sections c.args.fault c.from_residual-in_err-exports.result c.in_err-exports.field-0.0 p.0 p.1 p.2 c.in_err-exports.ensures.read (λ m a. (m.exports, a.exports))

pub returns-in_err-start : goal.returns-in_err-start
unfolding ReadsWhole
returns-in_err-start c =
    let sections = map (section_of c.args.bytes.now) c.args.sections.now in
    let p = err_from_is_err_and c.from_residual-in_err-start.result c.from_residual-in_err-start.ensures.1 in
    not_read (Starts (contents_of 8 sections)) c.args.bytes.now sections c.args.fault c.from_residual-in_err-start.result c.in_err-start.field-0.0 p.0 p.1 p.2 c.in_err-start.ensures (λ m a. (m.start, a.start))

pub returns-in_err-element_segments : goal.returns-in_err-element_segments
unfolding ReadsWhole
returns-in_err-element_segments c =
    let sections = map (section_of c.args.bytes.now) c.args.sections.now in
    let p = err_from_is_err_and c.from_residual-in_err-element_segments.result c.from_residual-in_err-element_segments.ensures.1 in
    not_read (Lists SpellsElement (contents_of 9 sections)) c.args.bytes.now sections c.args.fault c.from_residual-in_err-element_segments.result c.in_err-element_segments.field-0.0 p.0 p.1 p.2 c.in_err-element_segments.ensures.read (λ m a. (m.element_segments, a.element_segments))

pub returns-in_err-codes : goal.returns-in_err-codes
unfolding ReadsWhole
returns-in_err-codes c =
    let sections = map (section_of c.args.bytes.now) c.args.sections.now in
    let p = err_from_is_err_and c.from_residual-in_err-codes.result c.from_residual-in_err-codes.ensures.1 in
    not_read (Lists SpellsCode (contents_of 10 sections)) c.args.bytes.now sections c.args.fault c.from_residual-in_err-codes.result c.in_err-codes.field-0.0 p.0 p.1 p.2 c.in_err-codes.ensures.read (λ m a. (a.functions.bodies, a.functions.bodies_listed))

pub returns-in_err-data_segments : goal.returns-in_err-data_segments
unfolding ReadsWhole
returns-in_err-data_segments c =
    let sections = map (section_of c.args.bytes.now) c.args.sections.now in
    let p = err_from_is_err_and c.from_residual-in_err-data_segments.result c.from_residual-in_err-data_segments.ensures.1 in
    not_read (Lists SpellsData (contents_of 11 sections)) c.args.bytes.now sections c.args.fault c.from_residual-in_err-data_segments.result c.in_err-data_segments.field-0.0 p.0 p.1 p.2 c.in_err-data_segments.ensures.read (λ m a. (m.data_segments, a.data_segments))

pub returns-in-Some : goal.returns-in-Some
returns-in-Some c = faulty c.args.bytes.now (map (section_of c.args.bytes.now) c.args.sections.now) c.args.fault c.in-Some.fault c.in-Some.is

-- ---- what is read

pub returns-then-len : goal.returns-then-len
unfolding ReadsWhole AssemblesTo
returns-then-len c = λ n f m a.
    (let sections = map (section_of c.args.bytes.now) c.args.sections.now in
    let s = c.in_ok-signatures.signatures in
    let b = c.in_ok-codes.codes in
    counts_differ (contents_of 3 sections) (contents_of 10 sections) c.args.bytes.now s.items b.items c.in_ok-signatures.ensures.read c.in_ok-codes.ensures.read
    (λ e. omega (arith, e, c.len.ensures, c.len-2.ensures, s.ok.0, b.ok.0, c.if-len.true)) m.functions a.functions)

pub returns : goal.returns
unfolding ReadsWhole AssemblesTo
returns c =
    let sections = map (section_of c.args.bytes.now) c.args.sections.now in
    let s = c.in_ok-signatures.signatures in
    let b = c.in_ok-codes.codes in
    let l : length s.items ≡ length b.items = omega (arith, c.len.ensures, c.len-2.ensures, s.ok.0, b.ok.0, c.if-len.false) in (
      c.in-None.is,
      record {
        types = c.in_ok-types.ensures.read;
        imports = c.in_ok-imports.ensures.read;
        functions = functions_listed (contents_of 3 sections) (contents_of 10 sections) c.args.bytes.now s.items b.items c.in_ok-signatures.ensures.read c.in_ok-codes.ensures.read l;
        tables = subst (λ x. Lists SpellsTableType (contents_of 4 sections) x) (map-id c.in_ok-tables.tables.items) c.in_ok-tables.ensures.read;
        memories = subst (λ x. Lists SpellsLimits (contents_of 5 sections) x) (map-id c.in_ok-memories.memories.items) c.in_ok-memories.ensures.read;
        globals = c.in_ok-globals.ensures.read;
        exports = c.in_ok-exports.ensures.read;
        start = c.in_ok-start.ensures;
        element_segments = c.in_ok-element_segments.ensures.read;
        data_segments = c.in_ok-data_segments.ensures.read;
      },
      record {
        as_many = l;
        codes = c.in_ok-codes.ensures.placed;
        globals = c.in_ok-globals.ensures.placed;
        elements = c.in_ok-element_segments.ensures.placed;
        datas = c.in_ok-data_segments.ensures.placed;
      },
    )
