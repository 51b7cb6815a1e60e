use Rattle.std.proofs.Common.{◌≡◌, ℕ, List, Some, None, length, sym, ap, ◌∙◌, subst, rules, arith}
use Rattle.std.specs.Prelude.{vec_len}
use Rattle.wmodule.specs.declared.module.Tables.{Tables}
use Rattle.wtype.specs.Accepted.{host_number}
use Rattle.wmach.proofs.Recorded.{SoFar, none_yet, name_in, names_in, has_record, one_more, all_of}
use Rattle.wmach.proofs.records.records_of.Goals as goal

pub loop-place-preserved : goal.loop-place-preserved
loop-place-preserved c =
    let named : host_number (name_in c.import_at-import.result.now) ≡ Some c.in-Some.record = ap host_number (names_in c.import_at-import.result.now _ _ c.as_slice.ensures.value c.as_slice-in-loop-place.ensures.value) ∙ c.host_number.ensures ∙ c.in-Some.is in
    one_more c.args.decoded.now c.loop-place.records.items _ c.in-Some.record c.loop-place.place c.import_at-import.result.now c.loop-place.invariant c.import_at-import.ensures named c.in-Ok-push.ensures.items

pub returns : goal.returns
returns c =
    let p = c.args.decoded.now in
    let count = c.len-count.ensures ∙ ap (λ (t : Tables). vec_len t.imports) c.tables.ensures.tables in
    let all : c.loop-place.place ≡ length p.tables.imports.items = omega (arith, count, c.loop-place-test.false, c.loop-place.auto.place-end) in
    all_of p _ c.requires (subst (λ n. SoFar p c.loop-place.records.items n) all c.loop-place.invariant)

pub unreachable-requires : goal.unreachable-requires
unreachable-requires c =
    let none : c.host_number.result ≡ None = search rules in
    has_record c.args.decoded.now c.requires c.loop-place.place c.import_at-import.result.now c.import_at-import.ensures (ap host_number (names_in c.import_at-import.result.now _ _ c.as_slice.ensures.value c.as_slice-in-loop-place.ensures.value) ∙ c.host_number.ensures ∙ none)

pub loop-place-init : goal.loop-place-init
loop-place-init c = subst (λ (l : List ℕ). SoFar c.args.decoded.now l 0) (sym c.in-Ok.ensures.items) (none_yet c.args.decoded.now)
