use Rattle.std.proofs.Common.{ℕ, List, drop, ap, ◌∙◌}
use Rattle.wcode.specs.Grammar.{table, SpellsIndex}
use Rattle.wcode.specs.Shown.{Shows}
use Rattle.wcode.specs.declared.instruction.Op.TheVariants as ops
use Rattle.wbody.specs.Context.{Operands, at_most_one}
use Rattle.wbody.specs.Typing.{ends}
use Rattle.wbody.specs.inside.Scope.{labels_of}
use Rattle.wbody.proofs.TableLabels.{Split, split_labels, first_label, table_at, shows_table, first_missing, others_differ, others_same}
use Rattle.wbody.proofs.table.table_effect.Goals as goal

-- the labels that the word has, with those behind the first one apart
labels_split : (bytes : List ℕ) (count at first next : ℕ) (labels : List ℕ) (default : ℕ) → Shows bytes (ops.BrTable count at) (table labels default) → SpellsIndex (drop at bytes) first (drop next bytes) → Split labels default first (drop next bytes)
labels_split bytes count at first next labels default h f =
    let t = table_at bytes count at labels default h in
    split_labels (drop at bytes) labels default t.last t.rest first (drop next bytes) t.spelled t.default_at f

pub read_label-first-requires-clause-stands : goal.read_label-first-requires-clause-stands
read_label-first-requires-clause-stands c =
    let bytes = c.args.bytes.now in
    let s = shows_table bytes c.args.count c.args.labels_at c.requires.0 c.requires.1 in
    let t = table_at bytes c.args.count c.args.labels_at s.labels s.default s.shown in
    first_label (drop c.args.labels_at bytes) s.labels s.default t.last t.rest t.spelled t.default_at

pub all_carry-requires : goal.all_carry-requires
all_carry-requires c =
    let bytes = c.args.bytes.now in
    let s = shows_table bytes c.args.count c.args.labels_at c.requires.0 c.requires.1 in
    let t = table_at bytes c.args.count c.args.labels_at s.labels s.default s.shown in
    let p = labels_split bytes c.args.count c.args.labels_at c.read_label-first.result.0 c.read_label-first.result.1 s.labels s.default s.shown c.read_label-first.ensures.label in
    (c.read_label-first.ensures.end, p.others, p.rest, t.counted ∙ p.counted, p.spelled)

pub returns-in_default : goal.returns-in_default
returns-in_default c c' labels default h is =
    let bytes = c.args.bytes.now in
    let first = c.read_label-first.result.0 in
    let next = c.read_label-first.result.1 in
    let p = labels_split bytes c.args.count c.args.labels_at first next labels default h c.read_label-first.ensures.label in
    first_missing c' (labels_of c.args.levels.now c.args.scope.now.result) labels default first (drop next bytes) p is c.in_default.ensures

pub returns-then-all_carry : goal.returns-then-all_carry
returns-then-all_carry c c' labels default h is =
    let bytes = c.args.bytes.now in
    let first = c.read_label-first.result.0 in
    let next = c.read_label-first.result.1 in
    let p = labels_split bytes c.args.count c.args.labels_at first next labels default h c.read_label-first.ensures.label in
    let t = table_at bytes c.args.count c.args.labels_at labels default h in
    ap (λ (l : Operands). ends l) c.with_index.ensures
    ∙ others_same c' (labels_of c.args.levels.now c.args.scope.now.result) (at_most_one c.in-Some.carried) labels default first (drop next bytes) p is c.in-Some.ensures (c.if-all_carry.ensures p.others p.rest (t.counted ∙ p.counted) p.spelled)

pub returns-else-all_carry : goal.returns-else-all_carry
returns-else-all_carry c c' labels default h is =
    let bytes = c.args.bytes.now in
    let first = c.read_label-first.result.0 in
    let next = c.read_label-first.result.1 in
    let p = labels_split bytes c.args.count c.args.labels_at first next labels default h c.read_label-first.ensures.label in
    let t = table_at bytes c.args.count c.args.labels_at labels default h in
    others_differ c' (labels_of c.args.levels.now c.args.scope.now.result) (at_most_one c.in-Some.carried) labels default first (drop next bytes) p is c.in-Some.ensures (c.if-all_carry.ensures p.others p.rest (t.counted ∙ p.counted) p.spelled)
