use Rattle.std.proofs.Common.{◌+◌, ap, sym, ◌∙◌, arith}
use Rattle.std.specs.FinMap as fin
use Rattle.quant.specs.declared.amount.Res.{Res}
use Rattle.name_table.specs.Slots.{map_of}
use Rattle.book.specs.inside.Totals.{total_at, plus, one_pod, pods_in, idle_in}
use Rattle.book.proofs.TotalLemmas.{total_here, total_added, total_found, total_none, few_totals, idle_again, pods_again, pods_new, nothing_plus}
use Rattle.book.proofs.places.add.Goals as goal

-- there are no more totals than pods
pub insert-requires-clause-room : goal.insert-requires-clause-room
insert-requires-clause-room c = omega (arith, few_totals (map_of c.args.totals.now) c.requires.in_use, c.requires.room)

-- the node has a total, which grows
pub returns-in-Some-clause-each : goal.returns-in-Some-clause-each
returns-in-Some-clause-each c other =
    let t = map_of c.args.totals.now in
    let had = c.value_at-had.ensures.by_name c.args.node.now c.in-Some.ensures.name in
    ap (λ n. total_at n other) (c.replace_at.ensures.map c.args.node.now c.in-Some.ensures.name)
    ∙ total_added t c.args.node.now _ c.args.request.now (sym (ap (λ r. plus r (one_pod c.args.request.now)) (total_found t c.args.node.now _ had))) other

pub returns-in-Some-clause-now : goal.returns-in-Some-clause-now
returns-in-Some-clause-now c =
    sym (ap (λ n. total_at n c.args.node.now) (c.replace_at.ensures.map c.args.node.now c.in-Some.ensures.name) ∙ total_here (map_of c.args.totals.now) c.args.node.now _)

pub returns-in-Some-clause-pods : goal.returns-in-Some-clause-pods
returns-in-Some-clause-pods c =
    let t = map_of c.args.totals.now in
    let had = c.value_at-had.ensures.by_name c.args.node.now c.in-Some.ensures.name in
    let now = ap pods_in (c.replace_at.ensures.map c.args.node.now c.in-Some.ensures.name) in
    let had_now = c.value_at-had.result.now in
    let more : Res = record { cpu = record { 0 = had_now.cpu.0 + c.args.request.now.cpu.0 }; mem = record { 0 = had_now.mem.0 + c.args.request.now.mem.0 }; pods = had_now.pods + 1 } in
    omega (arith, now, pods_again t c.args.node.now more had_now had)

pub returns-in-Some-clause-in_use : goal.returns-in-Some-clause-in_use
returns-in-Some-clause-in_use c =
    ap idle_in (c.replace_at.ensures.map c.args.node.now c.in-Some.ensures.name) ∙ idle_again (map_of c.args.totals.now) c.args.node.now _ (omega arith) c.requires.in_use

-- the node has none, and the pod is its first
pub returns-in-None-clause-each : goal.returns-in-None-clause-each
returns-in-None-clause-each c other =
    let t = map_of c.args.totals.now in
    let none = c.in-None.ensures.value in
    ap (λ n. total_at n other) (c.insert.ensures.map ∙ ap (λ k. fin.insert t k (one_pod c.args.request.now)) c.copied.ensures)
    ∙ total_added t c.args.node.now (one_pod c.args.request.now) c.args.request.now (sym (ap (λ r. plus r (one_pod c.args.request.now)) (total_none t c.args.node.now none) ∙ nothing_plus _)) other

pub returns-in-None-clause-now : goal.returns-in-None-clause-now
returns-in-None-clause-now c =
    let t = map_of c.args.totals.now in
    sym (ap (λ n. total_at n c.args.node.now) (c.insert.ensures.map ∙ ap (λ k. fin.insert t k (one_pod c.args.request.now)) c.copied.ensures) ∙ total_here t c.args.node.now (one_pod c.args.request.now))

pub returns-in-None-clause-pods : goal.returns-in-None-clause-pods
returns-in-None-clause-pods c =
    let t = map_of c.args.totals.now in
    let now = ap pods_in (c.insert.ensures.map ∙ ap (λ k. fin.insert t k (one_pod c.args.request.now)) c.copied.ensures) in
    now ∙ pods_new t c.args.node.now (one_pod c.args.request.now) c.in-None.ensures.value

pub returns-in-None-clause-in_use : goal.returns-in-None-clause-in_use
returns-in-None-clause-in_use c =
    let t = map_of c.args.totals.now in
    ap idle_in (c.insert.ensures.map ∙ ap (λ k. fin.insert t k (one_pod c.args.request.now)) c.copied.ensures) ∙ idle_again t c.args.node.now (one_pod c.args.request.now) (omega arith) c.requires.in_use
