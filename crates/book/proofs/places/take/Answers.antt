use Rattle.std.proofs.Common.{◌≡◌, ℕ, List, ◌-◌, Option, Some, ap, sym, ◌∙◌, arith}
use Rattle.std.specs.Option.{option_map}
use Rattle.std.specs.FinMap as fin
use Rattle.quant.specs.declared.amount.Res.{Res}
use Rattle.name_table.specs.declared.entry.Entry.{Entry}
use Rattle.name_table.specs.Slots.{map_of}
use Rattle.book.specs.inside.Totals.{total_at, plus, one_pod, adds, pods_in, idle_in}
use Rattle.book.proofs.TotalLemmas.{total_here, total_away, total_taken, total_last, total_found, idle_again, idle_gone, pods_again, pods_gone, same_res}
use Rattle.book.proofs.places.take.Goals as goal

-- the entry of a slot that has this name has it
named : {X : Type 0} (o : Option (Entry X)) (e : Entry X) (name : List ℕ) → o ≡ Some e → option_map (λ e. e.name) o ≡ Some name → e.name ≡ name
named o e name is has = let both : Some e.name ≡ Some name = sym (ap (option_map (λ e. e.name)) is) ∙ has in cc

-- the node's total was this one pod's
pub returns-then-had-eq1-clause-each : goal.returns-then-had-eq1-clause-each
returns-then-had-eq1-clause-each c other =
    let t = map_of c.args.totals.now in
    let name = named _ c.remove_at.result c.args.node.now c.remove_at.ensures.entry c.in-Some.ensures.name in
    let found = total_found t c.args.node.now _ (c.value_at-had.ensures.by_name c.args.node.now c.in-Some.ensures.name) in
    ap (λ n. plus (total_at n other) (adds c.args.node.now c.args.request.now other)) (c.remove_at.ensures.map ∙ ap (fin.remove t) name)
    ∙ total_last t c.args.node.now c.args.request.now (c.requires.last (ap (λ r. r.pods) found ∙ c.if-had-eq1.true)) other

pub returns-then-had-eq1-clause-now : goal.returns-then-had-eq1-clause-now
returns-then-had-eq1-clause-now c =
    let t = map_of c.args.totals.now in
    let name = named _ c.remove_at.result c.args.node.now c.remove_at.ensures.entry c.in-Some.ensures.name in
    sym (ap (λ n. total_at n c.args.node.now) (c.remove_at.ensures.map ∙ ap (fin.remove t) name) ∙ total_away t c.args.node.now)

pub returns-then-had-eq1-clause-pods : goal.returns-then-had-eq1-clause-pods
returns-then-had-eq1-clause-pods c =
    let t = map_of c.args.totals.now in
    let name = named _ c.remove_at.result c.args.node.now c.remove_at.ensures.entry c.in-Some.ensures.name in
    let found = c.value_at-had.ensures.by_name c.args.node.now c.in-Some.ensures.name in
    let now = ap pods_in (c.remove_at.ensures.map ∙ ap (fin.remove t) name) in
    omega (arith, now, c.if-had-eq1.true, pods_gone t c.args.node.now c.value_at-had.result.now found)

pub returns-then-had-eq1-clause-in_use : goal.returns-then-had-eq1-clause-in_use
returns-then-had-eq1-clause-in_use c =
    let t = map_of c.args.totals.now in
    let name = named _ c.remove_at.result c.args.node.now c.remove_at.ensures.entry c.in-Some.ensures.name in
    let found = c.value_at-had.ensures.by_name c.args.node.now c.in-Some.ensures.name in
    ap idle_in (c.remove_at.ensures.map ∙ ap (fin.remove t) name) ∙ idle_gone t c.args.node.now c.value_at-had.result.now found c.requires.in_use

-- the node's total is less by one pod
pub returns-clause-each : goal.returns-clause-each
returns-clause-each c other =
    let t = map_of c.args.totals.now in
    let had = c.value_at-had.result.now in
    let v : Res = record { cpu = record { 0 = had.cpu.0 - c.args.request.now.cpu.0 }; mem = record { 0 = had.mem.0 - c.args.request.now.mem.0 }; pods = had.pods - 1 } in
    let found : total_at t c.args.node.now ≡ had = total_found t c.args.node.now had (c.value_at-had.ensures.by_name c.args.node.now c.in-Some.ensures.name) in
    let cpu = ap (λ r. r.cpu.0) found in
    let mem = ap (λ r. r.mem.0) found in
    let pods = ap (λ r. r.pods) found in
    let e : plus v (one_pod c.args.request.now) ≡ total_at t c.args.node.now =
    same_res _ _ (omega (arith, cpu, c.requires.within.cpu)) (omega (arith, mem, c.requires.within.mem)) (omega (arith, pods, c.requires.within.pods)) in
    ap (λ n. plus (total_at n other) (adds c.args.node.now c.args.request.now other)) (c.replace_at.ensures.map c.args.node.now c.in-Some.ensures.name)
    ∙ total_taken t c.args.node.now v c.args.request.now e other

pub returns-clause-now : goal.returns-clause-now
returns-clause-now c =
    sym (ap (λ n. total_at n c.args.node.now) (c.replace_at.ensures.map c.args.node.now c.in-Some.ensures.name) ∙ total_here (map_of c.args.totals.now) c.args.node.now _)

pub returns-clause-pods : goal.returns-clause-pods
returns-clause-pods c =
    let t = map_of c.args.totals.now in
    let had = c.value_at-had.result.now in
    let v : Res = record { cpu = record { 0 = had.cpu.0 - c.args.request.now.cpu.0 }; mem = record { 0 = had.mem.0 - c.args.request.now.mem.0 }; pods = had.pods - 1 } in
    let found = c.value_at-had.ensures.by_name c.args.node.now c.in-Some.ensures.name in
    let some = ap (λ r. r.pods) (total_found t c.args.node.now had found) in
    let now = ap pods_in (c.replace_at.ensures.map c.args.node.now c.in-Some.ensures.name) in
    omega (arith, now, some, c.requires.within.pods, pods_again t c.args.node.now v had found)

pub returns-clause-in_use : goal.returns-clause-in_use
returns-clause-in_use c =
    let t = map_of c.args.totals.now in
    let found = c.value_at-had.ensures.by_name c.args.node.now c.in-Some.ensures.name in
    let some = ap (λ r. r.pods) (total_found t c.args.node.now _ found) in
    ap idle_in (c.replace_at.ensures.map c.args.node.now c.in-Some.ensures.name)
    ∙ idle_again t c.args.node.now _ (omega (arith, some, c.requires.within.pods, c.if-had-eq1.false)) c.requires.in_use
