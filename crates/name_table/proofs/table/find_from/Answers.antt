-- A slot with the name is still to come, until the chain is over.
use Rattle.std.proofs.Common.{◌≡◌, ◌<◌, ◌≤◌, true, false, length, get_or, sym, ap, subst, ◌∙◌, arith}
use Rattle.name_table.specs.Slots.{name_in, entry_in, has_name}
use Rattle.name_table.specs.inside.Woven.{times, chain, Ends}
use Rattle.name_table.proofs.ChainLemmas.{in_rest, ends_step, chain_over}
use Rattle.name_table.proofs.SlotLemmas.{has_true, has_back}
use Rattle.name_table.proofs.table.find_from.Goals as goal

pub loop-at-smaller : goal.loop-at-smaller
loop-at-smaller g c =
    let links = c.args.links.now.nexts in
    let at = c.loop-at.at in
    let room : c.room.result ≡ length links = c.room.ensures in
    let test : at < c.room.result = c.loop-at-test.true in
    let step = ends_step links at c.loop-at.invariant.ends (omega arith) in
    omega (arith, ap length step.1, ap (λ s. length (chain links s)) c.next-at.ensures)

pub loop-at-preserved : goal.loop-at-preserved
loop-at-preserved g c =
    let links = c.args.links.now.nexts in
    let at = c.loop-at.at in
    let slots = c.args.entries.now in
    let other : has_name c.args.name.now (entry_in slots at) ≡ false = sym c.holds.ensures ∙ c.if-holds.false in
    let room : c.room.result ≡ length links = c.room.ensures in
    let test : at < c.room.result = c.loop-at-test.true in
    let lt : at < length links = omega arith in
    let next : c.next-at.result ≡ get_or links at 0 = c.next-at.ensures in
    record {
      ends = subst (Ends links) (sym next) (ends_step links at c.loop-at.invariant.ends lt).0;
      to_come = λ i has.
          ap (λ s. times i (chain links s)) next
          ∙ sym (in_rest links at i c.loop-at.invariant.ends lt
          (λ e. let same : has_name c.args.name.now (entry_in slots at) ≡ true = has_true c.args.name.now (entry_in slots at) (ap (name_in slots) (sym e) ∙ has) in absurd (cc)))
          ∙ c.loop-at.invariant.to_come i has;
    }

pub returns-clause-none : goal.returns-clause-none
returns-clause-none g c i has =
    let links = c.args.links.now.nexts in
    let room : c.room.result ≡ length links = c.room.ensures in
    let test : c.room.result ≤ c.loop-at.at = c.loop-at-test.false in
    sym (c.loop-at.invariant.to_come i has) ∙ ap (times i) (chain_over links c.loop-at.at (omega arith))

pub returns-then-holds-clause-found : goal.returns-then-holds-clause-found
returns-then-holds-clause-found g c =
    let at = c.loop-at.at in
    let slots = c.args.entries.now in
    has_back c.args.name.now (entry_in slots at) (sym c.holds.ensures ∙ c.if-holds.true)
