-- The slot comes first in its new chain, and the others stay.
use Rattle.std.proofs.Common.{◌≡◌, ℕ, set, sym, subst}
use Rattle.std.proofs.lemmas.List.{length-set}
use Rattle.name_table.specs.declared.chains.Chains.{Chains}
use Rattle.name_table.specs.inside.Written.{Hung}
use Rattle.name_table.specs.inside.Woven.{IsWoven}
use Rattle.name_table.proofs.MoveLemmas.{hooked, AreKept}
use Rattle.name_table.proofs.WovenLemmas.{kept_of, woven_after}
use Rattle.name_table.proofs.chains.Chains.hook.Goals as goal

pub returns-clause-woven : goal.returns-clause-woven
returns-clause-woven c =
    let self = c.args.self.now in
    let w = c.requires.woven in
    let slot = c.args.slot in
    let chain = c.args.chain in
    let heads = self.heads in
    let nexts = self.links.nexts in
    let homes = self.links.homes in
    let first = c.get-first.result in
    let links : Hung = record { nexts = set nexts slot first; homes = set homes slot chain } in
    let d : Chains = record { heads = set heads chain slot; links = links } in
    let made : Chains = record { heads = c.set-2.new.self; links = c.set.new.self } in
    let is : made ≡ d = λ t. record { heads = c.set-2.ensures t; links = c.set.ensures t } in
    subst IsWoven (sym is)
    (
    woven_after self d w (length-set heads chain slot) (length-set nexts slot first) (length-set homes slot chain)
    (subst (λ (n : ℕ). AreKept (set heads chain slot) (set nexts slot n) (set homes slot chain)) (sym c.get-first.ensures) (hooked heads nexts homes slot chain w.as_many c.requires.a_slot c.requires.a_chain w.few_heads (kept_of self w) c.requires.loose))
    )
