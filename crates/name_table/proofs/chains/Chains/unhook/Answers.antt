-- The chain goes on without the slot, and the others stay.
use Rattle.std.proofs.Common.{◌≡◌, ℕ, ◌<◌, ◌∷◌, ◌++◌, length, get_or, set, refl, sym, ap, subst, ◌∙◌}
use Rattle.std.proofs.lemmas.List.{get_or_default, length-set}
use Rattle.name_table.specs.declared.chains.Chains.{Chains}
use Rattle.name_table.specs.inside.Woven.{nowhere, IsWoven, chain}
use Rattle.name_table.proofs.MoveLemmas.{unhooked_first, unhooked_later, AreKept}
use Rattle.name_table.proofs.WovenLemmas.{kept_of, woven_after}
use Rattle.name_table.proofs.chains.Chains.unhook.Goals as goal
use Rattle.name_table.proofs.chains.Chains.unhook.Goals.{then-first-slot, else-first-slot}

-- chains of which a slot hangs nowhere
abbrev loosened : ℕ → Chains → Chains
loosened slot s = record { heads = s.heads; links = record { nexts = s.links.nexts; homes = set s.links.homes slot nowhere } }

pub get-first-requires : goal.get-first-requires
get-first-requires c =
    let homes = c.args.self.now.links.homes in
    let home : get_or homes c.args.slot nowhere ≡ c.home-home.result = get_or_default homes c.args.slot nowhere 0 c.requires.a_slot ∙ sym c.home-home.ensures in
    subst (λ (k : ℕ). k < length c.args.self.now.heads) home c.requires.at_home

pub set-requires : goal.set-requires
set-requires c =
    let homes = c.args.self.now.links.homes in
    let home : get_or homes c.args.slot nowhere ≡ c.home-home.result = get_or_default homes c.args.slot nowhere 0 c.requires.a_slot ∙ sym c.home-home.ensures in
    subst (λ (k : ℕ). k < length c.args.self.now.heads) home c.requires.at_home

pub returns-clause-woven : goal.returns-clause-woven
returns-clause-woven c =
    let self = c.args.self.now in
    let w = c.requires.woven in
    let slot = c.args.slot in
    let heads = self.heads in
    let nexts = self.links.nexts in
    let homes = self.links.homes in
    let a = c.home-home.result in
    let n = c.next-next.result in
    let home : get_or homes slot nowhere ≡ a = get_or_default homes slot nowhere 0 c.requires.a_slot ∙ sym c.home-home.ensures in
    let a_chain : a < length heads = subst (λ (k : ℕ). k < length heads) home c.requires.at_home in
    let first = c.get-first.ensures in
    let next = c.next-next.ensures in
    let kept = kept_of self w in
    let made : Chains = record { heads = c.if-first-slot.self.heads; links = c.set_home.new.self } in
    let is : made ≡ loosened slot c.if-first-slot.self = λ t. record { heads = c.if-first-slot.self.heads; links = c.set_home.ensures t } in
    elim c.if-first-slot.branch [
      | then-first-slot v ↦
          let d : Chains = record { heads = set heads a n; links = self.links } in
          let moved : c.if-first-slot.self ≡ d = v.self-is ∙ (λ t. record { heads = v.set.ensures t; links = self.links }) in
          subst IsWoven (sym (is ∙ ap (loosened slot) moved))
          (
          woven_after self (loosened slot d) w (length-set heads a n) refl (length-set homes slot nowhere)
          (subst (λ (k : ℕ). AreKept (set heads a k) nexts (set homes slot nowhere)) (sym next) (unhooked_first heads nexts homes slot a w.as_many c.requires.a_slot a_chain w.few_heads kept home (sym first ∙ v.if-first-slot.true)))
          )
      | else-first-slot v ↦
          let p = v.slot_before-before.result in
          let linked = v.slot_before-before.ensures.linked in
          let split : chain nexts (get_or heads a 0) ≡ linked.0 ++ p ∷ slot ∷ linked.1 = ap (chain nexts) (sym first) ∙ linked.2 in
          let d : Chains = record { heads = heads; links = record { nexts = set nexts p n; homes = homes } } in
          let moved : c.if-first-slot.self ≡ d = v.self-is ∙ (λ t. record { heads = heads; links = v.set_next.ensures t }) in
          subst IsWoven (sym (is ∙ ap (loosened slot) moved))
          (
          woven_after self (loosened slot d) w refl (length-set nexts p n) (length-set homes slot nowhere)
          (subst (λ (k : ℕ). AreKept heads (set nexts p k) (set homes slot nowhere)) (sym next) (unhooked_later heads nexts homes slot a w.as_many c.requires.a_slot a_chain w.few_heads kept home p linked.0 linked.1 split))
          )
    ]
