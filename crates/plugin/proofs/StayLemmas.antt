-- Calls of a member change its store alone: what its view is then, and that it stays sound.
use Rattle.std.proofs.Common.{◌≡◌, ℕ, sym, ap, ◌∙◌, subst}
use Rattle.wmach.specs.Call.{MachineState}
use Rattle.plugin.specs.declared.member.Member.TheInside.{Inside}
use Rattle.plugin.specs.declared.member.Spent.{Spent}
use Rattle.plugin.specs.Kit.{Ready, InstanceState, FilterSays, ScoreSays}
use Rattle.plugin.specs.inside.Said.{SaidOfAll}
use Rattle.plugin.specs.inside.Member.{IsSound, ready_of}

-- one call, and one more
pub stays : (now seen after : InstanceState) → seen ≡ now → after ≡ record seen { store = after.store } → after ≡ record now { store = after.store }
stays now seen after is same = same ∙ ap (λ (i : InstanceState). record i { store = after.store }) is

pub stays_too : (now before after : InstanceState) → before ≡ record now { store = before.store } → after ≡ record before { store = after.store } → after ≡ record now { store = after.store }
stays_too now before after first same = same ∙ ap (λ (i : InstanceState). record i { store = after.store }) first

-- a view of what stayed
pub seen_stays : (now after seen : InstanceState) → seen ≡ after → after ≡ record now { store = after.store } → seen ≡ record now { store = seen.store }
seen_stays now after seen is same = subst (λ (i : InstanceState). i ≡ record now { store = i.store }) (sym is) same

-- the view where the machine's store has changed
pub called_stays : (now : InstanceState) (weight fuel : ℕ) (before after : MachineState)
    → record { ready = record { weight = weight; fuel = fuel; content = before.content; image = before.image }; store = before.store } ≡ now
    → after ≡ record before { store = after.store }
    → record { ready = record { weight = weight; fuel = fuel; content = after.content; image = after.image }; store = after.store } ≡ record now { store = after.store }
called_stays now weight fuel before after is same =
    ap (λ (m : MachineState). record { ready = record { weight = weight; fuel = fuel; content = m.content; image = m.image }; store = after.store }) same
    ∙ ap (λ (i : InstanceState). record i { store = after.store }) is

-- what was noted stays what it says
pub sound_stays : (m : Inside) (spent : Spent) (after : MachineState) → after ≡ record m.instance { store = after.store } → IsSound m → IsSound (record m { spent = spent; instance = after })
sound_stays m spent after same sound =
    let ready : ready_of m ≡ ready_of (record m { instance = after }) =
    ap (λ (x : MachineState). record { weight = m.weight; fuel = m.fuel; content = x.content; image = x.image }) (sym same) in
    record {
      filter = subst (λ (p : Ready). SaidOfAll (FilterSays p) m.filter.said m.filter.first.items m.filter.second.items m.filter.third.items) ready sound.filter;
      score = subst (λ (p : Ready). SaidOfAll (ScoreSays p) m.score.said m.score.first.items m.score.second.items m.score.third.items) ready sound.score;
      within = sound.within;
    }
