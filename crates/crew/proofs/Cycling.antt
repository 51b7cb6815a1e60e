-- Cycles, one after the other.
use Rattle.std.proofs.Common.{◌≡◌, ℕ, List, [], ◌∷◌, ◌++◌, Option, Some, None, Result, Ok, Err, sym, subst}
use Rattle.queued.specs.declared.state.Failure.{Failure}
use Rattle.quant.specs.declared.name.Name.{Name}
use Rattle.quant.specs.declared.objects.Pod.{Pod}
use Rattle.quant.specs.declared.version.Ticket.{Ticket}
use Rattle.book.specs.declared.refusal.Refusal.{Refusal}
use Rattle.choose.specs.declared.decision.Decision.{Decision}
use Rattle.choose.specs.declared.decision.Decision.TheVariants as decisions
use Rattle.desk.specs.Machine.{given, popped}
use Rattle.desk.specs.History.{Call, GoesOn}
use Rattle.desk.specs.Shared.{Pass, Desk, IsLooked}
use Rattle.rules.specs.RuleSet.{RuleSet}
use Rattle.choose.specs.Kits.{rules_of}
use Rattle.cycle.specs.declared.one_cycle.Cycled.{Cycled}
use Rattle.cycle.specs.declared.one_cycle.Cycled.TheVariants as cycled
use Rattle.cycle.specs.Cycle.{IsFailed, IsAssumed, AfterAssume, EndsWith, AfterPop, IsCycle}
use Rattle.crew.specs.Made.{BeginsWith, IsInformed}
use Rattle.crew.specs.Cycles.{OneCycle, MakesCycles, HasCycled, EndsIdle}
use Rattle.crew.proofs.Going.{begins_trans, goes_begins, goes_trans, Later, later_trans, later_same, informed_later, informed_refl, informed_trans, applied_later}

-- ---- what a cycle keeps: the number of its pass, and that what was seen is seen

failed_later : (desk : Desk) (p q : Pass) (uid : Name) (how : Failure) → IsFailed desk p uid how q → Later p q
failed_later desk p q uid how f = applied_later desk p q _ f.answer f.applied

assumed_later : (desk : Desk) (p q : Pass) (uid node : Name) (total : ℕ) (came : Cycled) → IsAssumed desk p uid node total came q → Later p q
assumed_later desk p q uid node total came a = later_trans p a.answered q (applied_later desk p a.answered _ (given a.answer) a.applied) (ends a.answer a.ends)
  where
    ends : (answer : Result Ticket Refusal) → AfterAssume desk a.answered uid node total answer came q → Later a.answered q
    ends (Ok ticket) e = later_same a.answered q e.1
    ends (Err why) e = failed_later desk a.answered q uid _ e.1

ends_later : (desk : Desk) (p q : Pass) (uid : Name) (decision : Decision) (came : Cycled) → EndsWith desk p uid decision came q → Later p q
ends_later desk p q uid (decisions.Node node total) came e = assumed_later desk p q uid node total came e
ends_later desk p q uid (decisions.Unschedulable counts) came e = failed_later desk p q uid _ e.1
ends_later desk p q uid (decisions.PluginError place node cause) came e = failed_later desk p q uid _ e.1

looked_informed : (desk : Desk) (p q : Pass) (rows : _) → IsLooked desk p rows q → IsInformed p q
looked_informed desk p q rows l = (l.same, l.ahead.goes_on)

pub cycle_later : (rules : RuleSet) (desk : Desk) (p q : Pass) (came : Cycled) → IsCycle rules desk p came q → Later p q
cycle_later rules desk p q came c = later_trans p c.popped q (applied_later desk p c.popped _ (popped c.answer) c.pops) (after c.answer c.then)
  where
    after : (answer : Option Pod) → AfterPop rules desk c.popped answer came q → Later c.popped q
    after (Some pod) d = later_trans c.popped d.looked q (informed_later c.popped d.looked (looked_informed desk c.popped d.looked d.chosen.rows d.chosen.looked)) (ends_later desk d.looked q _ d.decision came d.ends)
    after None e = later_same c.popped q e.1

-- ---- one cycle more

module _ (rules : RuleSet) (desk : Desk) where
  pub cycled_later : (p q : Pass) (made : List OneCycle) → HasCycled rules desk p made q → Later p q
  cycled_later p q [] h = informed_later p q h
  cycled_later p q (c ∷ made) h =
      later_trans p c.before q (informed_later p c.before h.0) (later_trans c.before c.after q (cycle_later rules desk c.before c.after c.came h.1) (cycled_later c.after q made h.2))

  pub cycled_told : (p q r : Pass) (made : List OneCycle) → HasCycled rules desk p made q → IsInformed q r → HasCycled rules desk p made r
  cycled_told p q r [] h i = informed_trans p q r h i
  cycled_told p q r (c ∷ made) h i = (h.0, h.1, cycled_told c.after q r made h.2 i)

  pub cycled_more : (p q r : Pass) (made : List OneCycle) (came : Cycled) → HasCycled rules desk p made q → IsCycle rules desk q came r
      → HasCycled rules desk p (made ++ record { before = q; came = came; after = r } ∷ []) r
  cycled_more p q r [] came h c = (h, c, informed_refl r)
  cycled_more p q r (d ∷ made) came h c = (h.0, h.1, cycled_more d.after q r made came h.2 c)

  pub cycled_both : (p q r : Pass) (one other : List OneCycle) → HasCycled rules desk p one q → HasCycled rules desk q other r → HasCycled rules desk p (one ++ other) r
  cycled_both p q r [] [] a b = informed_trans p q r a b
  cycled_both p q r [] (c ∷ other) a b = (informed_trans p q c.before a b.0, b.1, b.2)
  cycled_both p q r (d ∷ one) other a b = (a.0, a.1, cycled_both d.after q r one other a.2 b)

  -- the cycles that a pass made are its calls in each history that goes on from there without a
  -- call of it
  pub cycles_in : (p q : Pass) (made : List OneCycle) (l : List Call) → HasCycled rules desk p made q → GoesOn p.caller.number q.seen l → MakesCycles rules desk l p made
  cycles_in p q [] l h go = goes_trans p.caller.number p.seen q.seen l h.1 go
  cycles_in p q (c ∷ made) l h go =
      let n = p.caller.number in
      let one : Later p c.after = later_trans p c.before c.after (informed_later p c.before h.0) (cycle_later rules desk c.before c.after c.came h.1) in
      let rest : Later c.after q = cycled_later c.after q made h.2 in
      (h.0, h.1, begins_trans l q.seen c.after.seen (goes_begins n q.seen l go) rest.1, cycles_in c.after q made l h.2 (subst (λ k. GoesOn k q.seen l) (sym one.0) go))

  -- who made cycles has seen all that it had seen before the last of them
  pub last_seen : (p q : Pass) (made : List OneCycle) (c : OneCycle) → HasCycled rules desk p (made ++ c ∷ []) q → BeginsWith q.seen c.before.seen
  last_seen p q [] c h = (later_trans c.before c.after q (cycle_later rules desk c.before c.after c.came h.1) (informed_later c.after q h.2)).1
  last_seen p q (d ∷ made) c h = last_seen d.after q made c h.2

-- ---- a cycle of a decider, whose kits stay

module _ {Kit : Type 0} (answers : Kit → RuleSet) (kits now : List Kit) (desk : Desk) (p q r : Pass) where
  pub one_more : now ≡ kits → (made : List OneCycle) × HasCycled (rules_of answers kits) desk p made q → (came : Cycled) → IsCycle (rules_of answers now) desk q came r → (made : List OneCycle) × HasCycled (rules_of answers kits) desk p made r
  one_more same so_far came c = (
    so_far.0 ++ record { before = q; came = came; after = r } ∷ [],
    cycled_more (rules_of answers kits) desk p q r so_far.0 came so_far.1 (subst (λ (k : List Kit). IsCycle (rules_of answers k) desk q came r) same c),
  )

  pub one_idle : now ≡ kits → (made : List OneCycle) × HasCycled (rules_of answers kits) desk p made q → (came : Cycled) → IsCycle (rules_of answers now) desk q came r → came ≡ cycled.Idle
      → (made : List OneCycle) × (last : OneCycle) × EndsIdle (rules_of answers kits) desk p made last r
  unfolding one_more
  one_idle same so_far came c idle =
      (so_far.0, record { before = q; came = came; after = r }, record { cycled = (one_more same so_far came c).1; idle = idle })
