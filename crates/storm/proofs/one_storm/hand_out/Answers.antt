use Rattle.std.proofs.Common.{ℕ, ◌+◌, length, ap, ◌∙◌, arith}
use Rattle.desk.specs.Shared.{Desk}
use Rattle.crew.specs.Made.{newcomer}
use Rattle.crew.specs.Crew.{enlisted}
use Rattle.storm.proofs.one_storm.hand_out.Goals as goal

-- ---- passes are numbered from where those before them end

pub returns-clause-cyclers : goal.returns-clause-cyclers
returns-clause-cyclers g c =
    let fed = ap (λ (d : Desk). d.handed) c.in_ok-feeders.ensures.handed in
    c.in_ok-cyclers.ensures.workers ∙ ap (λ n. enlisted n c.args.deciders.items) (omega (arith, fed, c.in-Ok.ensures.len, c.requires))

pub returns-clause-reporters : goal.returns-clause-reporters
returns-clause-reporters g c =
    let fed = ap (λ (d : Desk). d.handed) c.in_ok-feeders.ensures.handed in
    let cycling = ap (λ (d : Desk). d.handed) c.in_ok-cyclers.ensures.handed in
    c.in_ok-reporters.ensures.workers ∙ ap (λ n. enlisted n c.args.binders.items) (omega (arith, fed, cycling, c.in-Ok.ensures.len, c.requires))

pub returns-clause-clerk : goal.returns-clause-clerk
returns-clause-clerk g c =
    let fed = ap (λ (d : Desk). d.handed) c.in_ok-feeders.ensures.handed in
    let cycling = ap (λ (d : Desk). d.handed) c.in_ok-cyclers.ensures.handed in
    let reporting = ap (λ (d : Desk). d.handed) c.in_ok-reporters.ensures.handed in
    c.in_ok-clerk.ensures.pass ∙ ap newcomer (omega (arith, fed, cycling, reporting, c.in-Ok.ensures.len, c.requires))

-- and the desk has handed out all of them
pub returns-clause-handed : goal.returns-clause-handed
returns-clause-handed g c =
    let more = λ (n : ℕ) (d : Desk). record d { handed = d.handed + n } in
    c.in_ok-clerk.ensures.handed
    ∙ ap (more 1) (c.in_ok-reporters.ensures.handed ∙ ap (more (length c.args.binders.items)) (c.in_ok-cyclers.ensures.handed ∙ ap (more (length c.args.deciders.items)) c.in_ok-feeders.ensures.handed))
    ∙ ap (λ (k : ℕ). record c.args.desk.now { handed = k }) (omega (arith, c.in-Ok.ensures.len, c.requires))
