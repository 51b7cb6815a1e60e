use Rattle.std.proofs.Common.{◌≡◌, ◌∙◌, true, false, [], map, length, sym, ap, subst, refl, rules}
use Rattle.std.proofs.lemmas.List.{length-map}
use Rattle.desk.specs.Machine.{State, snapshot}
use Rattle.desk.specs.Shown.{shown}
use Rattle.choose.specs.Kits.{rules_of}
use Rattle.choose.proofs.Verdicts.{all_zip_length}
use Rattle.streams.proofs.Built.{adds_nothing}
use Rattle.output_lines.specs.Telling.{TellsNodes, verdict_lines}
use Rattle.output_lines.proofs.Indented.{no_lines}
use Rattle.session.proofs.Nodes.{idle_cycle, in_any_case, placed_cycle, told, unexplained, untold}
use Rattle.session.proofs.session.tell_cycle.Goals as goal
use Rattle.session.proofs.session.tell_cycle.Goals.{in-Ok-place, in-Err}

-- ---- no pod was popped

pub returns-in-None-clause-cycled : goal.returns-in-None-clause-cycled
returns-in-None-clause-cycled g c =
    let pops = rw c.in-None.is at c.in-Ok.ensures.popped in
    idle_cycle _ _ _ pops c.in-Ok.ensures.after

pub returns-in-None-clause-told : goal.returns-in-None-clause-told
returns-in-None-clause-told g c =
    let pops = rw c.in-None.is at c.in-Ok.ensures.popped in
    ([], untold _ _ _ _ pops, no_lines true, adds_nothing c.args.text.now)

-- ---- one was, and nothing is to be told

pub returns-then-not-explains-clause-cycled : goal.returns-then-not-explains-clause-cycled
returns-then-not-explains-clause-cycled g c =
    let pops = rw c.in-Some.is at c.in-Ok.ensures.popped in
    elim c.match-place.branch [
      | in-Ok-place w ↦ rw w.result-is (placed_cycle _ _ _ _ _ _ pops c.in-Ok.ensures.after w.in-Ok-place.ensures.decided)
      | in-Err w ↦ rw w.result-is tt
    ]

pub returns-then-not-explains-clause-told : goal.returns-then-not-explains-clause-told
returns-then-not-explains-clause-told g c =
    let no : c.args.explains ≡ false = search rules in
    in_any_case c.match-place.result ([], unexplained _ _ _ _ no, no_lines true, adds_nothing c.args.text.now)

-- ---- one was, and it is explained

pub push_verdicts-requires : goal.push_verdicts-requires
push_verdicts-requires g c =
    let seen : map shown c.rows.result.now ≡ snapshot c.look.new.self.cluster =
    c.rows.ensures ∙ (c.in-Ok-look.ensures.shown ∙ ap (λ (s : State). snapshot s.cluster) (sym c.look.ensures.same)) in
    ap length c.verdicts.ensures ∙ (all_zip_length _ _ _ (c.in-Ok-place-2.ensures.verdicts refl) ∙ (sym (ap length seen) ∙ length-map c.rows.result.now shown))

pub returns-clause-cycled : goal.returns-clause-cycled
returns-clause-cycled g c =
    let pops = rw c.in-Some.is at c.in-Ok.ensures.popped in
    placed_cycle _ _ _ _ _ _ pops (c.look.ensures.same ∙ c.in-Ok.ensures.after) c.in-Ok-place-2.ensures.decided

pub returns-clause-told : goal.returns-clause-told
returns-clause-told g c =
    let yes : c.args.explains ≡ true = search rules in
    let pops = rw c.in-Some.is at c.in-Ok.ensures.popped in
    let seen : map shown c.rows.result.now ≡ snapshot c.look.new.self.cluster =
    c.rows.ensures ∙ (c.in-Ok-look.ensures.shown ∙ ap (λ (s : State). snapshot s.cluster) (sym c.look.ensures.same)) in
    let tells = told (rules_of g.D.Kit.Rules.answers (g.D.Decider.kits c.args.decider.now)) c.args.named.now c.args.explains c.args.desk.now _ _ _ yes pops
    (c.look.ensures.same ∙ c.in-Ok.ensures.after) (c.in-Ok-place-2.ensures.verdicts refl) in (
      verdict_lines c.args.named.now c.deref.result.now (map shown c.rows.result.now) c.verdicts.result.now,
      subst (TellsNodes (rules_of g.D.Kit.Rules.answers (g.D.Decider.kits c.args.decider.now)) c.args.named.now c.args.explains c.args.desk.now)
          (λ i. verdict_lines c.args.named.now (sym c.deref.ensures i) (sym seen i) (sym c.verdicts.ensures i)) tells,
      c.push_verdicts.ensures.lines,
      c.push_verdicts.ensures.text,
    )
