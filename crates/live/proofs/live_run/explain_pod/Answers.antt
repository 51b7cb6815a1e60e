use Rattle.std.proofs.Common.{◌≡◌, ◌∙◌, List, map, length, sym, ap, subst, refl}
use Rattle.std.proofs.lemmas.List.{length-map}
use Rattle.std.proofs.lemmas.Result.{IfOk-weaker}
use Rattle.desk.specs.Machine.{snapshot}
use Rattle.desk.specs.Shown.{Shown, shown}
use Rattle.choose.specs.Choice.{AreVerdicts}
use Rattle.choose.specs.Kits.{rules_of}
use Rattle.choose.proofs.Verdicts.{all_zip_length}
use Rattle.live_desk.specs.State.{Live}
use Rattle.live.specs.Answer.{explained_text}
use Rattle.live.proofs.live_run.explain_pod.Goals as goal

pub explained_text-requires : goal.explained_text-requires
explained_text-requires g c =
    let nodes : map shown c.rows.result.now ≡ snapshot c.args.live.now.desk.cluster = c.rows.ensures ∙ c.in-Ok-look.ensures.shown ∙ ap (λ (s : Live). snapshot s.desk.cluster) c.look.ensures.same in
    let seen = c.in-Ok.ensures.shown in
    ap length c.verdicts.ensures
    ∙ (all_zip_length _ _ _ (c.in-Ok-decide.ensures.judged refl) ∙ (ap length seen ∙ (sym (ap length nodes) ∙ length-map c.rows.result.now shown)))

-- the verdicts on the nodes that were seen are those on the nodes that are told
pub returns-clause-explained : goal.returns-clause-explained
returns-clause-explained g c =
    let rules = rules_of g.D.Kit.Rules.answers (g.D.Decider.kits c.args.decider.now) in
    let pod = c.args.pod.now in
    let nodes : map shown c.rows.result.now ≡ snapshot c.args.live.now.desk.cluster = c.rows.ensures ∙ c.in-Ok-look.ensures.shown ∙ ap (λ (s : Live). snapshot s.desk.cluster) c.look.ensures.same in
    let seen = c.in-Ok.ensures.shown in
    let are : AreVerdicts rules pod (snapshot c.args.live.now.desk.cluster) c.verdicts.result.now =
    subst (λ vs. AreVerdicts rules pod (snapshot c.args.live.now.desk.cluster) vs) (sym c.verdicts.ensures)
    (subst (λ (rows : List Shown). AreVerdicts rules pod rows (g.D.Decider.last c.decide.new.self)) seen (c.in-Ok-decide.ensures.judged refl)) in
    IfOk-weaker c.explained_text.result _ _
    (λ text is. (c.verdicts.result.now, are, is ∙ (λ i. explained_text c.args.named.now (c.deref.ensures i) c.args.uid.now (nodes i) c.verdicts.result.now)))
    c.explained_text.ensures

-- two looks change nothing
pub returns-clause-same : goal.returns-clause-same
returns-clause-same g c = c.look-2.ensures.same ∙ c.look.ensures.same
