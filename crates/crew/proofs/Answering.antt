-- What a binder's report comes to.
use Rattle.std.proofs.Common.{◌≡◌, ℕ, ◌+◌, Bool, true, false, Result, Ok, Err, IfOk, OnErr, List, [], ◌∷◌, ◌++◌, length, sym, ap, subst, ◌∙◌, arith}
use Rattle.std.specs.List.{AllByRecursion}
use Rattle.desk.specs.declared.step.Step.{Step}
use Rattle.desk.specs.declared.step.Reply.{Reply}
use Rattle.desk.specs.Shared.{Pass, Desk, IsApplied}
use Rattle.binder.specs.declared.job.Job.{Job}
use Rattle.binder.specs.Binds.{report_of}
use Rattle.crew.specs.Made.{newcomer, Makes, IsReport}
use Rattle.crew.specs.Crew.{enlisted}
use Rattle.crew.proofs.Going.{makes_none, makes_more, makes_both}

-- ---- reports

is_report : (job : Job) (done : Bool) → IsReport (report_of job done)
is_report job true = tt
is_report job false = tt

-- a pass that was answered a report made that alone, and one that wasn't made nothing
pub reports : {E : Type 0} (result : Result Reply E) (desk : Desk) (p p' : Pass) (job : Job) (done : Bool)
    → IfOk result (λ answer. IsApplied desk p (report_of job done) answer p') → OnErr result (p' ≡ p) → (made : List Step) × Makes p made p' × AllByRecursion IsReport made
reports (Ok answer) desk p p' job done is same =
    (report_of job done ∷ [], makes_more desk p p p' [] (report_of job done) answer (makes_none p) is, (is_report job done, tt))
reports (Err why) desk p p' job done is same = ([], subst (λ (q : Pass). Makes p [] q) (sym same) (makes_none p), tt)

all_join : (a b : List Step) → AllByRecursion IsReport a → AllByRecursion IsReport b → AllByRecursion IsReport (a ++ b)
all_join [] b x y = y
all_join (e ∷ a) b x y = (x.0, all_join a b x.1 y)

-- reports, and then more of them
pub more_reports : (p q r : Pass) → (made : List Step) × Makes p made q × AllByRecursion IsReport made → (made : List Step) × Makes q made r × AllByRecursion IsReport made → (made : List Step) × Makes p made r × AllByRecursion IsReport made
more_reports p q r a b = (a.0 ++ b.0, makes_both p q r a.0 b.0 a.1 b.1, all_join a.0 b.0 a.2 b.2)

-- ---- one more worker

pub enlisted_more : {J T : Type 0} (n : ℕ) (tools : List T) (tool : T) → enlisted {J = J} n (tools ++ tool ∷ []) ≡ enlisted n tools ++ record { pass = newcomer (n + length tools); tool = tool; failed = false } ∷ []
enlisted_more n [] tool = ap (λ (k : ℕ). record { pass = newcomer k; tool = tool; failed = false } ∷ []) (omega arith)
enlisted_more n (x ∷ tools) tool =
    ap (λ r. record { pass = newcomer n; tool = x; failed = false } ∷ r)
    (enlisted_more (n + 1) tools tool ∙ ap (λ (k : ℕ). enlisted (n + 1) tools ++ record { pass = newcomer k; tool = tool; failed = false } ∷ []) (omega arith))
