use Rattle.std.proofs.Common.{◌≡◌, Option, Some, None, Result, Ok, Err, IfOk, IfSome, subst}
use Rattle.wmach.specs.Outcome.{HasOutcome}
use Rattle.wplain.specs.Seen.{setting_of}
use Rattle.wplain.specs.Stores.{store_of}
use Rattle.wplain.proofs.evaluation.evaluate.Goals as goal

-- what holds of an outcome holds of what is told of it
told_of : {A B C : Type 0} (P : A → Type 0) (r : Result A B) (g : Result (Option A) C) → IfOk r P → IfOk g (λ o. IfSome o (λ given. r ≡ Ok given)) → IfOk g (λ o. IfSome o P)
told_of P r (Ok (Some given)) holds is = subst (λ x. IfOk x P) is holds
told_of P r (Ok None) holds is = tt
told_of P r (Err e) holds is = tt

pub returns : goal.returns
returns c =
    let setting = setting_of c.args.setting.now in
    let before = store_of c.args.store.now in
    let after = store_of c.outcome_of-outcome.new.store in
    told_of (λ outcome. HasOutcome setting before c.args.function c.args.fuel outcome after) c.outcome_of-outcome.result c.told.result c.outcome_of-outcome.ensures c.told.ensures
