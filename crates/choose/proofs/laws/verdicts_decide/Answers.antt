use Rattle.std.proofs.Common.{subst}
use Rattle.choose.specs.Choice.{judged, IsChoice}
use Rattle.choose.proofs.Verdicts.{all_zip_append}
use Rattle.choose.proofs.OneVerdict.{one_list}
use Rattle.choose.proofs.laws.verdicts_decide.Goals as goal

pub returns : goal.returns
returns g c = record {
  none = λ pod. tt;
  joined = λ pod nodes more verdicts others a b. all_zip_append _ nodes verdicts more others a b;
  one = λ pod nodes verdicts others a b. one_list _ pod nodes verdicts others (g.met.R.Rules.say_one_thing c.args._rules.now) a b;
  decide = λ pod nodes verdicts decision are is. record { verdicts = verdicts; are = are; is = is };
  decided = λ pod nodes verdicts decision are choice.
      subst (λ vs. IsChoice (judged nodes vs) decision) (one_list _ pod nodes choice.verdicts verdicts (g.met.R.Rules.say_one_thing c.args._rules.now) choice.are are) choice.is;
}
