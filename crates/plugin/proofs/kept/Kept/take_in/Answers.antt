use Rattle.std.proofs.Common.{◌≡◌, List, [], sym, subst}
use Rattle.std.specs.List.{AllByRecursion}
use Rattle.plugin.specs.declared.kept.Class.{Class}
use Rattle.plugin.specs.Kit.{Ready}
use Rattle.plugin.specs.inside.Answers.{AnswersHold}
use Rattle.plugin.specs.inside.Kept.{HearOfAll, LineHolds, ClassHolds}
use Rattle.plugin.proofs.KeptLemmas.{all_pushed, all_set}
use Rattle.plugin.proofs.kept.Kept.take_in.Goals as goal

-- a class that has no lines yet
begins : (plugins : List Ready) (class : Class) → AnswersHold (HearOfAll plugins class.pod.items) class.of_all → class.lines.items ≡ [] → ClassHolds plugins class
begins plugins class of_all none = record {
  of_all = of_all;
  lines = subst (AllByRecursion (LineHolds plugins class.pod.items)) (sym none) tt;
}

pub returns-then-count-eq0 : goal.returns-then-count-eq0
returns-then-count-eq0 c = λ plugins hold.
    subst (AllByRecursion (ClassHolds plugins)) (sym c.push-full.ensures.items)
    (all_pushed (ClassHolds plugins) _ _ _ hold (begins plugins _ (c.no_answers.ensures.of_all plugins c.extend_from_slice.new.self.items) c.new.ensures.items))

pub returns : goal.returns
returns c = λ plugins hold.
    all_set (ClassHolds plugins) c.args.self.now.classes.items _ _ hold
    (begins plugins _ (c.no_answers.ensures.of_all plugins c.extend_from_slice.new.self.items) c.new.ensures.items)
