use Rattle.std.proofs.Common.{◌≡◌, ◌++◌, ◌∷◌, [], ◌∙◌, ap, Some, map, rules, sym, arith}
use Rattle.std.proofs.lemmas.List.{take_all}
use Rattle.std.proofs.lemmas.List.Elements.{All-push}
use Rattle.command.specs.Words.{each, spec_of, syntax_of}
use Rattle.command.specs.Within.{IsWithinLimits}
use Rattle.command.proofs.SpecLemmas.{each_more_at, each_none_at}
use Rattle.command.proofs.plugin_words.each_spec.Goals as goal

pub returns-in_default-clause-refused : goal.returns-in_default-clause-refused
returns-in_default-clause-refused c =
    λ _. each_none_at c.args.words.now c.loop-word.word-index _ c.loop-word-test.true c.in_default.ensures.value

pub loop-word-preserved : goal.loop-word-preserved
loop-word-preserved c =
    let pushed : c.push.new.self.items ≡ c.loop-word.specs.items ++ c.in-Some.spec ∷ [] = search rules in record {
      read = each_more_at c.args.words.now c.loop-word.word-index _ c.loop-word.specs.items c.in-Some.spec c.loop-word-test.true
          c.loop-word.invariant.read c.in-Some.ensures.value ∙ ap (λ l. Some (map syntax_of l)) (sym pushed);
      limits = rw pushed (All-push IsWithinLimits c.loop-word.specs.items c.in-Some.spec c.loop-word.invariant.limits c.in-Some.ensures.limits);
    }

-- all words have been read
pub returns-clause-ok : goal.returns-clause-ok
returns-clause-ok c =
    ap (λ words. each spec_of (map (λ s. s.now) words)) (sym (take_all c.loop-word.word-index c.args.words.now (omega (arith, c.loop-word-test.false)))) ∙ c.loop-word.invariant.read
