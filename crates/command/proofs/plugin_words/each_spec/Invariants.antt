use Rattle.std.proofs.Common.{◌≡◌, Some, map, take}
use Rattle.std.specs.List.{All}
use Rattle.command.specs.Words.{each, spec_of, syntax_of}
use Rattle.command.specs.Within.{IsWithinLimits}
use Rattle.command.proofs.plugin_words.each_spec.Given as goal

abbrev pub invariant-loop-word : goal.invariant-loop-word
invariant-loop-word l = record {
  read : each spec_of (map (λ s. s.now) (take l.word-index l.words)) ≡ Some (map syntax_of l.specs.items);
  limits : All IsWithinLimits l.specs.items;
}
