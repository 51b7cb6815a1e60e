use Rattle.std.proofs.Common.{◌≡◌, map, drop}
use Rattle.command.specs.Words.{have_distinct_names, syntax_of}
use Rattle.command.proofs.plugin_words.have_distinct_names.Given as goal

-- the plugins so far have names that no later one has
abbrev pub invariant-loop-i : goal.invariant-loop-i
invariant-loop-i l = have_distinct_names (map syntax_of l.specs) ≡ have_distinct_names (map syntax_of (drop l.i l.specs))
