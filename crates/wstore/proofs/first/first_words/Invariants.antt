use Rattle.std.proofs.Common.{◌≡◌, ◌≤◌, length, map, take, vec_len, vec_capacity}
use Rattle.wstore.specs.inside.Words.{first_word_of}
use Rattle.wstore.proofs.first.first_words.Given as goal

-- those so far, with room for the others
abbrev pub invariant-loop-global : goal.invariant-loop-global
invariant-loop-global l = record {
  so_far : l.words.items ≡ map (first_word_of l.decoded.bytes) (take l.global-index l.globals);
  count : vec_len l.words ≡ l.global-index;
  room : length l.globals ≤ vec_capacity l.words;
}
