use Rattle.std.proofs.Common.{◌≡◌, ℕ, ◌+◌, ◌<◌, List, [], ◌∷◌, ◌++◌, length, map, take, get_or, sym, ap, ◌∙◌, arith, add-one}
use Rattle.std.proofs.Math.Seq.{take-suc}
use Rattle.std.proofs.lemmas.List.{map_push, take_all}
use Rattle.wstore.specs.inside.Words.{first_word_of}
use Rattle.wstore.proofs.first.first_words.Goals as goal

-- what one more of a list's first gives is behind what the others give
one_more : {A B : Type 0} (f : A → B) (xs : List A) (i : ℕ) (d : A) → i < length xs → map f (take (i + 1) xs) ≡ map f (take i xs) ++ f (get_or xs i d) ∷ []
one_more f xs i d below = rw (add-one, take-suc xs i d below) (map_push f (take i xs) (get_or xs i d))

pub loop-global-preserved : goal.loop-global-preserved
loop-global-preserved c =
    let bytes = c.args.decoded.now.bytes in
    let globals = c.args.globals.now in
    let i = c.loop-global.global-index in
    let before = c.loop-global.invariant in
    let pushed = c.push_reserved.ensures in
    record {
      so_far =
          pushed.items
          ∙ ap (λ (l : List ℕ). l ++ c.first_word.result ∷ []) before.so_far
          ∙ ap (λ (n : ℕ). map (first_word_of bytes) (take i globals) ++ n ∷ []) c.first_word.ensures
          ∙ sym (one_more (first_word_of bytes) globals i _ c.loop-global-test.true);
      count = pushed.len ∙ ap (λ (n : ℕ). n + 1) before.count;
      room = let room = before.room in let same = pushed.capacity in omega (arith, room, same);
    }

pub returns : goal.returns
returns c =
    c.loop-global.invariant.so_far
    ∙ ap (map (first_word_of c.args.decoded.now.bytes)) (take_all c.loop-global.global-index c.args.globals.now c.loop-global-test.false)
