use Rattle.std.proofs.Common.{◌≡◌, ℕ, ◌*◌, List, length, take, drop, ap, sym, ◌∙◌, arith, length-set, length-drop}
use Rattle.std.proofs.lemmas.List.{length-take-le}
use Rattle.wmem.specs.inside.Tracked.{stretch}
use Rattle.wmem.proofs.Buffers.{length-with_bytes}
use Rattle.wmem.proofs.TrackedLemmas.{copy_agrees, none_noted}
use Rattle.wmem.proofs.tracked.make_alike.Goals as goal

pub loop-page-preserved : goal.loop-page-preserved
loop-page-preserved c =
    let to : List ℕ = c.loop-page.to in
    let from : List ℕ = c.args.from.now in
    let page : ℕ = c.in-Some.page in
    let held = c.loop-page.invariant in
    let taken = c.in-Some.ensures.taken in
    let within = c.in-Some.ensures.within in
    let same : length from ≡ length to = c.requires.same ∙ sym c.loop-page.auto.to in
    let pages = ap length taken ∙ length-set c.loop-page.noted.flags page _ in
    let count : length (take stretch (drop (page * stretch) from)) ≡ stretch =
    length-take-le stretch (drop (page * stretch) from) (omega (arith, length-drop (page * stretch) from, same, within, held.whole)) in
    let kept : length c.copy_page.new.to ≡ length to =
    ap length c.copy_page.ensures ∙ length-with_bytes to (page * stretch) (take stretch (drop (page * stretch) from)) (omega (arith, count, within, held.whole)) in
    record {
      whole = kept ∙ held.whole ∙ ap (λ (n : ℕ). stretch * n) (sym pages);
      pages = pages ∙ held.pages;
      room = c.in-Some.ensures.room ∙ held.room;
      agrees = λ k unset. rw c.copy_page.ensures
          (copy_agrees to from c.loop-page.noted.flags c.loop-page.noted.order c.loop-page.noted.order c.loop-page.noted.room page held.agrees same within held.whole k (rw taken at unset));
    }

pub returns-clause-alike : goal.returns-clause-alike
returns-clause-alike c =
    none_noted c.loop-page.to c.args.from.now c.loop-page.noted c.loop-page.invariant.agrees (c.requires.same ∙ sym c.loop-page.auto.to)
    c.in_default.ensures.none
