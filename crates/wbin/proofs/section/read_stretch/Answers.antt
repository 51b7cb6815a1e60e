use Rattle.std.proofs.Common.{ℕ, ◌+◌, ◌-◌, ◌<◌, ◌≤◌, ◌∙◌, sym, drop, take, length, get_or, true≢false, arith}
use Rattle.std.proofs.lemmas.Result.{err_from_is_err_and}
use Rattle.leb.proofs.Digits.{at_place}
use Rattle.wbin.specs.inside.Reading.{Reads}
use Rattle.wbin.specs.inside.Outline.{ReadsStretch}
use Rattle.wbin.proofs.Sections.{no_contents, no_custom_name, stretch_found, not_following}
use Rattle.wbin.proofs.section.read_stretch.Goals as goal

past_one : (a n b : ℕ) → a + 1 + n < b → a < b
past_one a n b h = omega arith

no_more : (a b : ℕ) → a - b ≤ a
no_more a b = omega arith

pub returns-then-not-may_follow : goal.returns-then-not-may_follow
returns-then-not-may_follow c =
    let b = c.args.bytes.now in
    not_following b c.args.at c.args.above (get_or b c.args.at 0) c.malformed.result c.malformed.ensures (at_place b c.args.at c.requires) (λ x. true≢false (sym (c.may_follow.ensures.1 x) ∙ c.if-not-may_follow.true))

pub returns-in-Ok : goal.returns-in-Ok
unfolding Reads
returns-in-Ok c =
    let b = c.args.bytes.now in
    let a = c.in_ok-contents in
    let p = a.ensures.place in
    stretch_found b c.args.at c.args.above (get_or b c.args.at 0) (a.end - length a.contents.now) a.end a.contents.now (at_place b c.args.at c.requires) (past_one c.args.at (length a.contents.now) a.end p.1) (no_more a.end (length a.contents.now))
    a.ensures.read.0 a.ensures.read.1 p.2 (c.may_follow.ensures.0 c.if-not-may_follow.false) c.in-Ok.ensures.named

pub returns-in-Err : goal.returns-in-Err
unfolding Reads ReadsStretch
returns-in-Err c =
    let b = c.args.bytes.now in
    let a = c.in_ok-contents in
    let e = c.in-Err.ensures in (
      c.fenced.ensures.other e.memory,
      no_custom_name (drop c.args.at b) (drop (c.args.at + 1) b) c.args.above (get_or b c.args.at 0) a.contents.now (drop (a.end - length a.contents.now) (take a.end b))
          (drop a.end b) (at_place b c.args.at c.requires) a.ensures.read.1 a.ensures.place.2 e.custom e.none,
    )

pub returns-in_err-contents : goal.returns-in_err-contents
unfolding Reads ReadsStretch
returns-in_err-contents c =
    let b = c.args.bytes.now in
    let a = c.in_err-contents in
    let p = err_from_is_err_and c.from_residual.result c.from_residual.ensures.1 in
    rw (p.1, p.2)
    (a.ensures.memory, λ s rest k may. no_contents (drop c.args.at b) (drop (c.args.at + 1) b) (get_or b c.args.at 0) (at_place b c.args.at c.requires) (a.ensures.read a.ensures.memory) s rest k)
