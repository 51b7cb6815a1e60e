use Rattle.std.proofs.Common.{ap, sym, ◌∙◌, arith}
use Rattle.std.specs.FinMap.{len, remove}
use Rattle.book.specs.Cluster.{Cluster, Places}
use Rattle.book.proofs.TotalLemmas.{len_less}
use Rattle.desk.proofs.Expiring.{expired_there, any_of, one_gone, limit_forgotten, expired_at_first, all_gone, all_sent, all_seen}
use Rattle.desk.proofs.desk_core.expire_all.Goals as goal

pub loop-uid-smaller : goal.loop-uid-smaller
loop-uid-smaller c =
    let places = c.loop-uid.book.places in
    let there = expired_there places c.args.now c.in-Some.uid c.in-Some.ensures.first.expired in
    let less = len_less places c.in-Some.uid there.0 there.1 in
    let gone = ap (λ b. len b.places) c.in-Some.ensures.gone in
    omega (arith, less, gone)

-- one more place is gone, and its pod was sent back
pub loop-uid-preserved : goal.loop-uid-preserved
loop-uid-preserved c =
    let old = c.args.book.now.places in
    let places = c.loop-uid.book.places in
    let was = c.loop-uid.invariant in
    let expired = c.in-Some.ensures.first.expired in
    let gone = ap (λ b. b.places) c.in-Some.ensures.gone in
    record {
      book =
          c.in-Some.ensures.gone ∙ ap (λ (b : Cluster). record b { places = remove places c.in-Some.uid }) was.book
          ∙ ap (λ (m : Places). record c.args.book.now { places = m }) (sym gone);
      limit = ap (λ q. q.limit) c.forget_back.ensures.after ∙ limit_forgotten c.loop-uid.queue c.in-Some.uid c.args.now ∙ was.limit;
      gone = rw (gone, c.forget_back.ensures.after) (one_gone old places c.args.queue.now c.loop-uid.queue c.args.now was.gone c.in-Some.uid expired);
      seen = any_of old c.args.now c.in-Some.uid (expired_at_first old places c.args.queue.now c.loop-uid.queue c.args.now was.gone c.in-Some.uid expired);
    }

pub returns-clause-any : goal.returns-clause-any
returns-clause-any c = all_seen c.loop-uid.any c.args.book.now.places c.loop-uid.book.places c.args.now c.loop-uid.invariant.seen c.in_default.ensures.none

pub returns-clause-book : goal.returns-clause-book
returns-clause-book c =
    c.in_default.ensures.unchanged ∙ c.loop-uid.invariant.book
    ∙ ap (λ (m : Places). record c.args.book.now { places = m })
    (all_gone c.args.book.now.places c.loop-uid.book.places c.args.queue.now c.loop-uid.queue c.args.now c.loop-uid.invariant.gone c.in_default.ensures.none)

pub returns-clause-queue : goal.returns-clause-queue
returns-clause-queue c =
    all_sent c.args.book.now.places c.loop-uid.book.places c.args.queue.now c.loop-uid.queue c.args.now c.loop-uid.invariant.gone c.in_default.ensures.none c.loop-uid.invariant.limit
