use Rattle.std.proofs.Common.{◌≡◌, ◌+◌, ◌++◌, ◌∷◌, [], sym, ap, ◌∙◌, refl, subst, slice_index, arith}
use Rattle.std.specs.Prelude.{IfSome}
use Rattle.desk.specs.Machine.{after, reply}
use Rattle.desk.specs.inside.Board.{IsSubject, Writes}
use Rattle.desk.specs.inside.LastLook.{Changed}
use Rattle.desk.specs.History.{HasCallsOf}
use Rattle.desk.specs.inside.Caller.{handed_by}
use Rattle.desk.specs.Shared.{IsApplied}
use Rattle.desk.specs.inside.Shared.{Prefix, Held, Stands, held_after, next_call, prefix_after}
use Rattle.desk.proofs.Histories.{calls_made}
use Rattle.desk.proofs.LastLook.{changed_by}
use Rattle.desk.proofs.Sharing.{stands_after, counted_alike, applied_more}
use Rattle.desk.proofs.under_lock.UnderLock.apply.Goals as goal

-- the desk counts the pass's calls as the pass does
pub take_call-held-requires-clause-calls : goal.take_call-held-requires-clause-calls
take_call-held-requires-clause-calls g c =
    let p = c.args.pass.now.caller in
    let ok = c.in-Ok.ensures in
    ap (λ (y : Held). slice_index y.desk.state.calls p.number) ok.same
    ∙ counted_alike g.J.Naming.book g.J.Naming.limits c.args.self ok.stands c.args.handed p c.args.step c.requires.of c.requires.handed ok.ahead.own

-- the pod that goes first is the one that the desk hands out
pub take_call-held-requires-clause-first : goal.take_call-held-requires-clause-first
take_call-held-requires-clause-first g c =
    let ok = c.in-Ok.ensures in
    ok.pod ∙ ap (λ (y : Held). handed_by y.desk.state c.args.step) (sym ok.same)

-- what is held after the call stands
pub take_call-held-requires-clause-stands : goal.take_call-held-requires-clause-stands
take_call-held-requires-clause-stands g c =
    let book = g.J.Naming.book in
    let limits = g.J.Naming.limits in
    let p = c.args.pass.now.caller in
    let ok = c.in-Ok.ensures in
    subst (Stands book limits) (sym (λ i. held_after (ok.same i) p.number c.args.step (ok.prefix i)))
    (stands_after book limits c.args.self ok.stands c.args.handed p c.args.step c.requires.of c.requires.handed ok.ahead.own)

-- and is the pass's
pub count-requires-clause-own : goal.count-requires-clause-own
count-requires-clause-own g c =
    let x = c.args.self in
    let p = c.args.pass.now.caller in
    let e = c.args.step in
    let prefix = c.again-seen.ensures ∙ c.in-Ok.ensures.prefix in
    subst (λ (k : Prefix). HasCallsOf (record p { calls = p.calls + 1 }) k.list) (sym prefix) (calls_made x.prefix.list x.desk p e (reply x.desk.state p.number e) c.in-Ok.ensures.ahead.own)

-- it changed no more than these totals
pub count-requires-clause-changed : goal.count-requires-clause-changed
count-requires-clause-changed g c =
    let book = g.J.Naming.book in
    let limits = g.J.Naming.limits in
    let x = c.args.self in
    let p = c.args.pass.now.caller in
    let e = c.args.step in
    let ok = c.in-Ok.ensures in
    let o = c.take_call-held.result.2 in
    let before : c.again-before.result ≡ x.prefix = c.again-before.ensures ∙ ap (λ (y : Held). y.prefix) (c.held.view_is ∙ ok.same) in
    let seen : c.again-seen.result ≡ prefix_after x p e = c.again-seen.ensures ∙ ok.prefix in
    let writes = subst (λ (y : Held). IfSome o (λ totals. Writes y.desk.state.cluster totals (after y.desk.state p.number e).cluster)) ok.same c.take_call-held.ensures.totals in
    subst (λ (k : Prefix). IfSome o (λ totals. Changed limits k.list totals c.again-seen.result.list)) (sym before)
    (subst (λ (k : Prefix). IfSome o (λ totals. Changed limits x.prefix.list totals k.list)) (sym seen)
    (changed_by book limits x (held_after x p.number e (prefix_after x p e)) o ok.stands (stands_after book limits x ok.stands c.args.handed p e c.requires.of c.requires.handed ok.ahead.own) writes))

-- so the call was applied
pub returns-in-Ok-clause-applied : goal.returns-in-Ok-clause-applied
returns-in-Ok-clause-applied g c =
    let book = g.J.Naming.book in
    let limits = g.J.Naming.limits in
    let x = c.args.self in
    let p = c.args.pass.now.caller in
    let e = c.args.step in
    let ok = c.in-Ok.ensures in
    let answer = reply x.desk.state p.number e in
    let prefix = c.again-seen.ensures ∙ ok.prefix in
    let told : c.take_call-held.result.1 ≡ answer = c.take_call-held.ensures.said ∙ ap (λ (y : Held). reply y.desk.state p.number e) ok.same in
    let now : c.count.new.self ≡ record { caller = record { number = p.number; calls = p.calls + 1 }; seen = x.prefix.list ++ next_call x.desk.state p.number (p.calls + 1) e ∷ [] } = c.count.ensures ∙ ap (λ (k : Prefix). record { caller = record p { calls = p.calls + 1 }; seen = k.list }) prefix in
    subst (IsApplied (record { limits = limits; handed = c.args.handed }) c.args.pass.now e c.take_call-held.result.1) (sym now)
    (subst (λ r. IsApplied (record { limits = limits; handed = c.args.handed }) c.args.pass.now e r (record { caller = record { number = p.number; calls = p.calls + 1 }; seen = x.prefix.list ++ next_call x.desk.state p.number (p.calls + 1) e ∷ [] })) (sym told)
    (applied_more book limits x ok.stands p.number p.calls e c.args.handed c.args.pass.now refl c.requires.of c.requires.handed ok.ahead))

-- what a call asks of the pass and of its step
pub take_call-held-requires-clause-number : goal.take_call-held-requires-clause-number
take_call-held-requires-clause-number g c =
    let of = c.requires.of in
    let handed = c.requires.handed in
    omega arith

pub take_call-held-requires-clause-fits : goal.take_call-held-requires-clause-fits
take_call-held-requires-clause-fits g c = c.in-Ok.ensures.left

pub take_call-held-requires-clause-timely : goal.take_call-held-requires-clause-timely
take_call-held-requires-clause-timely g c = c.requires.timely

pub take_call-held-requires-clause-subject : goal.take_call-held-requires-clause-subject
take_call-held-requires-clause-subject g c =
    let ok = c.in-Ok.ensures in
    subst (λ (x : Held). IsSubject x.desk.state.cluster c.args.step c.in-Ok.field-0.subject) (sym ok.same) ok.subject

pub count-requires-clause-calls : goal.count-requires-clause-calls
count-requires-clause-calls g c = c.in-Ok.ensures.left

pub returns-in-Ok-clause-used_up : goal.returns-in-Ok-clause-used_up
returns-in-Ok-clause-used_up g c = c.in-Ok.ensures.used_up

pub returns-in-Err-clause-same : goal.returns-in-Err-clause-same
returns-in-Err-clause-same g c = c.get_ready.ensures.same

-- the history before the call, and the one after it, are of this desk
pub count-requires-clause-before : goal.count-requires-clause-before
count-requires-clause-before g c =
    let ok = c.in-Ok.ensures in
    ap (λ (p : Prefix). p.book) c.again-before.ensures ∙ ap (λ (x : Held). x.prefix.book) (c.held.view_is ∙ ok.same) ∙ ok.stands.book_is

pub count-requires-clause-book : goal.count-requires-clause-book
count-requires-clause-book g c =
    let ok = c.in-Ok.ensures in
    ap (λ (p : Prefix). p.book) (c.again-seen.ensures ∙ ok.prefix) ∙ ok.stands.book_is
