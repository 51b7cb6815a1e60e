use Rattle.std.proofs.Common.{◌≤◌, map, sym, subst, ◌∙◌}
use Rattle.quant.specs.declared.amount.Request.{Request}
use Rattle.desk.specs.Shown.{shown}
use Rattle.desk.specs.Worth.{IsFirstGreatest, worth}
use Rattle.choose.proofs.FirstPlain.{first_passes, first_there, is_plain_there, none_leads, some_leads, worth_at}
use Rattle.choose.proofs.alone.first_plain.Goals as goal

-- what is worth anything is plain
pub plain_total-requires : goal.plain_total-requires
plain_total-requires c =
    let pod = c.args.pod.now in
    let rows = c.args.rows.now in
    let best = subst (λ (r : Request). IsFirstGreatest (map (worth r) (map shown rows)) c.args.sought.first) c.requires.request c.requires.sought.first in
    let first = subst (IsFirstGreatest (map (worth pod.request) (map shown rows))) c.in-Some.is best in
    is_plain_there pod.request (shown c.index-rows-at.result)
    (subst (λ n. 1 ≤ n) (worth_at pod rows c.in-Some.at c.index-rows-at.result (first_there pod rows c.in-Some.at first) c.index-rows-at.is) first.1)

-- none is worth anything
pub returns-in_default : goal.returns-in_default
returns-in_default c =
    let pod = c.args.pod.now in
    let rows = c.args.rows.now in
    let best = subst (λ (r : Request). IsFirstGreatest (map (worth r) (map shown rows)) c.args.sought.first) c.requires.request c.requires.sought.first in
    none_leads pod rows (subst (IsFirstGreatest (map (worth pod.request) (map shown rows))) c.in_default.is best)

-- the first of those that are worth most
pub returns-in-Some-plain_total : goal.returns-in-Some-plain_total
returns-in-Some-plain_total c =
    let pod = c.args.pod.now in
    let rows = c.args.rows.now in
    let best = subst (λ (r : Request). IsFirstGreatest (map (worth r) (map shown rows)) c.args.sought.first) c.requires.request c.requires.sought.first in
    let first = subst (IsFirstGreatest (map (worth pod.request) (map shown rows))) c.in-Some.is best in
    some_leads pod rows c.in-Some.at c.index-rows-at.result c.in-Some-plain_total.worth first (first_there pod rows c.in-Some.at first) c.index-rows-at.is
    (λ most. sym c.in-Some-plain_total.is ∙ c.plain_total.ensures.total most)

-- it passes
pub returns-in-None : goal.returns-in-None
returns-in-None c =
    let pod = c.args.pod.now in
    let rows = c.args.rows.now in
    let best = subst (λ (r : Request). IsFirstGreatest (map (worth r) (map shown rows)) c.args.sought.first) c.requires.request c.requires.sought.first in
    let first = subst (IsFirstGreatest (map (worth pod.request) (map shown rows))) c.in-Some.is best in
    absurd (first_passes pod rows c.in-Some.at c.index-rows-at.result first (first_there pod rows c.in-Some.at first) c.index-rows-at.is
    (λ most. sym c.in-None.is ∙ c.plain_total.ensures.total most))
