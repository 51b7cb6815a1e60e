use Rattle.std.proofs.Common.{◌≡◌, ◌∙◌, ap, sym, subst, drop}
use Rattle.objects.specs.LeftOut.{told_names}
use Rattle.objects.specs.Site.{site_of}
use Rattle.objects.specs.Told.{Told, told}
use Rattle.objects.specs.inside.Said.{IsSaid}
use Rattle.objects.proofs.Standing.{every_line_is_counted}
use Rattle.objects.proofs.Shown.{told_names_are_short, told_is_said}
use Rattle.objects.proofs.translation.translate.Goals as goal

pub returns-clause-short : goal.returns-clause-short
returns-clause-short c =
    let given = told (site_of c.args.site.now) c.args.by_uid c.args.version c.args.line.now in
    let names : c.told.new.out.bytes.items ≡ given.left_out = ap (λ (t : Told). t.left_out) (sym c.in_ok-event.ensures) in
    told_names_are_short (site_of c.args.site.now) c.args.by_uid c.args.version c.args.line.now c.in_ok-left_out.left_out.items
    (c.in_ok-left_out.ensures.told ∙ ap (λ n. drop 2 (told_names n)) names)

pub spelled-requires : goal.spelled-requires
spelled-requires c =
    subst (λ (t : Told). IsSaid t.event) c.in_ok-event.ensures (told_is_said (site_of c.args.site.now) c.args.by_uid c.args.version c.args.line.now c.requires)

pub returns-in_err-event-clause-counted : goal.returns-in_err-event-clause-counted
returns-in_err-event-clause-counted c = every_line_is_counted (site_of c.args.site.now) c.args.by_uid c.args.version c.args.line.now

pub returns-in_err-line-clause-counted : goal.returns-in_err-line-clause-counted
returns-in_err-line-clause-counted c = every_line_is_counted (site_of c.args.site.now) c.args.by_uid c.args.version c.args.line.now

pub returns-in_err-left_out-clause-counted : goal.returns-in_err-left_out-clause-counted
returns-in_err-left_out-clause-counted c = every_line_is_counted (site_of c.args.site.now) c.args.by_uid c.args.version c.args.line.now

pub returns-clause-counted : goal.returns-clause-counted
returns-clause-counted c = every_line_is_counted (site_of c.args.site.now) c.args.by_uid c.args.version c.args.line.now
