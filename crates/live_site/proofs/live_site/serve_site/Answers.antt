use Rattle.std.proofs.Common.{◌∙◌, inl, inr, refl, map}
use Rattle.command.specs.Words.{syntax_of}
use Rattle.streams.specs.declared.fault.RunFault.TheVariants.{NoMemory}
use Rattle.fault_line.specs.declared.fault.Fault.TheVariants.{Run}
use Rattle.live_site.proofs.LiveEnds.{answered_by}
use Rattle.live_site.proofs.live_site.serve_site.Goals as goal

-- there are no kits of the plugins
pub returns-in-Err : goal.returns-in-Err
returns-in-Err g c =
    let why = rw c.as_slice-specs.ensures.value at c.in-Err.ensures.refused in (
      map (λ m. m.items) c.args.modules.now,
      refl,
      inr (c.in-Err.refused, why, record { status = c.report.ensures.status; tells = c.report.ensures.told; unread = refl; unwritten = refl }),
    )

-- there is no room for their names and weights
pub returns-in_default : goal.returns-in_default
returns-in_default g c = (
  map (λ m. m.items) c.args.modules.now,
  refl,
  inr (Run NoMemory, inl refl, record { status = c.report-in_default.ensures.status; tells = c.report-in_default.ensures.told; unread = refl; unwritten = refl }),
)

-- the lines were answered
pub returns : goal.returns
returns g c =
    let made = rw c.as_slice-specs.ensures.value at c.in-Ok.ensures.made in
    let are_named = rw c.as_slice-specs.ensures.value at (c.as_slice.ensures.value ∙ c.in-Ok-named_in.ensures) in (
      map (λ m. m.items) c.args.modules.now,
      refl,
      inl (answered_by (map syntax_of c.args.plan.now.plan.specs.items) _ c.args.plan.now.plan.workers _ _ _ _ _ _ c.in-Ok.kits.items
          c.requires.plan.least_workers made are_named c.live_with_kits.ensures),
    )
