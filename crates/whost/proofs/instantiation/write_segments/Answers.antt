use Rattle.std.proofs.Common.{All, sym, ap, ◌∙◌, subst}
use Rattle.wmodule.specs.Syntax.{module_of}
use Rattle.wstore.specs.Segments.{DataFits}
use Rattle.wmach.specs.Call.{MachineState}
use Rattle.whost.specs.Image.{with_segments, with_all_data}
use Rattle.whost.proofs.SegmentLemmas.{data_fit_behind_elements}
use Rattle.whost.proofs.instantiation.write_segments.Goals as goal

pub write_data-requires : goal.write_data-requires
write_data-requires c =
    let before = c.args.machine.now in
    let m = module_of before.content in
    subst (λ (x : MachineState). All (λ s. DataFits s x.store) (module_of x.content).data_segments) (sym c.write_elements.ensures)
    (data_fit_behind_elements m.element_segments m.data_segments before.store c.requires.data_segments)

pub returns : goal.returns
unfolding with_segments
returns c =
    c.write_data.ensures
    ∙ ap (λ (x : MachineState). record x { store = with_all_data (module_of x.content).data_segments x.store }) c.write_elements.ensures
