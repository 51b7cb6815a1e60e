-- What holds of an output, and of a fault of the script.
use Rattle.std.proofs.Common.{◌≡◌, List, [], ℕ, Option, sym, refl, arith}
use Rattle.rules.specs.RuleSet.{RuleSet}
use Rattle.std.proofs.lemmas.List.{append-nil}
use Rattle.streams.specs.Lines.{lines_of}
use Rattle.streams.specs.Script.{asked_in}
use Rattle.streams.specs.Script.{taken}
use Rattle.engine.specs.Output.{WritesOutput, WritesFront}
use Rattle.streams.specs.declared.fault.RunFault.{RunFault}
use Rattle.streams.specs.declared.fault.RunFault.TheVariants as run_fault
use Rattle.output_lines.specs.Telling.{Telling}
use Rattle.manifest.specs.declared.fault.LineFault.{LineFault}
use Rattle.fault_line.specs.Fault.{status_of}
use Rattle.fault_line.specs.declared.fault.Fault.TheVariants.{Run}

-- the whole output is a beginning of it
pub output_front : (rules : RuleSet) (telling : Telling) (script : List ℕ) (old new : Option (List ℕ)) → WritesOutput rules telling script old new → WritesFront rules telling script old new
output_front rules telling script old new (text, output, writes) = (
  text,
  record {
    asked = asked_in taken (lines_of script);
    later = [];
    cut = sym (append-nil (asked_in taken (lines_of script)));
    end = output.end;
    text = text;
    answered = output.answered;
    rest = [];
    begins = sym (append-nil text);
  },
  writes,
)

-- a run ends with status 1 at a faulty line alone
pub at_a_line : (fault : RunFault) → status_of (Run fault) ≡ 1 → (number : ℕ) × (told : LineFault) × (fault ≡ run_fault.Line number told)
at_a_line (run_fault.Line number told) one = (number, told, refl)
at_a_line run_fault.NoMemory one = absurd (omega (arith, one))
at_a_line run_fault.Read one = absurd (omega (arith, one))
at_a_line run_fault.Write one = absurd (omega (arith, one))
at_a_line run_fault.NoPlace one = absurd (omega (arith, one))
