-- What a run of a script promises.
use Rattle.std.specs.Prelude.{◌≡◌, ◌≢◌, ◌<◌, ℕ, [], Some, None, Result, Err, IfSome, OnOk, OnErr}
use Rattle.output_lines.specs.Telling.{Telling}
use Rattle.manifest.specs.declared.fault.LineFault.{LineFault}
use Rattle.rules.specs.RuleSet.{RuleSet}
use Rattle.streams.specs.declared.fault.RunFault.{RunFault}
use Rattle.streams.specs.declared.fault.RunFault.TheVariants.{Line, Read, Write}
use Rattle.streams.specs.Device.{DeviceUse}
use Rattle.streams.specs.Script.{first_fault}
use Rattle.engine.specs.Output.{WritesOutput, WritesFront}

-- A run by these rules, which have these names, took its script from this source, wrote to this
-- sink, and came to this.
pub record IsRun {T : Type 0} (rules : RuleSet) (telling : Telling) (source sink : DeviceUse) (result : Result T RunFault) : Type 0 where
  -- no line is faulty, the output is written whole, and everything is read
  pub done : OnOk result (IfSome source.old (λ script. (first_fault script ≡ None) × WritesOutput rules telling script sink.old sink.new × (source.new ≡ Some [])))
  -- the line is the first faulty one, and the output of the lines before it is written whole
  pub line : (number : ℕ) (fault : LineFault) → result ≡ Err (Line number fault)
      → IfSome source.old (λ script. (first_fault script ≡ Some (number, fault)) × WritesOutput rules telling script sink.old sink.new)
  -- at any fault a beginning of the output is written, and nothing else
  pub front : OnErr result (IfSome source.old (λ script. WritesFront rules telling script sink.old sink.new))
  -- a failure is told only where the device failed meanwhile
  pub read : result ≡ Err Read → source.failures_old < source.failures_new
  pub write : result ≡ Err Write → sink.failures_old < sink.failures_new
  -- and each failure is told: at any other end no read, and no write, has failed
  pub read_told : result ≢ Err Read → source.failures_new ≡ source.failures_old
  pub write_told : result ≢ Err Write → sink.failures_new ≡ sink.failures_old
