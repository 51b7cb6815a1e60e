use Rattle.std.proofs.Common.{◌≡◌, ◌<◌, ◌^◌, take}
use Rattle.quant.specs.Amount.{number}
use Rattle.objects.proofs.heard.version_number.Given as goal

abbrev pub invariant-loop-digit : goal.invariant-loop-digit
invariant-loop-digit l = record { value : l.value ≡ number (take l.digit-index l.digits); small : l.value < 10 ^ l.digit-index }
