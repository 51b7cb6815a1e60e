-- What two lines ask for that have no field but their operation, spelled without spaces.
use Rattle.std.proofs.Common.{◌≡◌, codes, Ok, refl}
use Rattle.std.specs.Str.{is_utf8, chars}
use Rattle.json.specs.Json.{value}
use Rattle.json.specs.Lex.{punctuate, lex}
use Rattle.json.specs.Text.{content}
use Rattle.manifest.specs.declared.command.Command.TheVariants as commands
use Rattle.manifest.specs.Field.{key}
use Rattle.manifest.specs.Line.{meaning, command_in, fields_of}
use Rattle.manifest.specs.Operation.{operation_named}
use Rattle.manifest.specs.Reading.{parsed, member, text}

pub cycle_line : meaning (codes "{\"op\":\"cycle\"}") ≡ Ok commands.Cycle
unfolding meaning parsed command_in fields_of member text key operation_named is_utf8 chars value punctuate lex content lib.Utf8.encode
cycle_line = refl

pub dump_line : meaning (codes "{\"op\":\"dump\"}") ≡ Ok commands.Dump
unfolding meaning parsed command_in fields_of member text key operation_named is_utf8 chars value punctuate lex content lib.Utf8.encode
dump_line = refl
