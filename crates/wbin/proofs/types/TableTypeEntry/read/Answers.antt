use Rattle.wbin.proofs.SpelledTypes.{table_type_reads}
use Rattle.wbin.proofs.types.TableTypeEntry.read.Goals as goal

pub returns : goal.returns
returns c = table_type_reads c.args.bytes.now c.args.at c.read.result c.in_ok-expect_byte.ensures.found c.read.ensures
