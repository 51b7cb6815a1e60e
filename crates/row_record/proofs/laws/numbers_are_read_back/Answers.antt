use Rattle.byteorder.specs.Numbers.{little_number-reads_back}
use Rattle.row_record.specs.Record.{number_field}
use Rattle.row_record.proofs.laws.numbers_are_read_back.Goals as goal

pub returns : goal.returns
unfolding number_field
returns c = λ count number rest fits. little_number-reads_back count number rest fits
