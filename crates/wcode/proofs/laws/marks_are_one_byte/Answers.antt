use Rattle.std.proofs.Common.{refl}
use Rattle.wcode.specs.declared.opcode.Form.TheVariants as forms
use Rattle.wcode.specs.Grammar.{otherwise, end}
use Rattle.wcode.proofs.KnownWords.{known_word}
use Rattle.wcode.proofs.laws.marks_are_one_byte.Goals as goal

pub returns-clause-else_mark : goal.returns-clause-else_mark
returns-clause-else_mark c bytes at h e = known_word bytes at forms.Else otherwise _ h e (refl, refl)

pub returns-clause-end_mark : goal.returns-clause-end_mark
returns-clause-end_mark c bytes at h e = known_word bytes at forms.End end _ h e (refl, refl)
