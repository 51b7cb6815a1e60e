use Rattle.desk.proofs.Alone.{answers_alone, looks_alone}
use Rattle.desk.proofs.laws.one_pass_is_alone.Goals as goal

pub returns-clause-answers : goal.returns-clause-answers
returns-clause-answers c = answers_alone

pub returns-clause-looks : goal.returns-clause-looks
returns-clause-looks c = looks_alone
