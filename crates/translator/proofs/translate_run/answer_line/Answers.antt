use Rattle.translator.proofs.translate_run.answer_line.Goals as goal

pub returns-in-Ok-clause-answered : goal.returns-in-Ok-clause-answered
returns-in-Ok-clause-answered c =
    let given = c.in_ok-translation.ensures.given in record {
      told = given.0;
      gives = given.1;
      translation = c.in_ok-translation.translation;
      is = given.2;
      next_is = c.version_behind.ensures.next given.0 given.2;
      answers = c.in-Ok.ensures.answers;
      left_out = c.in-Ok.ensures.left_out;
    }
