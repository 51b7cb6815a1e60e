use Rattle.std.proofs.Common.{◌≡◌, ◌∙◌, Err, map, ap, sym, rules}
use Rattle.std.proofs.lemmas.Result.{IfOk-weaker}
use Rattle.command.specs.Words.{found}
use Rattle.command.specs.declared.fault.WordFault.TheVariants.{BadWords}
use Rattle.command.proofs.FoundLemmas.{meaning_taken, meaning_refused, means_ok, means_refused, means_within}
use Rattle.command.proofs.command_line.words.Goals as goal

pub returns-in-Err-clause-refused : goal.returns-in-Err-clause-refused
returns-in-Err-clause-refused g c =
    λ e. let was : c.found_in.result ≡ Err BadWords = cc (c.in-Err.is, e) in
    meaning_refused (map g.S.AsStr.text c.args.args.now) (c.found_in.ensures.refused was)

pub returns-in-Ok-clause-ok : goal.returns-in-Ok-clause-ok
returns-in-Ok-clause-ok g c =
    let means = meaning_taken (map g.S.AsStr.text c.args.args.now) c.in-Ok.ensures.taken ∙ ap found (sym c.in-Ok.ensures.found) in
    IfOk-weaker c.words_of.result _ _ (λ w h. means ∙ h) (means_ok _ c.words_of.result c.words_of.ensures)

pub returns-in-Ok-clause-refused : goal.returns-in-Ok-clause-refused
returns-in-Ok-clause-refused g c =
    let means = meaning_taken (map g.S.AsStr.text c.args.args.now) c.in-Ok.ensures.taken ∙ ap found (sym c.in-Ok.ensures.found) in
    λ e. means ∙ means_refused _ c.words_of.result c.words_of.ensures e

pub returns-in-Ok-clause-within : goal.returns-in-Ok-clause-within
returns-in-Ok-clause-within g c = means_within _ c.words_of.result c.words_of.ensures
