use Rattle.translator.proofs.Scripts.{is_script}
use Rattle.translator.proofs.laws.translations_are_scripts.Goals as goal

pub returns : goal.returns
returns c = is_script
