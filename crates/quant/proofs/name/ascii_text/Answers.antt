use Rattle.std.proofs.lemmas.Str.{IsUtf8-from_ascii}
use Rattle.quant.proofs.NameLemmas.{is_ok_where}
use Rattle.quant.proofs.name.ascii_text.Goals as goal

pub unwrap-requires : goal.unwrap-requires
unwrap-requires c = is_ok_where _ _ _ _ c.from_utf8.ensures.cases (IsUtf8-from_ascii c.args.bytes.now c.requires)
