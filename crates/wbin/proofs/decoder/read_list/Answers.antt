use Rattle.std.proofs.Common.{map, sym, subst, ap, ◌∙◌}
use Rattle.std.specs.Prelude.{All, option_map, ◌==◌}
use Rattle.std.proofs.lemmas.List.Elements.{All-nil}
use Rattle.wbin.specs.inside.Ids.{id_of}
use Rattle.wbin.specs.inside.Outline.{Within}
use Rattle.wbin.specs.inside.Decoded.{ReadsWhole}
use Rattle.wbin.proofs.Modules.{inside, contents_are, found_has, list_reads, none_listed}
use Rattle.wbin.proofs.decoder.read_list.Goals as goal

pub read_filling-requires : goal.read_filling-requires
read_filling-requires g c = found_has (Within c.args.bytes.now) (λ s. s.id == id_of c.args.id) c.args.sections.now c.in-Some.section c.requires (sym c.in-Some.ensures)

pub returns-in-Some-clause-read : goal.returns-in-Some-clause-read
returns-in-Some-clause-read g c =
    list_reads g.P.Part.spells (λ v. map (g.P.Part.seen c.args.bytes.now) v.items) _ (inside c.args.bytes.now c.in-Some.section) c.read_filling.result
    (contents_are c.args.bytes.now (id_of c.args.id) c.args.sections.now ∙ ap (option_map (inside c.args.bytes.now)) (sym c.in-Some.ensures)) c.read_filling.ensures.read

pub returns-in-None-clause-read : goal.returns-in-None-clause-read
unfolding ReadsWhole
returns-in-None-clause-read g c =
    none_listed g.P.Part.spells (λ v. map (g.P.Part.seen c.args.bytes.now) v.items) _ c.new.result
    (contents_are c.args.bytes.now (id_of c.args.id) c.args.sections.now ∙ ap (option_map (inside c.args.bytes.now)) (sym c.in-None.ensures)) (ap (map (g.P.Part.seen c.args.bytes.now)) c.new.ensures.items)

pub returns-in-None-clause-placed : goal.returns-in-None-clause-placed
returns-in-None-clause-placed g c = subst (All (g.P.Part.placed c.args.bytes.now)) (sym c.new.ensures.items) (All-nil (g.P.Part.placed c.args.bytes.now))
