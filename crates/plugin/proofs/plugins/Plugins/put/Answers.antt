use Rattle.std.proofs.Common.{◌≡◌, ◌<◌, ◌++◌, ◌∷◌, [], List, length, sym, ap, ◌∙◌, subst, arith}
use Rattle.std.proofs.lemmas.List.{length-map}
use Rattle.plugin.specs.Plugins.{Configured, IsTaken}
use Rattle.plugin.specs.inside.Entries.{configured}
use Rattle.plugin.proofs.EntryLemmas.{grown, entries_kept, entries_grown, plugins_grown, where_ok, where_err}
use Rattle.plugin.proofs.plugins.Plugins.put.Goals as goal

-- the table with one more entry
more : (c : goal.Else-is_err) → c.insert.new.self.entries ≡ c.self.inside.entries.entries ++ (c.args.name, c.args.entry) ∷ []
more c =
    where_ok c.insert.result _ (sym c.is_err.ensures.value ∙ c.if-is_err.false) c.insert.ensures.entries
    ∙ grown c.self.inside.entries.entries c.args.name c.args.entry (λ taken. c.requires.alone (subst (λ (plugins : List Configured). IsTaken plugins c.args.name) c.self.view_is taken))

pub returns-clause-added : goal.returns-clause-added
returns-clause-added c =
    plugins_grown c.self.inside (record { entries = c.insert.new.self }) c.args.name c.args.entry (more c)
    ∙ ap (λ (plugins : List Configured). plugins ++ configured (c.args.name, c.args.entry) ∷ []) c.self.view_is

pub invariant_of-self-2 : goal.invariant_of-self-2
invariant_of-self-2 c =
    let room : length c.self.inside.entries.entries < 16 = omega (arith, c.requires.room, ap length c.self.view_is, length-map c.self.inside.entries.entries configured) in
    entries_grown c.self.inside (record { entries = c.insert.new.self }) c.args.name c.args.entry c.self.invariant room c.requires.weight c.requires.fuel (more c)

pub invariant_of-self : goal.invariant_of-self
invariant_of-self c =
    entries_kept c.self.inside (record { entries = c.insert.new.self }) c.self.invariant (where_err c.insert.result _ (sym c.is_err.ensures.value ∙ c.if-is_err.true) c.insert.ensures.err)
