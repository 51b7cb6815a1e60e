use Rattle.std.proofs.Common.{◌≡◌, ◌∙◌, List, ℕ, [], map, codes, ap, sym, rules, Bor}
use Rattle.std.specs.Prelude.{unwrap_or}
use Rattle.std.proofs.lemmas.Result.{IfOk-weaker}
use Rattle.clap.proofs.WalkLemmas.{raw_values-rows}
use Rattle.clap.specs.Words.{all_of, found_of, rows_of}
use Rattle.command.specs.Words.{specs_of}
use Rattle.command.proofs.FoundLemmas.{texts_or_none}
use Rattle.command.proofs.command_line.specs_behind.Goals as goal

pub returns-clause-ok : goal.returns-clause-ok
returns-clause-ok c =
    let f = found_of c.args.matches.now in
    let texts : map (λ s. s.now) c.unwrap_or-words.result.now ≡ unwrap_or (all_of (codes "SPEC") (rows_of f)) [] =
    ap (λ (w : Bor (List (Bor (List ℕ)))). map (λ s. s.now) w.now) c.unwrap_or-words.ensures
    ∙ texts_or_none c.get_raw.result c.as_slice.result (search rules)
    ∙ ap (λ o. unwrap_or o []) (c.get_raw.ensures ∙ raw_values-rows f (codes "SPEC")) in
    IfOk-weaker c.specs_of.result _ _ (λ specs are. ap specs_of (sym texts) ∙ are) c.specs_of.ensures.ok

pub returns-clause-refused : goal.returns-clause-refused
returns-clause-refused c =
    let f = found_of c.args.matches.now in
    let texts : map (λ s. s.now) c.unwrap_or-words.result.now ≡ unwrap_or (all_of (codes "SPEC") (rows_of f)) [] =
    ap (λ (w : Bor (List (Bor (List ℕ)))). map (λ s. s.now) w.now) c.unwrap_or-words.ensures
    ∙ texts_or_none c.get_raw.result c.as_slice.result (search rules)
    ∙ ap (λ o. unwrap_or o []) (c.get_raw.ensures ∙ raw_values-rows f (codes "SPEC")) in
    λ e. ap specs_of (sym texts) ∙ c.specs_of.ensures.refused e
