use Rattle.std.proofs.Common.{◌≡◌, ℕ, Some, sym, ap, ◌∙◌}
use Rattle.std.specs.Prelude.{slice_get, option_and_then, option_map}
use Rattle.std.proofs.lemmas.Option.{slice_get-map, slice_get-get_or, slice_get_past}
use Rattle.wbody.proofs.scope.Scope.own.Goals as goal

pub returns-in-Some : goal.returns-in-Some
returns-in-Some c c' s =
    let functions = c.args.self.now.signatures.now in
    let f = c.in-Some.signature.now in
    let k = c.args.place in
    let type : ℕ → _ = λ x. slice_get c'.types x in
    let found : slice_get functions k ≡ Some f = slice_get-get_or functions k f c.in-Some.ensures.lookup.3.0 ∙ ap Some (sym c.in-Some.ensures.lookup.1) in
    ap (option_and_then (λ t. t)) (slice_get-map type functions k ∙ ap (option_map type) found) ∙ c.listed.ensures c' s

pub returns-in-None : goal.returns-in-None
returns-in-None c c' s =
    let functions = c.args.self.now.signatures.now in
    let k = c.args.place in
    let type : ℕ → _ = λ x. slice_get c'.types x in
    ap (option_and_then (λ t. t)) (slice_get-map type functions k ∙ ap (option_map type) (slice_get_past functions k c.in-None.ensures.lookup.3))
