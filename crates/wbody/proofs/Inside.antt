-- What is in reach inside open blocks.
use Rattle.std.proofs.Common.{◌≡◌, List, [], ◌∷◌, ◌++◌, Option, map, reverse, refl, ap, ◌∙◌}
use Rattle.wcode.specs.declared.value.ValueType.{ValueType}
use Rattle.wcode.specs.declared.value.BlockType.{BlockType}
use Rattle.wbody.specs.declared.scope.Opened.{Opened}
use Rattle.wbody.specs.declared.scope.Level.{Level}
use Rattle.wbody.specs.declared.scope.Scope.{Scope}
use Rattle.wbody.specs.Context.{Context, results_of}
use Rattle.wbody.specs.inside.Scope.{IsScope, carried, carried_by, labels_of}
use Rattle.wbody.specs.inside.Steps.{IsBase}
use Rattle.wbody.specs.inside.Standing.{Open, inner_context, Layers}

pub labels_inside : (c : Context) (vs : List Level) (os : List Open) (below : List (Option ValueType)) → Layers vs os below → (inner_context c os).labels ≡ map carried_by vs ++ c.labels
labels_inside c [] [] below l = refl
labels_inside c [] (o ∷ os) below l = absurd l
labels_inside c (v ∷ vs) [] below l = absurd l
labels_inside c (v ∷ vs) (o ∷ os) below l =
    ap (λ (k : Opened). carried k (results_of o.type) ∷ (inner_context c os).labels) l.0
    ∙ ap (λ (t : BlockType). carried v.kind (results_of t) ∷ (inner_context c os).labels) l.1
    ∙ ap (λ x. carried_by v ∷ x) (labels_inside c vs os _ l.5)

pub scope_inside : (s : Scope) (c : Context) (os : List Open) → IsScope s c → IsScope s (inner_context c os)
scope_inside s c [] h = h
scope_inside s c (o ∷ os) h =
    let k = scope_inside s c os h in
    record { types = k.types; imports = k.imports; functions = k.functions; has_table = k.has_table; has_memory = k.has_memory; globals = k.globals; locals = k.locals; result = k.result }

pub base_labels : (s : Scope) (c : Context) (levels : List Level) (os : List Open) (below : List (Option ValueType)) → IsBase s c → Layers (reverse levels) os below → (inner_context c os).labels ≡ labels_of levels s.result
base_labels s c levels os below b l = labels_inside c (reverse levels) os below l ∙ ap (λ x. map carried_by (reverse levels) ++ x) b.1
