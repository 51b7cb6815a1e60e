use Rattle.std.proofs.Common.{◌≡◌, ◌+◌, ◌<◌, ◌≤◌, ◌∙◌, ℕ, List, Some, length, sym, ap, subst}
use Rattle.std.specs.Prelude.{slice_get}
use Rattle.std.specs.List.{AllByRecursion}
use Rattle.wmodule.specs.Syntax.{ModuleParts, ElementSyntax, module_of}
use Rattle.wbody.specs.Context.{function_types}
use Rattle.wtype.specs.CheckedModule.{CheckedModule}
use Rattle.wtype.specs.Accepted.{Accepted, ElementTyped}
use Rattle.wtype.proofs.Each.{at_place}
use Rattle.wtype.proofs.Sized.{At, some_at}
use Rattle.wstore.specs.Segments.{offset_of, ElementsFit}
use Rattle.wstore.specs.State.{StoreState, syntax_of}
use Rattle.wstore.specs.inside.Inside.{parts_of}
use Rattle.wstore.proofs.Changes.{put_sound, same_bound}
use Rattle.wstore.proofs.store.Store.put_elements.Goals as goal

-- the segment, and what was told of it
record Told (p : ModuleParts) (segment at size : ℕ) (functions : List ℕ) : Type 0 where
  bound : at + length functions ≤ size
  all : AllByRecursion (λ f. f < length (function_types (module_of p))) functions

told : (p found : ModuleParts) (segment at size : ℕ) (functions : List ℕ) → found ≡ p → Accepted (module_of p) → segment < length (module_of p).element_segments
    → ((s : ElementSyntax) → slice_get (module_of p).element_segments segment ≡ Some s → offset_of s.offset + length s.functions ≤ size)
    → ((s : ElementSyntax) → slice_get (module_of found).element_segments segment ≡ Some s → at ≡ offset_of s.offset)
    → ((s : ElementSyntax) → slice_get (module_of found).element_segments segment ≡ Some s → functions ≡ s.functions)
    → Told p segment at size functions
told p found segment at size functions same ok within fits at_is functions_are =
    let a : At (module_of p).element_segments segment = some_at (module_of p).element_segments segment within in
    let there : slice_get (module_of found).element_segments segment ≡ Some a.element = subst (λ (q : ModuleParts). slice_get (module_of q).element_segments segment ≡ Some a.element) (sym same) a.is in
    let typed : ElementTyped (module_of p) a.element = at_place (ElementTyped (module_of p)) (module_of p).element_segments segment a.element a.is ok.typed.rules.elements in
    record {
      bound = same_bound at (length functions) size (offset_of a.element.offset) (length a.element.functions) (at_is a.element there) (ap length (functions_are a.element there)) (fits a.element a.is);
      all = subst (AllByRecursion (λ f. f < length (function_types (module_of p)))) (sym (functions_are a.element there)) typed.functions;
    }

pub put_functions-requires : goal.put_functions-requires
put_functions-requires c =
    let t =
    told (parts_of c.self.inside) c.module.result.now c.args.segment c.elements_of-at.result.0 (length c.self.inside.table.places) c.elements_of-at.result.1.now
    (c.module.ensures.value ∙ ap (λ (k : CheckedModule). k.content) c.deref.ensures)
    (subst (λ (k : CheckedModule). Accepted (module_of k.content)) c.deref.ensures c.module.ensures.accepted)
    (subst (λ (s : StoreState). c.args.segment < length (syntax_of s).element_segments) (sym c.self.view_is) c.requires.there)
    (subst (λ (s : StoreState). (e : ElementSyntax) → slice_get (syntax_of s).element_segments c.args.segment ≡ Some e → ElementsFit e s.current) (sym c.self.view_is) c.requires.in_bounds)
    c.elements_of-at.ensures.at
    c.elements_of-at.ensures.functions in
    t.bound

pub invariant_of-self : goal.invariant_of-self
invariant_of-self c =
    let t =
    told (parts_of c.self.inside) c.module.result.now c.args.segment c.elements_of-at.result.0 (length c.self.inside.table.places) c.elements_of-at.result.1.now
    (c.module.ensures.value ∙ ap (λ (k : CheckedModule). k.content) c.deref.ensures)
    (subst (λ (k : CheckedModule). Accepted (module_of k.content)) c.deref.ensures c.module.ensures.accepted)
    (subst (λ (s : StoreState). c.args.segment < length (syntax_of s).element_segments) (sym c.self.view_is) c.requires.there)
    (subst (λ (s : StoreState). (e : ElementSyntax) → slice_get (syntax_of s).element_segments c.args.segment ≡ Some e → ElementsFit e s.current) (sym c.self.view_is) c.requires.in_bounds)
    c.elements_of-at.ensures.at
    c.elements_of-at.ensures.functions in
    put_sound c.self.inside c.put_functions.new.table c.elements_of-at.result.0 c.elements_of-at.result.1.now c.self.invariant t.bound
    c.put_functions.ensures.places c.put_functions.ensures.image t.all
