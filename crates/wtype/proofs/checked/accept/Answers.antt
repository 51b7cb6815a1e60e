use Rattle.std.proofs.Common.{◌≡◌, IfErr, sym, ◌∙◌, subst}
use Rattle.std.proofs.lemmas.Result.{err_from_is_err_and}
use Rattle.wmodule.specs.Syntax.{module_of}
use Rattle.wbody.specs.declared.fault.TypeFault.{TypeFault}
use Rattle.wbody.specs.declared.fault.TypeFault.TheVariants.{NoMemory}
use Rattle.wtype.specs.Accepted.{Accepted, RulesKept}
use Rattle.wtype.proofs.Kept.{on_true}
use Rattle.wtype.proofs.Sized.{module_typed, accepted_told}
use Rattle.wtype.proofs.checked.accept.Goals as goal

pub returns-in_default-clause-refused : goal.returns-in_default-clause-refused
returns-in_default-clause-refused c =
    let m = module_of c.args.decoded.now in
    let rules : RulesKept m = on_true _ c.in-Ok-true.field-0 c.in-Ok-true.field-0-test c.in-Ok-true.ensures in
    (c.if-not-imports_right.ensures, module_typed c.args.decoded.now _ rules c.in_ok-notes.ensures.typed, c.in_default.ensures)

pub returns-then-not-is_small-clause-refused : goal.returns-then-not-is_small-clause-refused
returns-then-not-is_small-clause-refused c =
    let m = module_of c.args.decoded.now in
    let rules : RulesKept m = on_true _ c.in-Ok-true.field-0 c.in-Ok-true.field-0-test c.in-Ok-true.ensures in
    (c.if-not-imports_right.ensures, module_typed c.args.decoded.now _ rules c.in_ok-notes.ensures.typed, c.in-Some.ensures.0, c.if-not-is_small.ensures)

whole : (c : goal.Else-not-is_small) → Accepted (module_of c.args.decoded.now)
whole c =
    let m = module_of c.args.decoded.now in
    let rules : RulesKept m = on_true _ c.in-Ok-true.field-0 c.in-Ok-true.field-0-test c.in-Ok-true.ensures in
    record {
      imports = c.if-not-imports_right.ensures;
      typed = module_typed c.args.decoded.now c.in_ok-notes.notes.items rules c.in_ok-notes.ensures.typed;
      exports = c.in-Some.ensures.0;
      small = c.if-not-is_small.ensures;
    }

pub returns-clause-accepted : goal.returns-clause-accepted
returns-clause-accepted c = whole c

-- ---- a module that is accepted isn't refused

pub returns-then-not-imports_right-clause-whole : goal.returns-then-not-imports_right-clause-whole
returns-then-not-imports_right-clause-whole c all = absurd (c.if-not-imports_right.ensures all.imports)

pub returns-in_default-clause-whole : goal.returns-in_default-clause-whole
returns-in_default-clause-whole c all = absurd (c.in_default.ensures all.exports)

pub returns-then-not-is_small-clause-whole : goal.returns-then-not-is_small-clause-whole
returns-then-not-is_small-clause-whole c all = absurd (c.if-not-is_small.ensures all.small)

pub returns-in_err-notes-clause-whole : goal.returns-in_err-notes-clause-whole
returns-in_err-notes-clause-whole c all =
    let m = module_of c.args.decoded.now in
    let q = err_from_is_err_and c.from_residual.result c.from_residual.ensures.1 in
    let told : c.in_err-notes.field-0.0 ≡ NoMemory = accepted_told m c.in_err-notes.field-0.0 c.in_err-notes.ensures.refused all in
    subst (λ r. IfErr r (λ (fault : TypeFault). fault ≡ NoMemory)) (sym q.1) (q.2 ∙ told)
