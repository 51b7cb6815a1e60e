use Rattle.std.proofs.Common.{◌≡◌, true, false, [], ◌∷◌, sym, ap, ◌∙◌, subst}
use Rattle.std.specs.Prelude.{◌&&◌}
use Rattle.wcode.specs.declared.value.ValueType.{ValueType}
use Rattle.wcode.specs.declared.value.ValueType.TheVariants.{I32}
use Rattle.wcode.specs.Operators.{load_type, load_bytes}
use Rattle.wbody.specs.Typing.{takes_gives, is_aligned}
use Rattle.wbody.specs.inside.Words.{PlainHere}
use Rattle.wbody.proofs.KindForms.{form_load}
use Rattle.wbody.proofs.PlainWords.{load_here, here_true, here_false, over_plain, over_untyped}
use Rattle.wbody.proofs.over.over_load.Goals as goal

pub load_at-next-requires-clause-known : goal.load_at-next-requires-clause-known
load_at-next-requires-clause-known c = form_load _ c.args.op c.requires.known

pub returns : goal.returns
returns c =
    let i = c.load_at-next in
    let may = c.args.scope.now.has_memory && is_aligned i.result.0 (load_bytes c.args.op) in
    let yes : may ≡ true = ap (λ n. c.args.scope.now.has_memory && is_aligned i.result.0 n) (sym c.bytes.ensures) ∙ sym c.may_access.ensures ∙ c.if-not-may_access.false in
    over_plain c.args.scope.now c.args.bytes.now c.args.at i.result.1 (takes_gives (I32 ∷ []) (c.value_type.result ∷ [])) c.change_one.result c.and.result c.args.stack.now c.change_one.new.self
    (subst (λ (t : ValueType). PlainHere c.args.scope.now c.args.bytes.now c.args.at i.result.1 (takes_gives (I32 ∷ []) (t ∷ []))) (sym c.value_type.ensures)
    (here_true c.args.scope.now c.args.bytes.now c.args.at i.result.1 may (takes_gives (I32 ∷ []) (load_type c.args.op ∷ [])) yes (load_here c.args.scope.now c.args.bytes.now c.args.at i.result.1 c.args.op i.result.0 i.ensures.word i.ensures.end.0 i.ensures.end.1)))
    c.change_one.ensures c.and.ensures

pub returns-then-not-may_access : goal.returns-then-not-may_access
returns-then-not-may_access c =
    let i = c.load_at-next in
    let may = c.args.scope.now.has_memory && is_aligned i.result.0 (load_bytes c.args.op) in
    let no : may ≡ false = ap (λ n. c.args.scope.now.has_memory && is_aligned i.result.0 n) (sym c.bytes.ensures) ∙ sym c.may_access.ensures ∙ c.if-not-may_access.true in
    over_untyped c.args.scope.now c.args.bytes.now c.args.at i.result.1 c.args.stack.now c.args.stack.now
    (here_false c.args.scope.now c.args.bytes.now c.args.at i.result.1 may (takes_gives (I32 ∷ []) (load_type c.args.op ∷ [])) no (load_here c.args.scope.now c.args.bytes.now c.args.at i.result.1 c.args.op i.result.0 i.ensures.word i.ensures.end.0 i.ensures.end.1))
