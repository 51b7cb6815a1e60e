use Rattle.std.proofs.Common.{◌≡◌, ◌∙◌, false, ◌==◌, length, ap, sym}
use Rattle.std.proofs.lemmas.Result.{IfOk-weaker}
use Rattle.translator.specs.Translate.{left_out_text}
use Rattle.translator.proofs.LeftOut.{left_out_told}
use Rattle.translator.proofs.answer_text.left_out_text.Goals as goal

pub returns : goal.returns
unfolding left_out_text
returns c =
    let named = rw (c.deref.ensures.value, c.in-Ok.ensures) at c.put_object.ensures in
    let told = rw (c.left_out_words.ensures, c.deref-2.ensures.value, c.deref-3.ensures.value) at c.put_two.ensures in
    let some : false ≡ (length c.args.translation.now.left_out.items == 0) =
    sym c.if-is_empty.false ∙ c.is_empty.ensures ∙ ap (λ n. n == 0) c.args.translation.now.left_out.ok.0 in
    rw c.if-answers.false
    (IfOk-weaker c.build.result _ _
    (λ text holds. sym holds.1
    ∙ left_out_told c.args.number _ c.args.translation.now.line.items c.args.translation.now.left_out.items
    c.new-text.result c.put_number.new.self c.put_object.new.text c.put_two.new.self c.put.new.self
    some c.new-text.ensures c.put_number.ensures named told c.put.ensures holds.0)
    c.build.ensures)
