use Rattle.std.proofs.Common.{◌≡◌, ◌==◌, true, [], ◌∷◌, ◌++◌, sym, ◌∙◌, ap, length}
use Rattle.std.proofs.lemmas.Bool.{eq-eqb}
use Rattle.desk.specs.inside.Shared.{Prefix, next_call, with_call}
use Rattle.desk.proofs.Adding.{adds_moves}
use Rattle.desk.proofs.history.Prefix.with_call.Goals as goal

-- the exchange keeps the rule
pub compare_exchange-found-requires : goal.compare_exchange-found-requires
compare_exchange-found-requires g c =
    let h = c.args.head.now.word_is in
    let offer = c.plain-offer.ensures in
    let pen = c.no_pen-pen.ensures in
    let seen = c.again-seen.ensures in
    let book : c.again-seen.result.book ≡ c.args.head.now.word.book = ap (λ s. s.book) seen ∙ (ap (λ (k : Prefix). k.book) c.self.view_is ∙ c.requires ∙ sym (ap (λ w. w.book) h)) in
    let len : length c.again-seen.result.log ≡ c.self.inside.calls = ap (λ s. length s.log) seen ∙ sym c.self.invariant.0 in (
      ap (λ w. w.tracked) h,
      book,
      pen.0 ∙ book,
      offer.0,
      rw (ap (λ w. w.key) h, pen.1, offer.1, offer.3) (adds_moves c.again-seen.result.log _ c.self.inside.calls len),
    )

-- and where it was made, the history has one call more
pub returns : goal.returns
returns g c =
    let next = c.args.next.now in
    let one = next_call next.desk.now.state next.pass next.number next.step.now in
    let seen = c.again-seen.ensures in
    let hit : (c.compare_exchange-found.result == c.self.inside.calls) ≡ true = eq-eqb _ _ c.if-found-calls.false in
    let added : c.compare_exchange-found.new.seen.log ≡ c.again-seen.result.log ++ c.plain-offer.result.ask ∷ [] = rw hit at c.compare_exchange-found.ensures.7 in
    let book : c.compare_exchange-found.new.seen.book ≡ c.self.inside.seen.book = c.compare_exchange-found.ensures.0 ∙ ap (λ s. s.book) seen in
    let log : c.compare_exchange-found.new.seen.log ≡ c.self.inside.seen.log ++ one ∷ [] = added ∙ (λ t. (seen t).log ++ c.plain-offer.ensures.1 t ∷ []) in
    (λ t. record { book = book t; list = log t }) ∙ ap (λ (p : Prefix). with_call p one) c.self.view_is
