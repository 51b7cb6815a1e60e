use Rattle.std.proofs.Common.{◌≡◌, sym, ◌∙◌, ap, length, [], ◌∷◌, ◌++◌}
use Rattle.desk.proofs.Adding.{adds_moves}
use Rattle.pieces.proofs.Asking.{was_added, added_stands, added_counts}
use Rattle.pieces.proofs.asked.History.add.Goals as goal

-- the exchange keeps the rule
pub compare_exchange-found-requires : goal.compare_exchange-found-requires
compare_exchange-found-requires g c =
    let h = c.args.self.now.head_is in
    let offer = c.plain-offer.ensures in
    let pen = c.no_pen-pen.ensures in
    let seen = c.again-seen.ensures in
    let book : c.again-seen.result.book ≡ c.args.self.now.head.book = ap (λ s. s.book) seen ∙ (c.args.self.now.seen_is ∙ sym (ap (λ w. w.book) h)) in
    let len : length c.again-seen.result.log ≡ c.args.self.now.count = ap (λ s. length s.log) seen ∙ sym c.args.self.now.counted in (
      ap (λ w. w.tracked) h,
      book,
      pen.0 ∙ book,
      offer.0,
      rw (ap (λ w. w.key) h, pen.1, offer.1, offer.3) (adds_moves c.again-seen.result.log _ c.args.self.now.count len),
    )

-- the history is as it was seen, and what is asked behind it
pub invariant_of-order : goal.invariant_of-order
invariant_of-order g c =
    let found = c.compare_exchange-found.ensures in
    let seen = c.again-seen.ensures in
    let len : length c.again-seen.result.log ≡ c.args.self.now.count = ap (λ s. length s.log) seen ∙ sym c.args.self.now.counted in
    let added = was_added _ _ _ _ _ c.if-found-count.false found.7 in (
      ap (λ s. s.book) c.again.ensures ∙ found.0 ∙ ap (λ s. s.book) seen ∙ c.args.self.now.seen_is,
      added_stands c.again.result.log c.again-seen.result.log c.args.asked c.args.self.now.count (ap (λ s. s.log) c.again.ensures ∙ added ∙ ap (λ e. c.again-seen.result.log ++ e ∷ []) c.plain-offer.ensures.1) len,
    )

pub invariant_of-self : goal.invariant_of-self
invariant_of-self g c =
    let found = c.compare_exchange-found.ensures in
    let seen = c.again-seen.ensures in
    let len : length c.again-seen.result.log ≡ c.args.self.now.count = ap (λ s. length s.log) seen ∙ sym c.args.self.now.counted in
    let added = was_added _ _ _ _ _ c.if-found-count.false found.7 in
    record {
      head_is = c.args.self.now.head_is;
      seen_is = found.0 ∙ ap (λ s. s.book) seen ∙ c.args.self.now.seen_is;
      counted = added_counts c.compare_exchange-found.new.seen.log c.again-seen.result.log _ c.args.self.now.count added len;
    }
