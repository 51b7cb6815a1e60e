use Rattle.std.proofs.Common.{sym, ap, ◌∙◌, subst}
use mathlib.Core.List.{IsPrefix}
use Rattle.desk.specs.inside.Board.{Board}
use Rattle.desk.specs.Shared.{Pass, IsAhead}
use Rattle.desk.proofs.Sharing.{ahead_on_board}
use Rattle.desk.proofs.pass.Pass.may_go_on.Goals as goal

-- counts that agree, and a history that is no shorter
pub returns-then-begins : goal.returns-then-begins
returns-then-begins g c alike =
    let book = g.J.Naming.book in
    let limits = g.J.Naming.limits in
    let p : Pass = record { caller = record { number = c.self.inside.number; calls = c.self.inside.calls }; seen = c.self.inside.prefix.list } in
    let begins = subst (λ (y : Board). IsPrefix c.self.inside.prefix.list y.prefix.list) c.board.view_is (c.begins.ensures c.if-begins.true) in
    let ahead : IsAhead (record { limits = limits; handed = c.args.handed }) p c.args.board.now.prefix.list = ahead_on_board book limits c.args.board.now c.requires.stands c.args.handed p c.self.invariant.0 begins (c.counts_alike.ensures.calls alike) (c.counts_alike.ensures.handed alike) in
    subst (λ (q : Pass). IsAhead (record { limits = limits; handed = c.args.handed }) q c.args.board.now.prefix.list) c.self.view_is ahead

-- both are of one history
pub begins-requires : goal.begins-requires
begins-requires g c = ap (λ (y : Board). y.prefix.book) (c.board.view_is ∙ c.requires.stands.is) ∙ c.requires.stands.stands.book_is ∙ sym c.self.invariant.1
