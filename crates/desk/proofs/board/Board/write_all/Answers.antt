-- What is used of each node is written where it is told of as many.
use Rattle.std.proofs.Common.{◌≡◌, ℕ, Bool, List, length, sym, ap, ◌∙◌, arith}
use Rattle.std.specs.Prelude.{◌≢◌, Vec, if◌then◌else◌}
use Rattle.std.specs.Global.{Global}
use Rattle.std.proofs.lemmas.Bool.{eq-eqb, ne_eqb}
use Rattle.std.proofs.lemmas.List.{with_items_is}
use Rattle.quant.specs.declared.amount.Res.{Res}
use Rattle.desk.specs.declared.change.Change.TheVariants.{AllUsed}
use Rattle.desk.specs.inside.Board.{Board, used_after}
use Rattle.desk.proofs.board.Board.write_all.Goals as goal

written : (room : ℕ) (all : Vec Res Global) (used : List Res) → length all.items ≡ length used → used_after room (AllUsed all) used ≡ all.items
unfolding used_after
written room all used same = ap (λ (b : Bool). if b then all.items else used) (eq-eqb (length all.items) (length used) same)

kept : (room : ℕ) (all : Vec Res Global) (used : List Res) → length all.items ≢ length used → used_after room (AllUsed all) used ≡ used
unfolding used_after
kept room all used other = ap (λ (b : Bool). if b then all.items else used) (ne_eqb (length all.items) (length used) other)

pub returns-then-len : goal.returns-then-len
returns-then-len c =
    let all = c.args.all.now in
    let b = c.args.self.now in
    let before = c.self.inside.used in
    let same : length all.items ≡ length b.used = omega (arith, c.if-len.true, c.len.ensures, c.len-2.ensures, all.ok.0, before.ok.0, ap (λ (b : Board). length b.used) c.self.view_is) in
    let now = c.copy_from_slice.ensures.after ∙ c.as_slice.ensures.value in
    let used = with_items_is before c.copy_from_slice.new.self (c.copy_from_slice.ensures.len ∙ c.as_mut_slice.ensures.len) ∙ now ∙ sym (written b.room all b.used same) in
    λ t. record (c.self.view_is t) { used = used t }

pub returns-else-len : goal.returns-else-len
returns-else-len c =
    let all = c.args.all.now in
    let b = c.args.self.now in
    let other : length all.items ≢ length b.used = λ same. c.if-len.false (omega (arith, c.len.ensures, c.len-2.ensures, all.ok.0, c.self.inside.used.ok.0, ap (λ (b : Board). length b.used) c.self.view_is)) in
    λ t. record b { used = sym (kept b.room all b.used other) t }
