-- The only pass of a desk has made all calls of its history.
use Rattle.std.proofs.Common.{◌≡◌, ◌≤◌, ℕ, true, false, eqb, List, [], ◌∷◌, ◌++◌, refl, sym, ap, subst, ◌∙◌, arith}
use Rattle.desk.specs.Machine.{State, opening, reply, after, snapshot}
use Rattle.desk.specs.inside.Caller.{Core}
use Rattle.desk.specs.History.{Call, AreAnswered, AreHanded, AreOthers, IsHistory, state_after, call}
use Rattle.desk.specs.inside.History.{Leaves}
use Rattle.desk.specs.Shared.{Pass, Desk, IsPassOf, IsAhead}
use Rattle.desk.specs.Alone.{state_seen, AnswersAlone, LooksAlone}
use Rattle.desk.proofs.Histories.{append_nil, limits_of, limits_after, state_more}
use Rattle.desk.proofs.Readings.{snapshot_told}

-- what is behind a beginning was handed out too
handed_behind : (n : ℕ) (a b : List Call) → AreHanded n (a ++ b) → AreHanded n b
handed_behind n [] b all = all
handed_behind n (c ∷ a) b all = handed_behind n a b all.1

-- no call is another's where one pass was handed out
no_others : (b : List Call) → AreHanded 1 b → AreOthers 0 b → b ≡ []
no_others [] all others = refl
no_others (c ∷ b) all others =
    let zero_is : c.pass ≡ 0 = omega (arith, all.0) in
    let no : true ≡ false = sym (ap (λ k. eqb k 0) zero_is) ∙ others.0 in
    absurd (cc)

-- so a pass goes on to what it has seen
stays : (desk : Desk) (p : Pass) (l : List Call) → desk.handed ≡ 1 → IsPassOf p desk → IsAhead desk p l → l ≡ p.seen
stays desk p l one member ahead =
    let number : p.caller.number ≡ 0 = omega (arith, one, member) in
    let between = ahead.goes_on.0 in
    let handed : AreHanded 1 l = subst (λ n. AreHanded n l) one ahead.legal.handed in
    let behind : AreHanded 1 between = handed_behind 1 p.seen between (subst (AreHanded 1) ahead.goes_on.1 handed) in
    let others : AreOthers 0 between = subst (λ n. AreOthers n between) number ahead.goes_on.2 in
    ahead.goes_on.1 ∙ ap (λ b. p.seen ++ b) (no_others between behind others) ∙ append_nil p.seen

-- the last call of a history has the machine's answer
last_answered : (s : State) (l : List Call) (c : Call) → AreAnswered s (l ++ c ∷ []) → c.reply ≡ reply (state_after s l) c.pass c.step
last_answered s [] c all = all.0
last_answered s (d ∷ l) c all = last_answered (after s d.pass d.step) l c all.1

pub answers_alone : AnswersAlone
answers_alone desk p p' e answer one member applied =
    let number : p.caller.number ≡ 0 = omega (arith, one, member) in
    let s = opening desk.limits in
    let c = call p.caller e answer in
    let until : applied.until ≡ p.seen = stays desk p applied.until one member applied.ahead in
    let ends : p'.seen ≡ p.seen ++ c ∷ [] = applied.ends ∙ ap (λ l. l ++ c ∷ []) until in
    let all : AreAnswered s (p.seen ++ c ∷ []) = subst (AreAnswered s) ends applied.legal.history.answered in (
      last_answered s p.seen c all ∙ ap (λ n. reply (state_seen desk p) n e) number,
      ap (state_after s) ends ∙ state_more s p.seen c ∙ ap (λ n. after (state_seen desk p) n e) number,
    )

-- calls of few passes are calls of more
handed_among : (n m : ℕ) (l : List Call) → n ≤ m → AreHanded n l → AreHanded m l
handed_among n m [] le all = tt
handed_among n m (c ∷ l) le all = (omega (arith, le, all.0), handed_among n m l le all.1)

-- calls keep the limits
limits_kept : (s : State) (l : List Call) → limits_of (state_after s l) ≡ limits_of s
limits_kept s [] = refl
limits_kept s (c ∷ l) = limits_kept (after s c.pass c.step) l ∙ limits_after s c.pass c.step

pub looks_alone : LooksAlone
looks_alone desk p p' rows one member looked =
    let stay : p'.seen ≡ p.seen = stays desk p p'.seen one member looked.ahead in
    let s = opening desk.limits in
    let d : Core = record { state = state_after s p'.seen } in
    let kept : d.state.cluster.limits ≡ desk.limits = limits_kept s p'.seen in
    let leaves : Leaves p'.seen d = record {
      legal = record {
        history = subst (λ limits. IsHistory limits p'.seen) (sym kept) looked.ahead.legal.history;
        handed = handed_among desk.handed 64 p'.seen (omega (arith, one)) looked.ahead.legal.handed;
      };
      state = ap (λ limits. state_after (opening limits) p'.seen) (sym kept);
    } in (
      looked.shows ∙ sym (snapshot_told d p'.seen leaves) ∙ ap (λ l. snapshot (state_after s l).cluster) stay,
      ap (state_after s) stay,
    )
