-- What is published stands, a pass may go on to it, and one call more stands too.
use Rattle.std.proofs.Common.{◌≡◌, ℕ, ◌+◌, ◌<◌, ◌≤◌, List, [], ◌∷◌, ◌++◌, refl, sym, ap, subst, ◌∙◌, arith, slice_index, fold, map, replicate}
use Rattle.std.specs.Prelude.{slice_set}
use mathlib.Core.List.{IsPrefix}
use Rattle.std.proofs.lemmas.List.{set-get_or}
use Rattle.std.proofs.lemmas.List.Sums.{fold-append}
use Rattle.std.specs.FinMap as fin
use Rattle.quant.specs.declared.objects.Node.{Node}
use Rattle.book.specs.Used.{used}
use Rattle.book.proofs.SumLemmas.{entries_empty}
use Rattle.desk.specs.declared.limits.TheConstants.{MAX_PASSES}
use Rattle.desk.specs.declared.board.Order.{Order}
use Rattle.desk.specs.declared.change.Change.{Change}
use Rattle.desk.specs.declared.change.Change.TheVariants.{Nothing}
use Rattle.desk.specs.inside.Board.{Board, IsBoard, IsChange, board_of, board_after, beside, rows_shown, nodes_after, used_after}
use Rattle.logbook.specs.Pages.{Book}
use Rattle.book.specs.declared.limits.Limits.{Limits}
use Rattle.desk.specs.declared.step.Step.{Step}
use Rattle.desk.specs.Machine.{reply, after, snapshot}
use Rattle.desk.specs.Caller.{Caller}
use Rattle.desk.specs.inside.Caller.{HasNoCalls}
use Rattle.desk.specs.History.{Call, HasCallsOf, GoesOn, calls_of, call}
use Rattle.desk.specs.Shared.{Pass, IsAhead, IsApplied, IsLooked}
use Rattle.desk.specs.inside.Shared.{Prefix, Held, with_call, Stands, held_after, prefix_after, next_call, first_held}
use Rattle.desk.proofs.Histories.{handed_more, legal_more, leaves_more, calls_made, limits_after}
use Rattle.desk.proofs.CallCounts.{calls_kept, leaves_counts, none_own, handed_fewer, calls_parts}
use Rattle.desk.proofs.Fair.{fair}
use Rattle.desk.proofs.Readings.{snapshot_told}
use Rattle.desk.proofs.Calm.{calm_has_room}
use Rattle.desk.specs.Calm.{IsCalm, HasRoom}
use Rattle.desk.specs.Shown.{Shown}
use Rattle.std.specs.List.{All}

-- a history that begins with what a pass has seen, and has as many of its calls, goes on with
-- others'
pub goes_on : (p : Caller) (seen l : List Call) → IsPrefix seen l → HasCallsOf p seen → HasCallsOf p l → GoesOn p.number seen l
goes_on p seen l begins before own =
    let parts = calls_parts p.number seen begins.0 in
    let whole : calls_of p.number (seen ++ begins.0) ≡ calls_of p.number l = ap (calls_of p.number) begins.1 in
    (begins.0, sym begins.1, none_own p.number begins.0 (omega (arith, parts, whole, before, own)))

module _ (book : Book) (limits : Limits) (x : Held) (stands : Stands book limits x) where
  -- the counts of the published desk are those of its history
  counts : (k : ℕ) → slice_index x.desk.state.calls k ≡ calls_of k x.prefix.list
  counts = leaves_counts x.prefix.list x.desk stands.leaves

  -- a pass whose history begins the published one, and which counts its calls alike, may go on to
  -- it, where no pass has a call that wasn't handed out
  pub is_ahead : (handed : ℕ) (p : Pass) → HasCallsOf p.caller p.seen → IsPrefix p.seen x.prefix.list → slice_index x.desk.state.calls p.caller.number ≡ p.caller.calls
      → HasNoCalls handed x.desk.state.calls → IsAhead (record { limits = limits; handed = handed }) p x.prefix.list
  is_ahead handed p before begins alike none =
      let own : HasCallsOf p.caller x.prefix.list = sym (counts p.caller.number) ∙ alike in
      record {
        legal = record {
          history = subst (λ n. Rattle.desk.specs.History.IsHistory n x.prefix.list) stands.limits_are stands.leaves.legal.history;
          handed = handed_fewer 64 handed x.prefix.list stands.leaves.legal.handed (λ (k : ℕ) (le : handed ≤ k). sym (counts k) ∙ none k le);
        };
        goes_on = goes_on p.caller p.seen x.prefix.list begins before own;
        own = own;
      }

  -- and a look at it shows the snapshot of its history
  pub looked : (handed : ℕ) (p p' : Pass) (rows : List Shown) → IsAhead (record { limits = limits; handed = handed }) p x.prefix.list → p' ≡ record p { seen = x.prefix.list } → rows ≡ snapshot x.desk.state.cluster
      → IsLooked (record { limits = limits; handed = handed }) p rows p'
  looked handed p p' rows ahead new is =
      subst (IsLooked (record { limits = limits; handed = handed }) p rows) (sym new) (record {
        ahead = ahead;
        same = refl;
        shows = is ∙ snapshot_told x.desk x.prefix.list stands.leaves;
        room = λ (calm : IsCalm x.prefix.list). subst (All HasRoom) (sym is) (calm_has_room x.desk x.prefix.list stands.leaves calm);
      })

  module _ (pass : ℕ) (calls : ℕ) (e : Step) where
    -- one call more stands
    pub stands_more : pass < 64 → calls_of pass x.prefix.list ≡ calls → Stands book limits (held_after x pass e (with_call x.prefix (next_call x.desk.state pass (calls + 1) e)))
    stands_more lt own =
        record {
          leaves = leaves_more x.prefix.list x.desk (record { number = pass; calls = calls }) e (reply x.desk.state pass e) stands.leaves lt own refl;
          limits_are = limits_after x.desk.state pass e ∙ stands.limits_are;
          book_is = stands.book_is;
        }

    -- and so the call was applied
    pub applied_more : (handed : ℕ) (p : Pass) → p.caller ≡ record { number = pass; calls = calls } → pass < handed → handed ≤ 64 → IsAhead (record { limits = limits; handed = handed }) p x.prefix.list
        → IsApplied (record { limits = limits; handed = handed }) p e (reply x.desk.state pass e) (record { caller = record { number = pass; calls = calls + 1 }; seen = x.prefix.list ++ next_call x.desk.state pass (calls + 1) e ∷ [] })
    applied_more handed p is lt few ahead =
        let own : calls_of pass x.prefix.list ≡ calls = ap (λ (q : Caller). calls_of q.number x.prefix.list) (sym is) ∙ ahead.own ∙ ap (λ (q : Caller). q.calls) is in
        let all : pass < 64 = omega (arith, lt, few) in
        let whole = legal_more x.prefix.list x.desk (record { number = pass; calls = calls }) e (reply x.desk.state pass e) stands.leaves all own refl in
        record {
          until = x.prefix.list;
          ahead = ahead;
          ends = ap (λ (q : Caller). x.prefix.list ++ call q e (reply x.desk.state pass e) ∷ []) (sym is);
          counted = ap (λ (q : Caller). record q { calls = q.calls + 1 }) (sym is);
          legal = record {
            history = subst (λ n. Rattle.desk.specs.History.IsHistory n (x.prefix.list ++ next_call x.desk.state pass (calls + 1) e ∷ [])) stands.limits_are whole.history;
            handed = handed_more handed x.prefix.list (next_call x.desk.state pass (calls + 1) e) ahead.legal.handed lt;
          };
          own = calls_made x.prefix.list x.desk (record { number = pass; calls = calls }) e (reply x.desk.state pass e) own;
          fair = subst (λ (n : ℕ). Rattle.desk.specs.History.IsFairTicket x.prefix.list n e (reply x.desk.state pass e)) (ap (λ (q : Caller). q.number) (sym is)) (fair x.desk x.prefix.list stands.leaves pass e (reply x.desk.state pass e) refl);
        }

-- nothing was done at first, and that stands
pub stands_first : (book : Book) (limits : Limits) → Stands book limits (first_held book limits)
stands_first book limits = record {
  book_is = refl;
  leaves = record { legal = record { history = record { answered = tt; numbered = λ (pass : ℕ). refl }; handed = tt }; state = refl };
  limits_are = refl;
}

-- ---- a call

module _ (book : Book) (limits : Limits) (x : Held) (stands : Stands book limits x) (handed : ℕ) (p : Caller) (e : Step) (lt : p.number < handed) (few : handed ≤ 64) (own : HasCallsOf p x.prefix.list) where
  -- what is held after it stands
  pub stands_after : Stands book limits (held_after x p.number e (prefix_after x p e))
  stands_after = stands_more book limits x stands p.number p.calls e (omega (arith, lt, few)) own

  -- the desk counts the pass's calls as the pass does
  pub counted_alike : slice_index x.desk.state.calls p.number ≡ p.calls
  counted_alike = leaves_counts x.prefix.list x.desk stands.leaves p.number ∙ own

-- ---- what is published

-- at first
pub first_board : (book : Book) (limits : Limits) → record { nodes = []; used = []; room = limits.nodes; calls = replicate MAX_PASSES 0; prefix = record { book = book; list = [] } } ≡ board_of (first_held book limits)
first_board book limits = λ i. record {
  nodes = map (λ e. e.1) (sym (entries_empty Node) i);
  used = map (λ e. used fin.empty e.0) (sym (entries_empty Node) i);
  room = limits.nodes;
  calls = replicate MAX_PASSES 0;
  prefix = record { book = book; list = [] };
}

-- after a call, where the rows were changed as it changed the cluster
pub board_more : (x : Held) (pass calls : ℕ) (e : Step) (prefix : Prefix) (change : Change) → IsChange x.desk.state.cluster change (after x.desk.state pass e).cluster → slice_index x.desk.state.calls pass + 1 ≡ calls
    → board_after (board_of x) (record { change = change; pass = pass; calls = calls; prefix = prefix }) ≡ board_of (held_after x pass e prefix)
board_more x pass calls e prefix change is counted = λ i. record {
  nodes = is.nodes i;
  used = is.used i;
  room = (sym (limits_after x.desk.state pass e) i).nodes;
  calls = slice_set (sym (calls_kept x.desk.state pass e) i) pass ((sym counted ∙ ap (λ l. slice_index l pass + 1) (sym (calls_kept x.desk.state pass e))) i);
  prefix = prefix;
}

-- with no change
abbrev pub no_order : Board → Order
no_order b = record { change = Nothing; pass = 0; calls = slice_index b.calls 0; prefix = b.prefix }

pub nothing_more : (b : Board) → board_after b (no_order b) ≡ b
unfolding nodes_after used_after
nothing_more b = λ i. record b { calls = set-get_or b.calls 0 0 i }

-- one that waits last is applied last
pub still_nothing : (b : Board) (ops more : List Order) → fold board_after b ops ≡ b → more ≡ ops ++ no_order b ∷ [] → fold board_after b more ≡ b
still_nothing b ops more idle is = ap (fold board_after b) is ∙ fold-append board_after b ops (no_order b ∷ []) ∙ ap (λ y. board_after y (no_order b)) idle ∙ nothing_more b

-- what is published of what stands is a board
pub is_board : (book : Book) (limits : Limits) (x : Held) (b : Board) → Stands book limits x → b ≡ board_of x → IsBoard book limits b
is_board book limits x b stands is = record { held = x; stands = stands; is = is }

-- rows beside what is used of them are the snapshot
pub rows_snapshot : (x : Held) → rows_shown (board_of x) ≡ snapshot x.desk.state.cluster
rows_snapshot x = each (fin.entries x.desk.state.cluster.nodes)
  where
    each : (es : List (List ℕ × Node)) → beside (map (λ e. e.1) es) (map (λ e. used x.desk.state.cluster.places e.0) es) ≡ map (λ e. record { node = e.1; used = used x.desk.state.cluster.places e.0 }) es
    each [] = refl
    each (e ∷ es) = ap (λ l. record { node = e.1; used = used x.desk.state.cluster.places e.0 } ∷ l) (each es)

-- a pass may go on to what is published, as to what is held
pub ahead_on_board : (book : Book) (limits : Limits) (b : Board) → IsBoard book limits b → (handed : ℕ) (p : Pass) → HasCallsOf p.caller p.seen → IsPrefix p.seen b.prefix.list → slice_index b.calls p.caller.number ≡ p.caller.calls
    → HasNoCalls handed b.calls → IsAhead (record { limits = limits; handed = handed }) p b.prefix.list
ahead_on_board book limits b is handed p before begins alike none =
    subst (λ (y : Board). IsAhead (record { limits = limits; handed = handed }) p y.prefix.list) (sym is.is)
    (is_ahead book limits is.held is.stands handed p before (subst (λ (y : Board). IsPrefix p.seen y.prefix.list) is.is begins) (ap (λ (y : Board). slice_index y.calls p.caller.number) (sym is.is) ∙ alike)
    (λ (k : ℕ) (le : handed ≤ k). ap (λ (y : Board). slice_index y.calls k) (sym is.is) ∙ none k le))

-- and looks at it
pub looked_on_board : (book : Book) (limits : Limits) (b : Board) → IsBoard book limits b → (handed : ℕ) (p p' : Pass) (rows : List Shown) → IsAhead (record { limits = limits; handed = handed }) p b.prefix.list
    → p' ≡ record p { seen = b.prefix.list } → rows ≡ rows_shown b → IsLooked (record { limits = limits; handed = handed }) p rows p'
looked_on_board book limits b is handed p p' rows ahead new shown =
    looked book limits is.held is.stands handed p p' rows (subst (λ (y : Board). IsAhead (record { limits = limits; handed = handed }) p y.prefix.list) is.is ahead)
    (new ∙ ap (λ (y : Board). record p { seen = y.prefix.list }) is.is) (shown ∙ ap rows_shown is.is ∙ rows_snapshot is.held)

module _ (x self : Held) (is : x ≡ self) (b : Board) (waiting : List Order) (idle : fold board_after b waiting ≡ b) (shown : b ≡ board_of x) where
  -- what is published with one call more is that of what is held after it
  pub published_more : (next : Board) (more : List Order) (o : Order) → next ≡ b → more ≡ waiting ++ o ∷ [] → (pass : ℕ) (e : Step) (prefix : Prefix) → o.pass ≡ pass → o.prefix ≡ prefix
      → IsChange x.desk.state.cluster o.change (after x.desk.state pass e).cluster → slice_index x.desk.state.calls pass + 1 ≡ o.calls → fold board_after next more ≡ board_of (held_after self pass e prefix)
  published_more next more o same added pass e prefix by with changed counted =
      (λ i. fold board_after (same i) (added i)) ∙ fold-append board_after b waiting (o ∷ [])
      ∙ ap (λ (y : Board). board_after y o) (idle ∙ shown)
      ∙ (λ i. board_after (board_of x) (record { change = o.change; pass = by i; calls = o.calls; prefix = with i }))
      ∙ board_more x pass o.calls e prefix o.change changed counted
      ∙ ap (λ (y : Held). board_of (held_after y pass e prefix)) is
