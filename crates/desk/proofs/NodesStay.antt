-- Calls that tell of no node leave the nodes as they are.
use Rattle.std.proofs.Common.{◌≡◌, ℕ, zero, suc, ◌+◌, ◌<◌, ◌≤◌, Bool, true, false, cond, List, [], ◌∷◌, ◌++◌, get_or, set, map, take, length, Option, None, Some, refl, sym, ap, ◌∙◌, arith}
use Rattle.std.proofs.lemmas.List.{length-map, get_or-map, set-get_or, map-set, take_all, take_more}
use Rattle.std.proofs.lemmas.List.Sums.{sum_by-cons, sum_by-append}
use Rattle.std.specs.FinMap.{get, entries}
use mathlib.Core.List.{IsPrefix}
use Rattle.quant.specs.declared.amount.Moment.{Moment}
use Rattle.quant.specs.declared.amount.Res.{Res}
use Rattle.quant.specs.declared.event.Event.TheVariants.{NodeSet, NodeGone, PodPending, PodBound, PodGone}
use Rattle.quant.specs.declared.name.Name.{Name}
use Rattle.quant.specs.declared.objects.Node.{Node}
use Rattle.logbook.specs.Pages.{Book}
use Rattle.book.specs.Cluster.{Cluster}
use Rattle.book.specs.Step as book_step
use Rattle.book.specs.Used.{used}
use Rattle.book.specs.declared.limits.Limits.{Limits}
use Rattle.book.specs.declared.place.Place.{Place}
use Rattle.book.specs.declared.refusal.Refusal.{Refusal}
use Rattle.book.specs.declared.entry.Entry.{Entry}
use Rattle.book.specs.declared.entry.Entry.TheVariants.{Missing, Elsewhere, Held}
use Rattle.book.specs.declared.step.ClusterStep.{ClusterStep}
use Rattle.book.specs.declared.step.ClusterStep.TheVariants as cluster
use Rattle.queue.specs.Queue.{QueueState, has_entry, after_add, after_remove, after_forget, after_fail}
use Rattle.desk.specs.declared.snapshot.Row.{Row}
use Rattle.desk.specs.declared.step.Step.{Step}
use Rattle.desk.specs.declared.step.Step.TheVariants.{Event, Pop, Assume, BindDone, Forget, Fail, Tick, Count}
use Rattle.desk.specs.declared.step.Reply.TheVariants as replies
use Rattle.desk.specs.Machine.{State, Outcome, opening, both, unless, after, told, of_pod, moved, moved_if_placed, entry_at, pass_number, refusal_to_fail, refusal_to_tick, ticked_to}
use Rattle.desk.specs.History.{Call, state_after}
use Rattle.desk.specs.inside.Board.{Board, IsBoard, beside}
use Rattle.desk.specs.Shown.{Shown, shown}
use Rattle.desk.specs.inside.NodeCalls.{tells_of_node, calls_on_nodes, nodes_in, nodes_of}

-- what is refused or done keeps the nodes, where what is done does
unless_nodes : (o : Option Refusal) (s : State) (done : Outcome) → done.state.cluster.nodes ≡ s.cluster.nodes → (unless o s done).state.cluster.nodes ≡ s.cluster.nodes
unless_nodes None s done e = e
unless_nodes (Some why) s done e = refl

both_nodes : (s : State) (part : ClusterStep) (queue : QueueState) → (book_step.effect s.cluster part).nodes ≡ s.cluster.nodes → (both s part queue).state.cluster.nodes ≡ s.cluster.nodes
both_nodes s part queue e = unless_nodes (book_step.refusal s.cluster part) s (record { state = record s { cluster = book_step.effect s.cluster part; queue = queue }; reply = told s.cluster part }) e

-- a place that is assumed or marked as finished changes no node
chosen_nodes : (c : Cluster) (uid node : Name) (entry : Entry) → (book_step.with_choice c uid node entry).nodes ≡ c.nodes
chosen_nodes c uid node Missing = refl
chosen_nodes c uid node Elsewhere = refl
chosen_nodes c uid node (Held request) = refl

finished_nodes : (c : Cluster) (uid : Name) (at : Moment) (o : Option Place) → (book_step.with_finished c uid at o).nodes ≡ c.nodes
finished_nodes c uid at None = refl
finished_nodes c uid at (Some place) = refl

-- a step that tells of no node
pub stays : (s : State) (pass : ℕ) (e : Step) → tells_of_node e ≡ false → (after s pass e).cluster.nodes ≡ s.cluster.nodes
stays s pass (Event (NodeSet version node)) none = absurd (cc)
stays s pass (Event (NodeGone version name)) none = absurd (cc)
stays s pass (Event (PodPending version pod)) none = both_nodes s (of_pod s pod.uid (PodPending version pod)) (after_add s.queue pod s.clock) refl
stays s pass (Event (PodBound version uid node request)) none = both_nodes s (of_pod s uid (PodBound version uid node request)) (after_remove s.queue uid) refl
stays s pass (Event (PodGone version uid)) none = both_nodes s (of_pod s uid (PodGone version uid)) (moved_if_placed s uid (after_remove s.queue uid)) refl
stays s pass Pop none = refl
stays s pass (Assume uid node) none = both_nodes s (cluster.Assume uid node (entry_at s pass uid)) s.queue (chosen_nodes s.cluster uid node (entry_at s pass uid))
stays s pass (BindDone uid ticket) none = both_nodes s (cluster.BindDone uid ticket s.clock (has_entry s.queue uid)) s.queue (finished_nodes s.cluster uid s.clock (get s.cluster.places uid))
stays s pass (Forget uid ticket) none = both_nodes s (cluster.Forget uid ticket (has_entry s.queue uid)) (moved s (after_forget s.queue uid s.clock)) refl
stays s pass (Fail uid how) none = unless_nodes (refusal_to_fail s pass uid) s (record { state = record s { queue = after_fail s.queue uid (pass_number pass) how s.clock }; reply = replies.Done }) refl
stays s pass (Tick now) none = unless_nodes (refusal_to_tick s now) s (record { state = ticked_to s now; reply = replies.Done }) refl
stays s pass Count none = refl

-- one that counts 0 is none
not_one : (b : Bool) (n : ℕ) → cond b 1 0 + n ≡ 0 → b ≡ false
not_one true n e = absurd (omega arith)
not_one false n e = refl

-- calls of which none tells of a node
stay_along : (s : State) (l : List Call) → calls_on_nodes l ≡ 0 → (state_after s l).cluster.nodes ≡ s.cluster.nodes
stay_along s [] none = refl
stay_along s (c ∷ l) none =
    let parts : cond (tells_of_node c.step) 1 0 + calls_on_nodes l ≡ 0 = sym (sum_by-cons (λ d. cond (tells_of_node d.step) 1 0) c l) ∙ none in
    stay_along (after s c.pass c.step) l (omega (arith, parts)) ∙ stays s c.pass c.step (not_one (tells_of_node c.step) (calls_on_nodes l) parts)

-- the state after calls, and then others
state_along : (s : State) (l more : List Call) → state_after s (l ++ more) ≡ state_after (state_after s l) more
state_along s [] more = refl
state_along s (c ∷ l) more = state_along (after s c.pass c.step) l more

-- a history that begins with another and has no more calls that tell of nodes leaves the same nodes
pub same_nodes : (limits : Limits) (before now : List Call) → IsPrefix before now → calls_on_nodes before ≡ calls_on_nodes now → nodes_in (state_after (opening limits) now).cluster ≡ nodes_in (state_after (opening limits) before).cluster
same_nodes limits before now begins same =
    let parts : calls_on_nodes (before ++ begins.0) ≡ calls_on_nodes before + calls_on_nodes begins.0 = sum_by-append (λ c. cond (tells_of_node c.step) 1 0) before begins.0 in
    let whole : calls_on_nodes (before ++ begins.0) ≡ calls_on_nodes now = ap calls_on_nodes begins.1 in
    ap (λ (l : List Call). nodes_in (state_after (opening limits) l).cluster) (sym begins.1)
    ∙ ap (λ (s : State). nodes_in s.cluster) (state_along (opening limits) before begins.0)
    ∙ ap (λ n. map (λ e. e.1) (entries n)) (stay_along (state_after (opening limits) before) begins.0 (omega (arith, parts, whole, same)))

-- what is published has the nodes that its history leaves
pub nodes_published : (book : Book) (limits : Limits) (b : Board) → IsBoard book limits b → b.nodes ≡ nodes_in (state_after (opening limits) b.prefix.list).cluster
nodes_published book limits b is =
    ap (λ (y : Board). y.nodes) is.is
    ∙ ap (λ (s : State). nodes_in s.cluster) is.stands.leaves.state
    ∙ ap (λ (n : Limits). nodes_in (state_after (opening n) is.held.prefix.list).cluster) is.stands.limits_are
    ∙ ap (λ (y : Board). nodes_in (state_after (opening limits) y.prefix.list).cluster) (sym is.is)

-- there is as much beside the nodes
pub used_long : (book : Book) (limits : Limits) (b : Board) → IsBoard book limits b → length b.used ≡ length b.nodes
used_long book limits b is =
    ap (λ (y : Board). length y.used) is.is
    ∙ length-map (entries is.held.desk.state.cluster.nodes) (λ e. used is.held.desk.state.cluster.places e.0)
    ∙ sym (length-map (entries is.held.desk.state.cluster.nodes) (λ e. e.1))
    ∙ ap (λ (y : Board). length y.nodes) (sym is.is)

-- ---- what is used, written into rows that have the same nodes

length-beside : (nodes : List Node) (us : List Res) → length us ≡ length nodes → length (beside nodes us) ≡ length nodes
length-beside [] us e = refl
length-beside (n ∷ nodes) [] e = absurd (omega (arith, e))
length-beside (n ∷ nodes) (u ∷ us) e = omega (arith, length-beside nodes us (omega (arith, e)))

get_beside : (nodes : List Node) (us : List Res) (at : ℕ) (n : Node) (none : Res) → length us ≡ length nodes → at < length nodes → get_or (beside nodes us) at (record { node = n; used = none }) ≡ record { node = get_or nodes at n; used = get_or us at none }
get_beside [] us at n none e lt = absurd (omega (arith, lt))
get_beside (m ∷ nodes) [] at n none e lt = absurd (omega (arith, e))
get_beside (m ∷ nodes) (u ∷ us) zero n none e lt = refl
get_beside (m ∷ nodes) (u ∷ us) (suc at) n none e lt = get_beside nodes us at n none (omega (arith, e)) (omega (arith, lt))

module _ (rows : List Row) (nodes : List Node) (us : List Res) (same : nodes_of rows ≡ nodes) (long : length us ≡ length nodes) where
  -- there are as many rows as nodes
  pub as_many : length nodes ≡ length rows
  as_many = ap length (sym same) ∙ length-map rows (λ (row : Row). row.node)

  module _ (at : ℕ) (row new : Row) (lt : at < length rows) (is : row ≡ get_or rows at row) (kept : new.node ≡ row.node) where
    -- one row changes, but not its node
    pub nodes_kept : nodes_of (set rows at new) ≡ nodes
    nodes_kept =
        map-set (λ (r : Row). r.node) rows at new
        ∙ ap (set (nodes_of rows) at) (kept ∙ ap (λ (r : Row). r.node) is ∙ sym (get_or-map (λ (r : Row). r.node) rows at row new.node lt))
        ∙ set-get_or (nodes_of rows) at new.node ∙ same

-- ---- rows that are made anew

-- one row more
pub shown_more : (nodes : List Node) (us : List Res) (at : ℕ) (node : Node) (none : Res) → length us ≡ length nodes → at < length nodes → node ≡ get_or nodes at node
    → take (at + 1) (beside nodes us) ≡ take at (beside nodes us) ++ record { node = node; used = get_or us at none } ∷ []
shown_more nodes us at node none long lt is =
    take_more (beside nodes us) at (record { node = node; used = none }) (omega (arith, lt, length-beside nodes us long))
    ∙ ap (λ (s : Shown). take at (beside nodes us) ++ s ∷ []) (get_beside nodes us at node none long lt)
    ∙ ap (λ (n : Node). take at (beside nodes us) ++ record { node = n; used = get_or us at none } ∷ []) (sym is)

pub shown_whole : (nodes : List Node) (us : List Res) (at : ℕ) → length us ≡ length nodes → length nodes ≤ at → take at (beside nodes us) ≡ beside nodes us
shown_whole nodes us at long le = take_all at (beside nodes us) (omega (arith, le, length-beside nodes us long))

-- rows that show what is published have its nodes
pub nodes_shown : (rows : List Row) (nodes : List Node) (us : List Res) → length us ≡ length nodes → map shown rows ≡ beside nodes us → nodes_of rows ≡ nodes
nodes_shown rows nodes us long is = sym (each rows) ∙ ap (map (λ (s : Shown). s.node)) is ∙ ones nodes us long
  where
    each : (rows : List Row) → map (λ (s : Shown). s.node) (map shown rows) ≡ nodes_of rows
    each [] = refl
    each (row ∷ rows) = ap (λ l. row.node ∷ l) (each rows)

    ones : (nodes : List Node) (us : List Res) → length us ≡ length nodes → map (λ (s : Shown). s.node) (beside nodes us) ≡ nodes
    ones [] us e = refl
    ones (n ∷ nodes) [] e = absurd (omega (arith, e))
    ones (n ∷ nodes) (u ∷ us) e = ap (λ l. n ∷ l) (ones nodes us (omega (arith, e)))
