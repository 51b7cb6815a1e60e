-- What the desk is told of an event, as its own changes.
use Rattle.std.specs.Prelude.{List}
use Rattle.std.specs.FinMap.{get}
use Rattle.quant.specs.declared.name.Name.{Name}
use Rattle.ledger.specs.declared.event.Event.{Event}
use Rattle.ledger.specs.declared.event.Event.TheVariants.{ListEnds, Node, NodeGone, Withheld, Stands, Gone, Bind, Read}
use Rattle.live_desk.specs.declared.change.Change.{Change}
use Rattle.live_desk.specs.declared.change.Change.TheVariants as changes
use Rattle.live_desk.specs.State.{Live, node_set, node_gone, pod_gone, pod_bound}
use Rattle.live_desk.specs.Telling.{bound_of, if_unknown, left_out, place_of, settled}

-- what the desk is told of an event that the ledger took
abbrev pub change_of : Event → Change
change_of (ListEnds kind) = changes.LeftOut kind
change_of (Node version node) = changes.NodeSet node
change_of (NodeGone name) = changes.NodeGone name
change_of (Withheld version uid) = changes.Withheld uid
change_of (Stands version uid node request) = changes.PodBound uid node request
change_of (Gone uid) = changes.PodGone uid
change_of (Bind uid node) = changes.Asked uid node
change_of (Read uid ticket said) = changes.Settled uid (place_of said)
change_of _ = changes.Nothing

-- what is known then, where these were the names that a list left out
abbrev pub changed : Live → Change → (names : List Name) → Live
changed s changes.Nothing names = s
changed s (changes.LeftOut kind) names = left_out s kind names
changed s (changes.NodeSet node) names = node_set s node
changed s (changes.NodeGone name) names = node_gone s name
changed s (changes.Withheld uid) names = if_unknown s uid (get s.ledger.pods uid)
changed s (changes.PodBound uid node request) names = pod_bound s uid node request
changed s (changes.PodGone uid) names = pod_gone s uid
changed s (changes.Asked uid node) names = bound_of s uid node (get s.ledger.pods uid)
changed s (changes.Settled uid place) names = settled s uid place (get s.ledger.pods uid)
