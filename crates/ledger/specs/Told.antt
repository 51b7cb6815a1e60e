-- What each event makes of what is known, and histories.
use Rattle.std.specs.Prelude.{◌≡◌, true}
use Rattle.ledger.specs.declared.event.Answer.{Answer}
use Rattle.ledger.specs.declared.event.Answer.TheVariants.{Told, Full}
use Rattle.ledger.specs.declared.event.Event.{Event}
use Rattle.ledger.specs.declared.event.Event.TheVariants.{ListBegins, ListEnds, Deaf, Hears, Node, NodeGone, Waits, Withheld, Stands, Unread, Gone, Rested, Bind, Answered, Read}
use Rattle.ledger.specs.Hearing.{list_begins, deaf, hears, IsListEnd}
use Rattle.ledger.specs.State.{State}
use Rattle.ledger.specs.Telling.{became, node_told, node_gone, waits, withheld, stands, fallen_short, gone, bind, answered, read}

-- an event was answered, and this is what is known after it
abbrev pub IsTold : State → Event → Answer → State → Type 0
IsTold s (ListBegins kind) answer new = became answer new ≡ list_begins s kind
IsTold s (ListEnds kind) answer new = IsListEnd kind s answer new
IsTold s (Deaf kind) answer new = became answer new ≡ deaf s kind
IsTold s (Hears kind) answer new = became answer new ≡ hears s kind
IsTold s (Node version node) answer new = became answer new ≡ node_told s version node
IsTold s (NodeGone name) answer new = became answer new ≡ node_gone s name
IsTold s (Waits version uid request) answer new = became answer new ≡ waits s version uid request
IsTold s (Withheld version uid) answer new = became answer new ≡ withheld s version uid
IsTold s (Stands version uid node request) answer new = became answer new ≡ stands s version uid node request
IsTold s Unread answer new = became answer new ≡ became Full (fallen_short s)
IsTold s (Gone uid) answer new = became answer new ≡ gone s uid
IsTold s Rested answer new = became answer new ≡ became Told (record s { rested = true })
IsTold s (Bind uid node) answer new = became answer new ≡ bind s uid node
IsTold s (Answered uid ticket outcome) answer new = became answer new ≡ answered s uid ticket outcome
IsTold s (Read uid ticket said) answer new = became answer new ≡ read s uid ticket said
