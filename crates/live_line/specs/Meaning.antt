-- What a line tells of a cluster, or asks.
use Rattle.std.specs.Prelude.{ℕ, ◌==◌, Bool, List, [], ◌++◌, length, codes, bytes_eq, Result, Ok, Err, is_some, if◌then◌else◌}
use Rattle.serde_json.specs.Data.{Data}
use Rattle.serde_json.specs.Find.{get}
use Rattle.quant.specs.declared.amount.Moment.{Moment as At}
use Rattle.quant.specs.declared.event.Event.TheVariants.{NodeSet, NodeGone as RowGone, PodPending, PodBound, PodGone}
use Rattle.quant.specs.declared.name.Name.{Name}
use Rattle.objects.specs.declared.heard.Heard.{Heard}
use Rattle.objects.specs.declared.heard.Heard.TheVariants as heard_as
use Rattle.objects.specs.declared.heard.NoValue.{NoValue}
use Rattle.objects.specs.Heard.{heard, hearing, names_of, none_heard, value_in}
use Rattle.objects.specs.Site.{Site, with_labels}
use Rattle.ledger.specs.declared.event.Event.{Event}
use Rattle.ledger.specs.declared.event.Event.TheVariants.{Node, NodeGone, Withheld, Stands, Unread, Gone}
use Rattle.live_line.specs.declared.field.Field.{Field}
use Rattle.live_line.specs.declared.field.Field.TheVariants as fields
use Rattle.live_line.specs.declared.meaning.Meaning.{Meaning}
use Rattle.live_line.specs.declared.meaning.Meaning.TheVariants.{Tells, Pending, Aside, Tick, Cycle, Explain, Dump, Nothing, Faulty}
use Rattle.live_line.specs.Field.{key}
use Rattle.live_line.specs.Order.{moment_at, order, text_at, told_in, uid_at}

-- what a line orders, or its first fault
abbrev pub of_order : Result Event Field → Meaning
of_order (Ok event) = Tells event
of_order (Err field) = Faulty field

abbrev pub of_moment : Result At Field → Meaning
of_moment (Ok now) = Tick now
of_moment (Err field) = Faulty field

abbrev pub of_aside : Result Name Field → Meaning
of_aside (Ok uid) = Aside uid
of_aside (Err field) = Faulty field

abbrev pub of_explain : Result Name Field → Meaning
of_explain (Ok uid) = Explain uid
of_explain (Err field) = Faulty field

-- an object of the API
abbrev pub of_object : Heard → Meaning
of_object (heard_as.Event (NodeSet version node)) = Tells (Node version node)
of_object (heard_as.Event (RowGone version name)) = Tells (NodeGone name)
of_object (heard_as.Event (PodPending version pod)) = Pending version pod
of_object (heard_as.Event (PodBound version uid node request)) = Tells (Stands version uid node request)
of_object (heard_as.Event (PodGone version uid)) = Tells (Gone uid)
of_object (heard_as.Withheld version uid) = Tells (Withheld version uid)
of_object heard_as.Nothing = Nothing
of_object heard_as.Unread = Tells Unread

-- an object of the API with labels beside its own
abbrev pub of_told : Site → Result (Data × Data) Field → Meaning
of_told site (Ok (event, labels)) = of_object (heard (with_labels labels site) event)
of_told site (Err field) = Faulty field

-- by its word
abbrev pub of_word : Site → Data → (op : List ℕ) → Meaning
of_word site json op =
    if bytes_eq op (codes "cycle") then Cycle
    else if bytes_eq op (codes "tick") then of_moment (moment_at json)
    else if bytes_eq op (codes "aside") then of_aside (uid_at json)
    else if bytes_eq op (codes "explain") then of_explain (uid_at json)
    else if bytes_eq op (codes "dump") then Dump
    else of_order (order site json op)

abbrev pub of_op : Site → Data → Result (List ℕ) Field → Meaning
of_op site json (Ok op) =
    if bytes_eq op (codes "told") then of_told site (told_in json) else of_word site json op
of_op site json (Err field) = Faulty field

-- an order says what it orders; any other object is the API's
unfoldable pub is_order : Data → Bool
is_order json = is_some (get (key fields.Op) json)

-- (a line without a value is none, or may be a pod on a node)
abbrev pub of_value : Site → Result Data NoValue → Meaning
of_value site (Ok json) = if is_order json then of_op site json (text_at fields.Op json) else of_object (heard site json)
of_value site (Err why) = of_object (none_heard why).heard

unfoldable pub meaning : Site → (line : List ℕ) → Meaning
meaning site line = of_value site (value_in line)

-- ---- what of an object isn't told

-- what stands behind the word that answers it, where this is left out: items of an array of JSON
abbrev pub behind : (names : List ℕ) → List ℕ
behind names = if length names == 0 then [] else codes " [" ++ names ++ codes "]"

-- of an order nothing but of the object that it tells
abbrev pub reasons_told : Site → Result (Data × Data) Field → List ℕ
reasons_told site (Ok (event, labels)) = behind (names_of (hearing (with_labels labels site) event))
reasons_told site (Err field) = []

abbrev pub order_reasons : Site → Data → Result (List ℕ) Field → List ℕ
order_reasons site json (Ok op) = if bytes_eq op (codes "told") then reasons_told site (told_in json) else []
order_reasons site json (Err field) = []

abbrev pub reasons_of : Site → Result Data NoValue → List ℕ
reasons_of site (Ok json) = if is_order json then order_reasons site json (text_at fields.Op json) else behind (names_of (hearing site json))
reasons_of site (Err why) = behind (names_of (none_heard why))

unfoldable pub reasons : Site → (line : List ℕ) → List ℕ
reasons site line = reasons_of site (value_in line)
