-- What an order tells a ledger or asks of it, or the field in which its first fault stands.
use Rattle.std.specs.Prelude.{ℕ, ◌&&◌, List, codes, bytes_eq, nat_le, Option, Some, None, Result, Ok, Err, is_some, option_and_then, if◌then◌else◌}
use Rattle.std.specs.Option.{ok_or}
use Rattle.serde_json.specs.Data.{Data}
use Rattle.serde_json.specs.Data as values
use Rattle.serde_json.specs.Find.{get, as_str, as_number, as_object, as_u64}
use Rattle.quant.specs.Name.{is_name}
use Rattle.quant.specs.declared.event.Event.TheVariants.{NodeSet, NodeGone, PodPending, PodBound, PodGone}
use Rattle.quant.specs.declared.amount.Moment.{Moment}
use Rattle.quant.specs.declared.limits.TheConstants.{LATEST_MOMENT, MAX_TICKET}
use Rattle.quant.specs.declared.name.Name.{Name}
use Rattle.quant.specs.declared.version.Ticket.{Ticket}
use Rattle.objects.specs.declared.heard.Heard.{Heard}
use Rattle.objects.specs.declared.heard.Heard.TheVariants as heard_as
use Rattle.objects.specs.Heard.{heard}
use Rattle.objects.specs.Site.{Site}
use Rattle.ledger.specs.declared.event.Event.{Event}
use Rattle.ledger.specs.declared.event.Event.TheVariants.{ListBegins, ListEnds, Deaf, Hears, Rested, Bind, Answered, Read}
use Rattle.ledger.specs.declared.event.Kind.{Kind}
use Rattle.ledger.specs.declared.event.Kind.TheVariants.{Nodes, Pods}
use Rattle.ledger.specs.declared.event.Outcome.{Outcome}
use Rattle.ledger.specs.declared.event.Outcome.TheVariants.{Created, Refused, Over}
use Rattle.ledger.specs.declared.event.Said.{Said}
use Rattle.ledger.specs.declared.event.Said.TheVariants.{Waits, Stands, Gone}
use Rattle.live_line.specs.declared.field.Field.{Field}
use Rattle.live_line.specs.declared.field.Field.TheVariants as fields
use Rattle.live_line.specs.Field.{key}

-- one reading after another: the first fault ends both
infixl 10 ◌>>=◌
abbrev pub ◌>>=◌ : {A B : Type 0} → Result A Field → (A → Result B Field) → Result B Field
(Ok x) >>= f = f x
(Err e) >>= f = Err e

-- ---- fields

-- a text
unfoldable pub text_at : Field → Data → Result (List ℕ) Field
text_at field json = ok_or (option_and_then as_str (get (key field) json)) field

-- a name
abbrev pub a_name : Field → List ℕ → Result Name Field
a_name field text = if is_name text then Ok text else Err field

unfoldable pub name_at : Field → Data → Result Name Field
name_at field json = text_at field json >>= a_name field

-- a bind's ticket, from 1 on
abbrev pub a_ticket : Option ℕ → Result Ticket Field
a_ticket None = Err fields.Ticket
a_ticket (Some n) = if nat_le 1 n && nat_le n MAX_TICKET then Ok (record { 0 = n }) else Err fields.Ticket

abbrev pub a_natural : Data → Option ℕ
a_natural value = option_and_then as_u64 (as_number value)

unfoldable pub ticket_at : Data → Result Ticket Field
ticket_at json = a_ticket (option_and_then a_natural (get (key fields.Ticket) json))

-- which kind of objects
abbrev pub kind_named : List ℕ → Result Kind Field
kind_named text = if bytes_eq text (codes "nodes") then Ok Nodes else if bytes_eq text (codes "pods") then Ok Pods else Err fields.Of

unfoldable pub kind_at : Data → Result Kind Field
kind_at json = text_at fields.Of json >>= kind_named

-- what became of a bind
abbrev pub outcome_named : List ℕ → Result Outcome Field
outcome_named text =
    if bytes_eq text (codes "created") then Ok Created
    else if bytes_eq text (codes "refused") then Ok Refused
    else if bytes_eq text (codes "over") then Ok Over
    else Err fields.Is

unfoldable pub outcome_at : Data → Result Outcome Field
outcome_at json = text_at fields.Is json >>= outcome_named

-- ---- what a read gave

-- of another pod than was asked for, as of one that was made anew under its name, is known that the
-- one is gone
abbrev pub if_it : (uid other : Name) → Said → Said
if_it uid other said = if bytes_eq other uid then said else Gone

abbrev pub said_by : (uid : Name) → Heard → Result Said Field
said_by uid (heard_as.Event (PodBound version other node request)) = Ok (if_it uid other (Stands version node request))
said_by uid (heard_as.Event (PodPending version pod)) = Ok (if_it uid pod.uid Waits)
said_by uid (heard_as.Event (PodGone version other)) = Ok Gone
said_by uid (heard_as.Event (NodeSet version node)) = Err fields.Gave
said_by uid (heard_as.Event (NodeGone version name)) = Err fields.Gave
said_by uid (heard_as.Withheld version other) = Ok (if_it uid other Waits)
said_by uid heard_as.Nothing = Err fields.Gave
said_by uid heard_as.Unread = Err fields.Gave

-- (null: there is no pod of the name)
abbrev pub said_of : Site → (uid : Name) → Data → Result Said Field
said_of site uid values.null = Ok Gone
said_of site uid value = said_by uid (heard site value)

-- ---- orders

unfoldable pub list_in : Data → Result Event Field
list_in json = do
  kind ← kind_at json
  Ok (ListBegins kind)

unfoldable pub listed_in : Data → Result Event Field
listed_in json = do
  kind ← kind_at json
  Ok (ListEnds kind)

unfoldable pub deaf_in : Data → Result Event Field
deaf_in json = do
  kind ← kind_at json
  Ok (Deaf kind)

unfoldable pub hears_in : Data → Result Event Field
hears_in json = do
  kind ← kind_at json
  Ok (Hears kind)

unfoldable pub bind_in : Data → Result Event Field
bind_in json = do
  uid ← name_at fields.Uid json
  node ← name_at fields.Node json
  Ok (Bind uid node)

unfoldable pub answer_in : Data → Result Event Field
answer_in json = do
  uid ← name_at fields.Uid json
  ticket ← ticket_at json
  outcome ← outcome_at json
  Ok (Answered uid ticket outcome)

-- of which bind a read tells, and what it gave
abbrev pub bind_read : Data → Result (Name × Ticket × Data) Field
bind_read json = do
  uid ← name_at fields.Uid json
  ticket ← ticket_at json
  gave ← ok_or (get (key fields.Gave) json) fields.Gave
  Ok (uid, ticket, gave)

unfoldable pub read_in : Site → Data → Result Event Field
read_in site json = do
  found ← bind_read json
  said ← said_of site found.0 found.2
  Ok (Read found.0 found.1 said)

-- by what the line orders
abbrev pub plain_order : Data → (op : List ℕ) → Result Event Field
plain_order json op =
    if bytes_eq op (codes "list") then list_in json
    else if bytes_eq op (codes "listed") then listed_in json
    else if bytes_eq op (codes "deaf") then deaf_in json
    else if bytes_eq op (codes "hears") then hears_in json
    else if bytes_eq op (codes "rested") then Ok Rested
    else if bytes_eq op (codes "bind") then bind_in json
    else if bytes_eq op (codes "answer") then answer_in json
    else Err fields.Op

-- what a line orders by this word: of the ledger alone
unfoldable pub order : Site → Data → (op : List ℕ) → Result Event Field
order site json op = if bytes_eq op (codes "read") then read_in site json else plain_order json op

-- ---- an object with labels beside its own

-- labels, as an object of JSON
abbrev pub some_labels : Data → Result Data Field
some_labels value = if is_some (as_object value) then Ok value else Err fields.Labels

unfoldable pub labels_at : Data → Result Data Field
labels_at json = ok_or (get (key fields.Labels) json) fields.Labels >>= some_labels

-- the object, or the event of the watch, and the labels beside its own
unfoldable pub told_in : Data → Result (Data × Data) Field
told_in json = do
  event ← ok_or (get (key fields.Event) json) fields.Event
  labels ← labels_at json
  Ok (event, labels)

-- ---- of the desk

-- the moment that it is
abbrev pub a_moment : Option ℕ → Result Moment Field
a_moment None = Err fields.At
a_moment (Some n) = if nat_le n LATEST_MOMENT then Ok (record { 0 = n }) else Err fields.At

unfoldable pub moment_at : Data → Result Moment Field
moment_at json = a_moment (option_and_then a_natural (get (key fields.At) json))

-- which pod is put aside, or explained
unfoldable pub uid_at : Data → Result Name Field
uid_at json = name_at fields.Uid json
