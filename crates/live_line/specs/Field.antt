-- How an order spells the names of its fields.
use Rattle.std.specs.Prelude.{ℕ, List, codes}
use Rattle.live_line.specs.declared.field.Field.{Field}
use Rattle.live_line.specs.declared.field.Field.TheVariants.{Op, Of, Uid, Node, Ticket, Is, Gave, At, Event, Labels}

-- the name of a field
abbrev pub key : Field → List ℕ
key Op = codes "op"
key Of = codes "of"
key Uid = codes "uid"
key Node = codes "node"
key Ticket = codes "ticket"
key Is = codes "is"
key Gave = codes "gave"
key At = codes "at"
key Event = codes "event"
key Labels = codes "labels"
