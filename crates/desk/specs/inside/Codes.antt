-- How the values that contracts see are stored, by which a proof tells them apart.
use Rattle.std.specs.Prelude.{ℕ, List, refl}
use Rattle.std.specs.Coded.{Coded, code_by, coded×, coded_ℕ, coded_list}
use Rattle.std.specs.FinMap.{code}
use Rattle.quant.specs.contracts.objects.Node as node
use Rattle.quant.specs.contracts.amount.Res as res
use Rattle.quant.specs.contracts.amount.Moment as moment
use Rattle.quant.specs.declared.objects.Node.{Node}
use Rattle.quant.specs.declared.amount.Res.{Res}
use Rattle.quant.specs.declared.amount.Moment.{Moment}
use Rattle.queued.specs.contracts.slot.Slot as slot
use Rattle.queue.specs.Queue.{QueueState, Entries}
use Rattle.book.specs.Cluster.{Cluster}
use Rattle.book.specs.inside.Codes.{cluster_code}
use Rattle.desk.specs.Shown.{Shown}
use Rattle.desk.specs.Machine.{State}
use Rattle.desk.specs.inside.Caller.{Core}

-- a shown node is stored as the pair of its fields
abbrev pub shown_code : Coded Shown
shown_code = code_by (Node × Res) (coded× node.the_row.coded res.the_row.coded) (λ s. (s.node, s.used)) (λ p. record { node = p.0; used = p.1 }) (λ _. refl)

-- a queue's state too
abbrev pub queue_code : Coded QueueState
queue_code = code_by (ℕ × Entries) (coded× coded_ℕ (code (coded_list coded_ℕ) slot.the_row.coded)) (λ q. (q.limit, q.entries)) (λ p. record { limit = p.0; entries = p.1 }) (λ _. refl)

-- a desk's state as the tuple of its fields
abbrev pub state_code : Coded State
state_code =
    code_by (Cluster × (QueueState × (Moment × List ℕ))) (coded× cluster_code (coded× queue_code (coded× moment.the_row.coded (coded_list coded_ℕ))))
    (λ s. (s.cluster, (s.queue, (s.clock, s.calls))))
    (λ p. record { cluster = p.0; queue = p.1.0; clock = p.1.1.0; calls = p.1.1.1 })
    (λ _. refl)

-- and a desk as its state
abbrev pub core_code : Coded Core
core_code = code_by State state_code (λ d. d.state) (λ s. record { state = s }) (λ _. refl)
