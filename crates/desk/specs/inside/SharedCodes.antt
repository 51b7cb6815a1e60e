-- How the values that contracts see of a shared desk are stored.
use Rattle.std.specs.Prelude.{ℕ, List, refl}
use Rattle.std.specs.Coded.{Coded, code_by, coded×, coded_ℕ, coded_list}
use Rattle.logbook.specs.Pages.{Book, book_coded}
use Rattle.desk.specs.contracts.step.Step as step
use Rattle.desk.specs.contracts.step.Reply as reply
use Rattle.desk.specs.declared.step.Step.{Step}
use Rattle.desk.specs.declared.step.Reply.{Reply}
use Rattle.desk.specs.History.{Call}
use Rattle.desk.specs.Shared.{Pass, Desk}
use Rattle.desk.specs.inside.Shared.{Prefix, Held}
use Rattle.book.specs.contracts.limits.Limits as limits
use Rattle.book.specs.declared.limits.Limits.{Limits}
use Rattle.desk.specs.inside.Caller.{Core}
use Rattle.desk.specs.inside.Codes.{core_code}

-- a call as the tuple of its fields
abbrev pub call_code : Coded Call
call_code =
    code_by (ℕ × (ℕ × (Step × Reply))) (coded× coded_ℕ (coded× coded_ℕ (coded× step.the_row.coded reply.the_row.coded))) (λ c. (c.pass, (c.number, (c.step, c.reply))))
    (λ p. record { pass = p.0; number = p.1.0; step = p.1.1.0; reply = p.1.1.1 })
    (λ _. refl)

-- a beginning of a history
abbrev pub prefix_code : Coded Prefix
prefix_code = code_by (Book × List Call) (coded× book_coded (coded_list call_code)) (λ k. (k.book, k.list)) (λ p. record { book = p.0; list = p.1 }) (λ _. refl)

-- what lies under the lock
abbrev pub held_code : Coded Held
held_code = code_by (Core × Prefix) (coded× core_code prefix_code) (λ x. (x.desk, x.prefix)) (λ p. record { desk = p.0; prefix = p.1 }) (λ _. refl)

-- a pass, and its desk
abbrev pub pass_code : Coded Pass
pass_code =
    code_by (ℕ × (ℕ × List Call)) (coded× coded_ℕ (coded× coded_ℕ (coded_list call_code))) (λ m. (m.caller.number, (m.caller.calls, m.seen)))
    (λ p. record { caller = record { number = p.0; calls = p.1.0 }; seen = p.1.1 })
    (λ _. refl)

abbrev pub desk_code : Coded Desk
desk_code = code_by (Limits × ℕ) (coded× limits.the_row.coded coded_ℕ) (λ d. (d.limits, d.handed)) (λ p. record { limits = p.0; handed = p.1 }) (λ _. refl)
