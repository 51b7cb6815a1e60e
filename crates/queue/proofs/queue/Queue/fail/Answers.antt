use Rattle.std.proofs.Common.{◌≡◌, true, false, arith, refl, sym, ap, ◌∙◌}
use Rattle.std.specs.Prelude.{Some, None}
use Rattle.queue.specs.declared.refusal.Refusal.TheVariants.{NotInFlight}
use Rattle.queued.specs.Entry.{Entry, is_in_flight, is_in_flight_for, failed}
use Rattle.queue.specs.inside.Index.{stands_in}
use Rattle.queue.specs.Queue.{changed_at, refusal_to_fail, after_fail}
use Rattle.queue.specs.inside.Slots.{state_of}
use Rattle.queue.proofs.Changes.{kept_in, stands_of}
use Rattle.queue.proofs.States.{is_in_flight_of, refused, refusal_by, entry_of_kept, change_accepted, kept_changed, name_of_kept, value_of_kept}
use Rattle.queue.proofs.queue.Queue.fail.Goals as goal

pub invariant_of-self : goal.invariant_of-self
invariant_of-self c =
    let pods = c.self.inside.pods in
    let e = kept_in pods c.in-Some.slot c.in-Some.ensures.filled in
    let name : e.0.name ≡ c.args.uid.now = sym (name_of_kept pods c.in-Some.slot e.0 c.args.uid.now e.1 c.in-Some.ensures.name) in
    let value : c.value_at.result.now ≡ e.0.value = value_of_kept pods c.in-Some.slot e.0 c.value_at.result.now e.1 c.value_at.ensures.value in
    let passes : is_in_flight_for c.args.pass e.0.value.state ≡ true = ap (λ (e : Entry). is_in_flight_for c.args.pass e.state) (sym value) ∙ sym c.is_in_flight_for.ensures ∙ c.if-is_in_flight_for.true in
    let flies : stands_in is_in_flight pods c.in-Some.slot ≡ true = stands_of is_in_flight pods c.in-Some.slot e.0 e.1 ∙ is_in_flight_of c.args.pass e.0.value.state passes in
    kept_changed pods c.change-self-inside.new.pods c.self.inside.index c.change-self-inside.new.index c.in-Some.slot c.self.inside.compared c.change-self-inside.result (failed c.args.how c.args.now) c.self.invariant c.change-self-inside.ensures.after (λ e. refl) c.in-Some.ensures.filled c.change-self-inside.ensures.index
    (omega (arith, c.change-self-inside.ensures.from_flight flies))

pub returns-in-Some-clause-answer : goal.returns-in-Some-clause-answer
unfolding refusal_to_fail
returns-in-Some-clause-answer c =
    let pods = c.self.inside.pods in
    let e = kept_in pods c.in-Some.slot c.in-Some.ensures.filled in
    let name : e.0.name ≡ c.args.uid.now = sym (name_of_kept pods c.in-Some.slot e.0 c.args.uid.now e.1 c.in-Some.ensures.name) in
    let value : c.value_at.result.now ≡ e.0.value = value_of_kept pods c.in-Some.slot e.0 c.value_at.result.now e.1 c.value_at.ensures.value in
    let passes : is_in_flight_for c.args.pass e.0.value.state ≡ true = ap (λ (e : Entry). is_in_flight_for c.args.pass e.state) (sym value) ∙ sym c.is_in_flight_for.ensures ∙ c.if-is_in_flight_for.true in
    sym (refusal_by (λ (e : Entry). is_in_flight_for c.args.pass e.state) (state_of pods) c.args.uid.now (Some e.0.value) true (entry_of_kept pods c.in-Some.slot e.0 c.args.uid.now c.self.invariant.once e.1 name) passes)
    ∙ ap (λ q. refusal_to_fail q c.args.uid.now c.args.pass) c.self.view_is

pub returns-in-Some-clause-after : goal.returns-in-Some-clause-after
unfolding after_fail refusal_to_fail
returns-in-Some-clause-after c =
    let pods = c.self.inside.pods in
    let e = kept_in pods c.in-Some.slot c.in-Some.ensures.filled in
    let name : e.0.name ≡ c.args.uid.now = sym (name_of_kept pods c.in-Some.slot e.0 c.args.uid.now e.1 c.in-Some.ensures.name) in
    let value : c.value_at.result.now ≡ e.0.value = value_of_kept pods c.in-Some.slot e.0 c.value_at.result.now e.1 c.value_at.ensures.value in
    let passes : is_in_flight_for c.args.pass e.0.value.state ≡ true = ap (λ (e : Entry). is_in_flight_for c.args.pass e.state) (sym value) ∙ sym c.is_in_flight_for.ensures ∙ c.if-is_in_flight_for.true in
    change_accepted pods c.change-self-inside.new.pods c.in-Some.slot e.0 c.args.uid.now (λ (e : Entry). is_in_flight_for c.args.pass e.state) (failed c.args.how c.args.now) c.self.invariant.once e.1 name passes c.change-self-inside.ensures.after
    ∙ ap (λ q. after_fail q c.args.uid.now c.args.pass c.args.how c.args.now) c.self.view_is

pub returns-in_default-clause-answer : goal.returns-in_default-clause-answer
unfolding refusal_to_fail
returns-in_default-clause-answer c =
    let pods = c.self.inside.pods in
    let e = kept_in pods c.in-Some.slot c.in-Some.ensures.filled in
    let name : e.0.name ≡ c.args.uid.now = sym (name_of_kept pods c.in-Some.slot e.0 c.args.uid.now e.1 c.in-Some.ensures.name) in
    let value : c.value_at.result.now ≡ e.0.value = value_of_kept pods c.in-Some.slot e.0 c.value_at.result.now e.1 c.value_at.ensures.value in
    let passes : is_in_flight_for c.args.pass e.0.value.state ≡ false = ap (λ (e : Entry). is_in_flight_for c.args.pass e.state) (sym value) ∙ sym c.is_in_flight_for.ensures ∙ c.if-is_in_flight_for.false in
    sym (refusal_by (λ (e : Entry). is_in_flight_for c.args.pass e.state) (state_of pods) c.args.uid.now (Some e.0.value) false (entry_of_kept pods c.in-Some.slot e.0 c.args.uid.now c.self.invariant.once e.1 name) passes)
    ∙ ap (λ q. refusal_to_fail q c.args.uid.now c.args.pass) c.self.view_is

pub returns-in_default-clause-after : goal.returns-in_default-clause-after
unfolding after_fail refusal_to_fail
returns-in_default-clause-after c =
    let pods = c.self.inside.pods in
    let e = kept_in pods c.in-Some.slot c.in-Some.ensures.filled in
    let name : e.0.name ≡ c.args.uid.now = sym (name_of_kept pods c.in-Some.slot e.0 c.args.uid.now e.1 c.in-Some.ensures.name) in
    let value : c.value_at.result.now ≡ e.0.value = value_of_kept pods c.in-Some.slot e.0 c.value_at.result.now e.1 c.value_at.ensures.value in
    let passes : is_in_flight_for c.args.pass e.0.value.state ≡ false = ap (λ (e : Entry). is_in_flight_for c.args.pass e.state) (sym value) ∙ sym c.is_in_flight_for.ensures ∙ c.if-is_in_flight_for.false in
    refused _ NotInFlight (state_of pods) (changed_at (state_of pods) c.args.uid.now (failed c.args.how c.args.now))
    (refusal_by (λ (e : Entry). is_in_flight_for c.args.pass e.state) (state_of pods) c.args.uid.now (Some e.0.value) false (entry_of_kept pods c.in-Some.slot e.0 c.args.uid.now c.self.invariant.once e.1 name) passes)
    ∙ ap (λ q. after_fail q c.args.uid.now c.args.pass c.args.how c.args.now) c.self.view_is

pub returns-in_default-2-clause-answer : goal.returns-in_default-2-clause-answer
unfolding refusal_to_fail
returns-in_default-2-clause-answer c =
    sym (refusal_by (λ (e : Entry). is_in_flight_for c.args.pass e.state) (state_of c.self.inside.pods) c.args.uid.now None false c.in_default.ensures.value refl)
    ∙ ap (λ q. refusal_to_fail q c.args.uid.now c.args.pass) c.self.view_is

pub returns-in_default-2-clause-after : goal.returns-in_default-2-clause-after
unfolding after_fail refusal_to_fail
returns-in_default-2-clause-after c =
    refused _ NotInFlight (state_of c.self.inside.pods) (changed_at (state_of c.self.inside.pods) c.args.uid.now (failed c.args.how c.args.now))
    (refusal_by (λ (e : Entry). is_in_flight_for c.args.pass e.state) (state_of c.self.inside.pods) c.args.uid.now None false c.in_default.ensures.value refl)
    ∙ ap (λ q. after_fail q c.args.uid.now c.args.pass c.args.how c.args.now) c.self.view_is
