-- A moment that a line's command tells is one that clocks have.
use Rattle.std.proofs.Common.{◌≡◌, ◌≤◌, ◌&&◌, ℕ, Bool, true, false, cond, List, Result, Ok, Err, IfOk, nat_le, length, refl, subst, arith}
use Rattle.std.proofs.lemmas.Bool.Decides.{nat_tests}
use Rattle.std.specs.Option.{ok_or}
use Rattle.serde_json.specs.Data.{Data}
use Rattle.serde_json.specs.Find.{as_u64}
use Rattle.quant.specs.declared.limits.TheConstants.{LATEST_MOMENT}
use Rattle.manifest.specs.declared.command.Command.{Command}
use Rattle.manifest.specs.declared.operation.Operation.{Operation}
use Rattle.manifest.specs.declared.operation.Operation.TheVariants as operations
use Rattle.manifest.specs.declared.field.Field.{Field}
use Rattle.manifest.specs.declared.field.Field.TheVariants as fields
use Rattle.manifest.specs.declared.line.TheConstants.{MAX_LINE}
use Rattle.manifest.specs.declared.fault.LineFault.{LineFault}
use Rattle.manifest.specs.declared.fault.LineFault.TheVariants.{BadField, OverLimit}
use Rattle.manifest.specs.Reading.{◌>>=◌, Answers, at, integer, member, natural, parsed, text}
use Rattle.manifest.specs.Operation.{operation_named}
use Rattle.manifest.specs.Line.{node_in, gone_in, pod_in, bound_in, deleted_in, tick_in, done_in, forget_in, judge_in, fields_of, command_in, meaning, IsTimely}

-- a thing that is read has a property
record Has {B : Type 0} (P : B → Type 0) (r : Result B LineFault) : Type 0 where
  holds : IfOk r P

told : {B : Type 0} {P : B → Type 0} (x : B) → P x → Has P (Ok x)
told x h = record { holds = h }

refused : {B : Type 0} {P : B → Type 0} (e : LineFault) → Has P (Err e)
refused e = record { holds = tt }

-- it has it if each thing has it that may be read behind another
last : {A B : Type 0} {P : B → Type 0} (r : Result A LineFault) (f : A → Result B LineFault) → ((x : A) → Has P (f x)) → Has P (r >>= f)
last (Ok x) f h = h x
last (Err e) f h = refused e

-- or each that may be read behind one of which something is known
behind : {A B : Type 0} {Q : A → Type 0} {P : B → Type 0} (r : Result A LineFault) (f : A → Result B LineFault)
    → Has Q r → ((x : A) → Q x → Has P (f x)) → Has P (r >>= f)
behind (Ok x) f q h = h x q.holds
behind (Err e) f q h = refused e

within : (is_low : Bool) (n high : ℕ) (e : LineFault) → Has (λ m. m ≤ high) (cond (is_low && nat_le n high) (Ok n) (Err e))
within false n high e = refused e
within true n high e =
    elim (nat_le n high) as (λ b. nat_le n high ≡ b → Has (λ m. m ≤ high) (cond b (Ok n) (Err e))) [
      | true ↦ λ is. told n (grind (arith, nat_tests))
      | false ↦ λ is. refused e
    ] refl

natural_is_within : (low high : ℕ) (field : Field) (value : Data) → Has (λ n. n ≤ high) (natural low high field value)
unfolding natural
natural_is_within low high field value = last (integer field value) _ (λ number. last (ok_or (as_u64 number) (OverLimit field)) _ (λ n. within (nat_le low n) n high (OverLimit field)))

tick_is_timely : (json : Data) → Has IsTimely (tick_in json)
unfolding tick_in
tick_is_timely json = behind (at fields.At (natural 0 LATEST_MOMENT) json) _ (last (member fields.At json) _ (natural_is_within 0 LATEST_MOMENT fields.At)) (λ moment few. told _ few)

fields_are_timely : (operation : Operation) (json : Data) → Has IsTimely (fields_of operation json)
unfolding fields_of node_in gone_in pod_in bound_in deleted_in done_in forget_in judge_in
fields_are_timely operations.Node json = search (last, told) depth 12
fields_are_timely operations.Gone json = search (last, told)
fields_are_timely operations.Pod json = search (last, told)
fields_are_timely operations.Bound json = search (last, told) depth 12
fields_are_timely operations.Deleted json = search (last, told)
fields_are_timely operations.Tick json = tick_is_timely json
fields_are_timely operations.Cycle json = told _ tt
fields_are_timely operations.Done json = search (last, told)
fields_are_timely operations.Forget json = search (last, told)
fields_are_timely operations.Dump json = told _ tt
fields_are_timely operations.Judge json = search (last, told)

meaning_is_timely : (line : List ℕ) → Has IsTimely (meaning line)
unfolding meaning command_in
meaning_is_timely line =
    elim (nat_le (length line) MAX_LINE) as (λ b. Has IsTimely (cond b (parsed line >>= command_in) (Err (OverLimit fields.Op)))) [
      | true ↦ last (parsed line) _ (λ json. last (at fields.Op text json) _ (λ op. last (ok_or (operation_named op) (BadField fields.Op)) _ (λ operation. fields_are_timely operation json)))
      | false ↦ refused _
    ]

pub answer_is_timely : (line : List ℕ) (result : Result Command LineFault) → Answers result (meaning line) → IfOk result IsTimely
answer_is_timely line (Ok command) is = subst (λ r. IfOk r IsTimely) is (meaning_is_timely line).holds
answer_is_timely line (Err e) is = tt
