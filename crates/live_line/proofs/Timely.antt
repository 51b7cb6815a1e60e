-- A moment that a line tells is one that clocks have.
use Rattle.std.proofs.Common.{◌≡◌, ℕ, Bool, true, false, List, Option, Some, None, Result, Ok, Err, codes, cond, refl}
use Rattle.std.proofs.lemmas.Bool.{leb-true}
use Rattle.std.specs.Prelude.{nat_le}
use Rattle.std.specs.Str.{bytes_eq}
use Rattle.std.specs.Prelude.{option_and_then}
use Rattle.serde_json.specs.Data.{Data}
use Rattle.serde_json.specs.Find.{get}
use Rattle.quant.specs.declared.event.Event.TheVariants.{NodeSet, NodeGone, PodPending, PodBound, PodGone}
use Rattle.quant.specs.declared.limits.TheConstants.{LATEST_MOMENT}
use Rattle.quant.specs.declared.name.Name.{Name}
use Rattle.objects.specs.declared.heard.Heard.{Heard}
use Rattle.objects.specs.declared.heard.Heard.TheVariants as heard_as
use Rattle.objects.specs.declared.heard.NoValue.{NoValue}
use Rattle.objects.specs.declared.heard.NoValue.TheVariants as no_values
use Rattle.objects.specs.Heard.{heard, value_in}
use Rattle.objects.specs.Site.{Site, with_labels}
use Rattle.ledger.specs.declared.event.Event.{Event}
use Rattle.live_line.specs.declared.field.Field.{Field}
use Rattle.live_line.specs.declared.field.Field.TheVariants as fields
use Rattle.live_line.specs.declared.meaning.Meaning.{Meaning}
use Rattle.live_line.specs.Meaning.{is_order, meaning, of_aside, of_explain, of_moment, of_object, of_op, of_order, of_told, of_value}
use Rattle.live_line.specs.Field.{key}
use Rattle.live_line.specs.inside.Timely.{IsTimely}
use Rattle.live_line.specs.Order.{a_moment, a_natural, moment_at, order, text_at, told_in, uid_at}

either : (b : Bool) (x y : Meaning) → IsTimely x → IsTimely y → IsTimely (cond b x y)
either true x y a b = a
either false x y a b = b

-- ---- an order

tested : (n : ℕ) (b : Bool) → nat_le n LATEST_MOMENT ≡ b → IsTimely (of_moment (cond b (Ok (record { 0 = n })) (Err fields.At)))
tested n true is = leb-true n LATEST_MOMENT is
tested n false is = tt

moment : (read : Option ℕ) → IsTimely (of_moment (a_moment read))
moment None = tt
moment (Some n) = tested n (nat_le n LATEST_MOMENT) refl

told_moment : (json : Data) → IsTimely (of_moment (moment_at json))
unfolding moment_at
told_moment json = moment (option_and_then a_natural (get (key fields.At) json))

an_order : (read : Result Event Field) → IsTimely (of_order read)
an_order (Ok event) = tt
an_order (Err field) = tt

an_aside : (read : Result Name Field) → IsTimely (of_aside read)
an_aside (Ok uid) = tt
an_aside (Err field) = tt

an_explain : (read : Result Name Field) → IsTimely (of_explain read)
an_explain (Ok uid) = tt
an_explain (Err field) = tt

an_object : (h : Heard) → IsTimely (of_object h)
an_object (heard_as.Event (NodeSet version node)) = tt
an_object (heard_as.Event (NodeGone version name)) = tt
an_object (heard_as.Event (PodPending version pod)) = tt
an_object (heard_as.Event (PodBound version uid node request)) = tt
an_object (heard_as.Event (PodGone version uid)) = tt
an_object (heard_as.Withheld version uid) = tt
an_object heard_as.Nothing = tt
an_object heard_as.Unread = tt

a_told : (site : Site) (read : Result (Data × Data) Field) → IsTimely (of_told site read)
a_told site (Ok (event, labels)) = an_object (heard (with_labels labels site) event)
a_told site (Err field) = tt

an_op : (site : Site) (json : Data) (op : Result (List ℕ) Field) → IsTimely (of_op site json op)
an_op site json (Ok op) =
    either (bytes_eq op (codes "told")) _ _ (a_told site (told_in json))
    (either (bytes_eq op (codes "cycle")) _ _ tt
    (either (bytes_eq op (codes "tick")) _ _ (told_moment json)
    (either (bytes_eq op (codes "aside")) _ _ (an_aside (uid_at json))
    (either (bytes_eq op (codes "explain")) _ _ (an_explain (uid_at json))
    (either (bytes_eq op (codes "dump")) _ _ tt (an_order (order site json op)))))))
an_op site json (Err field) = tt

-- ---- a line

a_value : (site : Site) (value : Result Data NoValue) → IsTimely (of_value site value)
a_value site (Ok json) = either (is_order json) _ _ (an_op site json (text_at fields.Op json)) (an_object (heard site json))
a_value site (Err no_values.LongLine) = tt
a_value site (Err no_values.Blank) = tt
a_value site (Err no_values.NotJson) = tt

pub timely : (site : Site) (line : List ℕ) → IsTimely (meaning site line)
unfolding meaning
timely site line = a_value site (value_in line)
