-- What is told of an object in place of a row.
use Rattle.std.proofs.Common.{◌≡◌, ℕ, List, [], ◌∷◌, Result, Ok, Err, refl, sym, ap}
use Rattle.serde_json.specs.Data.{Data}
use Rattle.objects.specs.declared.change.Kind.TheVariants as kinds
use Rattle.objects.specs.declared.fault.ObjectFault.{ObjectFault}
use Rattle.objects.specs.declared.fault.ObjectFault.TheVariants.{Refused, NoMemory}
use Rattle.objects.specs.LeftOut.{Fault}
use Rattle.objects.specs.Quantity.{◌>>=◌}
use Rattle.objects.specs.Site.{Telling}
use Rattle.objects.specs.Told.{gone_if, kept_back, waiting_told}
use Rattle.objects.specs.inside.Answers.{Fails, Refuses, Gives, Answers}

-- what keeps a pod back that waits
pub held_back : (how : Telling) (spec pod : Data) (out : List ℕ) → ¬ (out ≡ []) → out ≡ kept_back how.site spec pod
    → waiting_told how spec pod ≡ gone_if how kinds.Pod pod out
unfolding waiting_told
held_back how spec pod [] some e = absurd (some refl)
held_back how spec pod (x ∷ more) some e = rw (sym e) refl

-- the fault of a reading is that of what is read behind it, too
pub fault_first : {X Y Z : Type 0} (view : X → Z) (result : Result X ObjectFault) (e : ObjectFault) (r : Result Y Fault) (f : Y → Result Z Fault)
    → result ≡ Err e → Fails e r → Gives view result (r >>= f)
fault_first view result NoMemory r f is h = rw is tt
fault_first view result (Refused why field) r f is h = rw is (ap (λ x. x >>= f) h)

pub refusal_first : {X Y Z : Type 0} (view : X → Z) (result : Result X ObjectFault) (e : ObjectFault) (r : Result Y Fault) (f : Y → Result Z Fault)
    → result ≡ Err e → Refuses e r → Gives view result (r >>= f)
refusal_first view result NoMemory r f is h = absurd h
refusal_first view result (Refused why field) r f is h = fault_first view result (Refused why field) r f is h

-- what is answered is given as it is seen
pub passed_on : {X Y : Type 0} (view : X → Y) (result : Result X ObjectFault) (r : Result X Fault) → Answers result r → Gives view result (r >>= λ x. Ok (view x))
passed_on view (Ok x) r h = rw h refl
passed_on view (Err NoMemory) r h = tt
passed_on view (Err (Refused why field)) r h = rw h refl
