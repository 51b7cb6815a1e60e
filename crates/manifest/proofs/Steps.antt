-- One reading after another: what is told where the first fails, and where it doesn't.
use Rattle.std.proofs.Common.{◌≡◌, Result, Ok, Err, refl, subst, sym}
use Rattle.std.specs.Result.{IsErrAnd}
use Rattle.manifest.specs.declared.fault.LineFault.{LineFault}
use Rattle.manifest.specs.declared.fault.LineFault.TheVariants.{NotJson, BadField, Quantity, OverLimit, NoMemory}
use Rattle.manifest.specs.Reading.{◌>>=◌, Answers, Fails}

-- what the first reading tells is told of both
pub first_fails : {A B : Type 0} (e : LineFault) (r : Result A LineFault) (f : A → Result B LineFault) → Fails e r → Fails e (r >>= f)
first_fails NoMemory r f h = tt
first_fails NotJson r f h = rw h refl
first_fails (BadField field) r f h = rw h refl
first_fails (Quantity field) r f h = rw h refl
first_fails (OverLimit field) r f h = rw h refl

-- a fault that is handed on is the one that is told
pub hands_on : {B : Type 0} (result : Result B LineFault) (e : LineFault) (meaning : Result B LineFault) → IsErrAnd result (λ fault. fault ≡ e) → Fails e meaning
    → Answers result meaning
hands_on (Ok x) e meaning is h = absurd is
hands_on (Err fault) e meaning is h = subst (λ g. Fails g meaning) (sym is) h

-- a fault of the first reading is the one that both tell
pub ends : {A B : Type 0} (result : Result B LineFault) (e : LineFault) (r : Result A LineFault) (f : A → Result B LineFault) → IsErrAnd result (λ fault. fault ≡ e)
    → Fails e r → Answers result (r >>= f)
ends result e r f is h = hands_on result e (r >>= f) is (first_fails e r f h)

-- and else they tell what the second does
pub goes_on : {A B : Type 0} (result : Result B LineFault) (r : Result A LineFault) (x : A) (f : A → Result B LineFault) → r ≡ Ok x → Answers result (f x)
    → Answers result (r >>= f)
goes_on result r x f is h = subst (λ s. Answers result (s >>= f)) (sym is) h

-- also a fault that is told later
pub fails_later : {A B : Type 0} (e : LineFault) (r : Result A LineFault) (x : A) (f : A → Result B LineFault) → r ≡ Ok x → Fails e (f x) → Fails e (r >>= f)
fails_later e r x f is h = subst (λ s. Fails e (s >>= f)) (sym is) h

-- which may be known
pub gives : {A B : Type 0} (r : Result A LineFault) (x : A) (f : A → Result B LineFault) (y : Result B LineFault) → r ≡ Ok x → f x ≡ y → (r >>= f) ≡ y
gives r x f y is h = subst (λ s. (s >>= f) ≡ y) (sym is) h
