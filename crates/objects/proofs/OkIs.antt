-- What is read, where it is, has a property.
use Rattle.std.proofs.Common.{◌≡◌, Bool, true, false, cond, Option, Some, None, option_and_then, Result, Ok, Err, IfOk, IfSome, refl}
use Rattle.objects.specs.Quantity.{◌>>=◌}

-- ---- of a result

pub record OkIs {B E : Type 0} (P : B → Type 0) (r : Result B E) : Type 0 where
  pub is : IfOk r P

pub bind_ok : {A B E : Type 0} {P : B → Type 0} (r : Result A E) (f : A → Result B E) → ((x : A) → OkIs P (f x)) → OkIs P (r >>= f)
bind_ok (Ok x) f h = h x
bind_ok (Err e) f h = record { is = tt }

pub last_ok : {B E : Type 0} {P : B → Type 0} (x : B) → P x → OkIs {E = E} P (Ok x)
last_ok x h = record { is = h }

pub no_ok : {B E : Type 0} {P : B → Type 0} (e : E) → OkIs {B = B} P (Err e)
no_ok e = record { is = tt }

pub bind_with : {A B E : Type 0} {Q : A → Type 0} {P : B → Type 0} (r : Result A E) (f : A → Result B E) → OkIs Q r
    → ((x : A) → Q x → OkIs P (f x)) → OkIs P (r >>= f)
bind_with (Ok x) f q h = h x q.is
bind_with (Err e) f q h = record { is = tt }

pub either_is : {B E : Type 0} {P : B → Type 0} (b : Bool) (x y : Result B E) → OkIs P x → OkIs P y → OkIs P (cond b x y)
either_is true x y p q = p
either_is false x y p q = q

-- by a test
pub tested : {B E : Type 0} {P : B → Type 0} (b : Bool) (x y : Result B E) → (b ≡ true → OkIs P x) → OkIs P y → OkIs P (cond b x y)
tested true x y p q = p refl
tested false x y p q = q

-- ---- of an option

pub record SomeIs {B : Type 0} (P : B → Type 0) (o : Option B) : Type 0 where
  pub is : IfSome o P

pub then_some : {A B : Type 0} {P : B → Type 0} (f : A → Option B) (o : Option A) → ((x : A) → SomeIs P (f x)) → SomeIs P (option_and_then f o)
then_some f (Some x) h = h x
then_some f None h = record { is = tt }

pub some_tested : {B : Type 0} {P : B → Type 0} (b : Bool) (x : B) → (b ≡ true → P x) → SomeIs P (cond b (Some x) None)
some_tested true x h = record { is = h refl }
some_tested false x h = record { is = tt }
