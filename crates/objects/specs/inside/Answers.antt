-- What a reader returns: what the definition tells, or its fault.
use Rattle.std.specs.Prelude.{◌≡◌, Result, Ok, Err}
use Rattle.objects.specs.declared.fault.ObjectFault.{ObjectFault}
use Rattle.objects.specs.declared.fault.ObjectFault.TheVariants.{Refused, NoMemory}
use Rattle.objects.specs.LeftOut.{Fault, refused}

-- a fault is the one that the definition tells, but for want of memory, which it never tells
abbrev pub Fails : {Y : Type 0} → ObjectFault → Result Y Fault → Type 0
Fails NoMemory meaning = Unit {0}
Fails (Refused why field) meaning = meaning ≡ Err (refused why field.now)

-- what a function returned, seen by view, is what the definition tells, unless memory ran out
abbrev pub Gives : {X Y : Type 0} → (X → Y) → Result X ObjectFault → Result Y Fault → Type 0
Gives view (Ok x) meaning = meaning ≡ Ok (view x)
Gives view (Err e) meaning = Fails e meaning

-- what a function returned is what the definition tells, unless memory ran out
abbrev pub Answers : {X : Type 0} → Result X ObjectFault → Result X Fault → Type 0
Answers result meaning = Gives (λ x. x) result meaning

-- the same of a reader that takes no memory
abbrev pub Refuses : {Y : Type 0} → ObjectFault → Result Y Fault → Type 0
Refuses NoMemory meaning = ⊥
Refuses (Refused why field) meaning = meaning ≡ Err (refused why field.now)

abbrev pub Tells : {X Y : Type 0} → (X → Y) → Result X ObjectFault → Result Y Fault → Type 0
Tells view (Ok x) meaning = meaning ≡ Ok (view x)
Tells view (Err e) meaning = Refuses e meaning
