-- What a reader of an order's field returns.
use Rattle.std.specs.Prelude.{◌≡◌, Result, Ok, Err}
use Rattle.live_line.specs.declared.field.Field.{Field}

-- what it returned, seen by view, is what the definition tells, its fault too
abbrev pub Tells : {X Y : Type 0} → (X → Y) → Result X Field → Result Y Field → Type 0
Tells view (Ok x) meaning = meaning ≡ Ok (view x)
Tells view (Err e) meaning = meaning ≡ Err e
