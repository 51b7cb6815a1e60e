-- What the fields of a line say. The first fault is told.
use Rattle.std.specs.Prelude.{◌≡◌, ◌&&◌, ℕ, ℤ, pos, negsuc, Bool, List, Option, Some, None, Result, Ok, Err, nat_le, int_le, if◌then◌else◌}
use Rattle.std.specs.Option.{ok_or}
use Rattle.std.specs.Str.{is_utf8}
use Rattle.serde_json.specs.Data.{Data, Num}
use Rattle.serde_json.specs.Read.{read}
use Rattle.serde_json.specs.Find.{get, as_str, as_bool, as_number, as_u64, as_i64, is_float}
use Rattle.quant.specs.Amount.{cpu_read, bytes_read}
use Rattle.quant.specs.Name.{is_name, is_text}
use Rattle.quant.specs.Request.{request_of}
use Rattle.quant.specs.declared.amount.Cpu.{Cpu}
use Rattle.quant.specs.declared.amount.Bytes.{Bytes}
use Rattle.quant.specs.declared.amount.Request.{Request}
use Rattle.quant.specs.declared.fault.QuantFault.{QuantFault}
use Rattle.manifest.specs.declared.field.Field.{Field}
use Rattle.manifest.specs.declared.fault.LineFault.{LineFault}
use Rattle.manifest.specs.declared.fault.LineFault.TheVariants.{NotJson, BadField, Quantity, OverLimit, NoMemory}
use Rattle.manifest.specs.Field.{key}

-- one reading after another: the first fault ends both
infixl 10 ◌>>=◌
abbrev pub ◌>>=◌ : {A B : Type 0} → Result A LineFault → (A → Result B LineFault) → Result B LineFault
(Ok x) >>= f = f x
(Err e) >>= f = Err e

-- a fault is the one that the definition tells, but for want of memory, which it never tells
abbrev pub Fails : {Y : Type 0} → LineFault → Result Y LineFault → Type 0
Fails NoMemory meaning = Unit {0}
Fails NotJson meaning = meaning ≡ Err NotJson
Fails (BadField field) meaning = meaning ≡ Err (BadField field)
Fails (Quantity field) meaning = meaning ≡ Err (Quantity field)
Fails (OverLimit field) meaning = meaning ≡ Err (OverLimit field)

-- what a function returned, seen by view, is what the definition tells, unless memory ran out
abbrev pub Gives : {X Y : Type 0} → (X → Y) → Result X LineFault → Result Y LineFault → Type 0
Gives view (Ok x) meaning = meaning ≡ Ok (view x)
Gives view (Err e) meaning = Fails e meaning

-- what a function returned is what the definition tells, unless memory ran out
abbrev pub Answers : {X : Type 0} → Result X LineFault → Result X LineFault → Type 0
Answers result meaning = Gives (λ x. x) result meaning

-- the JSON value that a line is, as the reader of JSON has it
unfoldable pub parsed : List ℕ → Result Data LineFault
parsed line = if is_utf8 line then ok_or (read line) NotJson else Err NotJson

-- the value under a field's key
unfoldable pub member : Field → Data → Result Data LineFault
member field json = ok_or (get (key field) json) (BadField field)

-- a field that has to be there, and how its value is read
abbrev pub at : {A : Type 0} → Field → (Field → Data → Result A LineFault) → Data → Result A LineFault
at field read json = do
  value ← member field json
  read field value

-- what an absent field stands for
abbrev pub or_else : {A : Type 0} → Field → A → (Field → Data → Result A LineFault) → Option Data → Result A LineFault
or_else field default read None = Ok default
or_else field default read (Some value) = read field value

-- a field that may be absent, what it is then, and how its value is read
abbrev pub at_or : {A : Type 0} → Field → A → (Field → Data → Result A LineFault) → Data → Result A LineFault
at_or field default read json = or_else field default read (get (key field) json)

-- a text
unfoldable pub text : Field → Data → Result (List ℕ) LineFault
text field value = ok_or (as_str value) (BadField field)

-- an integer of 64 bits; a fraction, an exponent, `-0` and what 64 bits do not hold are none
unfoldable pub integer : Field → Data → Result Num LineFault
integer field value = do
  number ← ok_or (as_number value) (BadField field)
  if is_float number then Err (BadField field) else Ok number

-- an integer from low to high
unfoldable pub natural : (low high : ℕ) → Field → Data → Result ℕ LineFault
natural low high field value = do
  number ← integer field value
  n ← ok_or (as_u64 number) (OverLimit field)
  if nat_le low n && nat_le n high then Ok n else Err (OverLimit field)

-- an integer of 32 bits: from -2,147,483,648 to 2,147,483,647
unfoldable pub signed : Field → Data → Result ℤ LineFault
signed field value = do
  number ← integer field value
  z ← ok_or (as_i64 number) (OverLimit field)
  if int_le (negsuc 2147483647) z && int_le z (pos 2147483647) then Ok z else Err (OverLimit field)

-- true or false
unfoldable pub flag : Field → Data → Result Bool LineFault
flag field value = ok_or (as_bool value) (BadField field)

-- the name that a text is
unfoldable pub name_from : Field → List ℕ → Result (List ℕ) LineFault
name_from field bytes = if is_name bytes then Ok bytes else Err (BadField field)

-- the text beside a key that a text is, as a label's value
unfoldable pub text_from : Field → List ℕ → Result (List ℕ) LineFault
text_from field bytes = if is_text bytes then Ok bytes else Err (BadField field)

-- a name
unfoldable pub name : Field → Data → Result (List ℕ) LineFault
name field value = do
  bytes ← text field value
  name_from field bytes

-- an amount, or that it is none or too large
abbrev pub amount : {A : Type 0} → Field → Result A QuantFault → Result A LineFault
amount field (Ok x) = Ok x
amount field (Err refusal) = Err (Quantity field)

-- the thousandths of a core that a text spells
unfoldable pub cpu_from : Field → List ℕ → Result Cpu LineFault
cpu_from field bytes = amount field (cpu_read bytes)

-- the bytes of memory that a text spells
unfoldable pub memory_from : Field → List ℕ → Result Bytes LineFault
memory_from field bytes = amount field (bytes_read bytes)

-- an amount of CPU
unfoldable pub cpu : Field → Data → Result Cpu LineFault
cpu field value = do
  bytes ← text field value
  cpu_from field bytes

-- an amount of memory
unfoldable pub memory : Field → Data → Result Bytes LineFault
memory field value = do
  bytes ← text field value
  memory_from field bytes

-- the request of two amounts, which is never too large, since neither amount is
unfoldable pub request : Field → Cpu → Bytes → Result Request LineFault
request field cpu mem = amount field (request_of cpu mem)
