-- Reading a body as a function on lists. It says nothing that the grammar doesn't: where bytes
-- begin with an expression, what it gives is that expression's body (the law `one_body_at`);
-- elsewhere it gives some body or other, which means nothing.
use Rattle.std.specs.Prelude.{ℕ, zero, suc, List, [], ◌∷◌, length, drop, ℤ, pos, negsuc, Bool, true, false, if◌then◌else◌, ◌==◌, slice_index, Result, Ok, Err}
use Rattle.std.specs.Int.{cast_unsigned, w32, w64}
use Rattle.leb.specs.Number.{Sign, unsigned, signed}
use Rattle.leb.specs.Reading.{Found, reading}
use Rattle.leb.specs.declared.LebFault.{LebFault}
use Rattle.wcode.specs.declared.value.BlockType.{BlockType}
use Rattle.wcode.specs.declared.value.BlockType.TheVariants as blocks
use Rattle.wcode.specs.declared.value.ValueType.TheVariants.{I32, I64}
use Rattle.wcode.specs.declared.value.Value.TheVariants as values
use Rattle.wcode.specs.declared.instruction.MemArg.{MemArg}
use Rattle.wcode.specs.declared.instruction.Plain.TheVariants as plains
use Rattle.wcode.specs.declared.opcode.Form.{Form}
use Rattle.wcode.specs.declared.opcode.Form.TheVariants as forms
use Rattle.wcode.specs.declared.opcode.Opening.TheVariants as openings
use Rattle.wcode.specs.Opcodes.{form, indexed_plain}
use Rattle.wcode.specs.Syntax.{Body, done, plain, block, loop, if_else, br_table}
use Rattle.wcode.specs.Grammar.{Word, one, opens, otherwise, end, table}

-- a number, and the bytes after it
abbrev pub found_in : Result Found LebFault → ℤ × List ℕ
found_in (Ok x) = x
found_in (Err e) = (pos 0, [])

unfoldable pub number_at : Sign → ℕ → List ℕ → ℤ × List ℕ
number_at s bits bytes = found_in (reading s bits bytes)

abbrev pub natural : ℤ → ℕ
natural (pos n) = n
natural (negsuc n) = 0

-- an index, and the bytes after it
unfoldable pub index_at : List ℕ → ℕ × List ℕ
index_at bytes = let x = number_at unsigned 32 bytes in (natural x.0, x.1)

-- so many indices, and the bytes after them
unfoldable pub indices_at : ℕ → List ℕ → List ℕ × List ℕ
indices_at zero bytes = ([], bytes)
indices_at (suc n) bytes =
    let x = index_at bytes in
    let xs = indices_at n x.1 in
    (x.0 ∷ xs.0, xs.1)

-- an alignment and an offset, and the bytes after them
unfoldable pub mem_arg_at : List ℕ → MemArg × List ℕ
mem_arg_at bytes =
    let align = index_at bytes in
    let offset = index_at align.1 in
    (record { align = align.0; offset = offset.0 }, offset.1)

abbrev pub block_type_of : ℕ → BlockType
block_type_of b = if b == 0x40 then blocks.Empty else if b == 0x7F then blocks.Result I32 else blocks.Result I64

-- what follows an opcode of this form, as a word, and the bytes after it
unfoldable pub form_at : Form → List ℕ → Word × List ℕ
form_at (forms.Plain p) bytes = (one p, bytes)
form_at (forms.Opens o) bytes = (opens o (block_type_of (slice_index bytes 0)), drop 1 bytes)
form_at forms.Else bytes = (otherwise, bytes)
form_at forms.End bytes = (end, bytes)
form_at (forms.Indexed i) bytes = let x = index_at bytes in (one (indexed_plain i x.0), x.1)
form_at forms.BrTable bytes =
    let count = index_at bytes in
    let labels = indices_at count.0 count.1 in
    let default = index_at labels.1 in
    (table labels.0 default.0, default.1)
form_at forms.CallIndirect bytes = let x = index_at bytes in (one (plains.CallIndirect x.0), drop 1 x.1)
form_at (forms.Load o) bytes = let x = mem_arg_at bytes in (one (plains.Load o x.0), x.1)
form_at (forms.Store o) bytes = let x = mem_arg_at bytes in (one (plains.Store o x.0), x.1)
form_at (forms.ZeroByte p) bytes = (one p, drop 1 bytes)
form_at (forms.Const I32) bytes = let x = number_at signed 32 bytes in (one (plains.Const (values.I32 (cast_unsigned w32 x.0))), x.1)
form_at (forms.Const I64) bytes = let x = number_at signed 64 bytes in (one (plains.Const (values.I64 (cast_unsigned w64 x.0))), x.1)
form_at forms.Float bytes = (end, bytes)
form_at forms.Bad bytes = (end, bytes)

-- a word, and the bytes after it
unfoldable pub word_at : List ℕ → Word × List ℕ
word_at [] = (end, [])
word_at (opcode ∷ bytes) = form_at (form opcode) bytes

-- a body, whether an `else` ends it, and the bytes after that
pub record Ending : Type 0 where
  pub body : Body
  pub by_else : Bool
  pub rest : List ℕ

-- instructions before those of a body
abbrev pub before : (Body → Body) → Ending → Ending
before f e = record { body = f e.body; by_else = e.by_else; rest = e.rest }

-- an `if`, whose first body is this, before what `next` reads
unfoldable pub arms_at : (List ℕ → Ending) → BlockType → Ending → Ending
arms_at next t first =
    if first.by_else then (let second = next first.rest in before (if_else t first.body second.body) (next second.rest))
    else before (if_else t first.body done) (next first.rest)

-- an instruction that begins with this word, before what `next` reads
unfoldable pub item_at : (List ℕ → Ending) → Word → List ℕ → Ending
item_at next (one p) rest = before (plain p) (next rest)
item_at next (opens openings.Block t) rest = let inner = next rest in before (block t inner.body) (next inner.rest)
item_at next (opens openings.Loop t) rest = let inner = next rest in before (loop t inner.body) (next inner.rest)
item_at next (opens openings.If t) rest = arms_at next t (next rest)
item_at next otherwise rest = record { body = done; by_else = true; rest = rest }
item_at next end rest = record { body = done; by_else = false; rest = rest }
item_at next (table labels default) rest = before (br_table labels default) (next rest)

-- a body of so many bytes at most
unfoldable pub ending_at : ℕ → List ℕ → Ending
ending_at zero bytes = record { body = done; by_else = false; rest = bytes }
ending_at (suc n) bytes = let w = word_at bytes in item_at (ending_at n) w.0 w.1

-- the body of the expression that the bytes begin with
unfoldable pub body_at : List ℕ → Body
body_at bytes = (ending_at (length bytes) bytes).body
