-- Instructions without others inside them, by what follows their opcodes.
use Rattle.std.specs.Prelude.{ℕ, ◌≤◌, List, ℤ}
use Rattle.leb.specs.Number.{Sign, Spells}
use Rattle.wcode.specs.declared.opcode.Form.{Form}
use Rattle.wcode.specs.declared.opcode.Form.TheVariants as forms
use Rattle.wcode.specs.declared.short.Tail.{Tail}
use Rattle.wcode.specs.declared.short.Tail.TheVariants as tails

-- what follows an opcode of this form
abbrev pub form_tail : Form → Tail
form_tail (forms.Plain p) = tails.Nothing
form_tail (forms.Indexed i) = tails.Number
form_tail (forms.Const t) = tails.Number
form_tail (forms.Load op) = tails.Two
form_tail (forms.Store op) = tails.Two
form_tail _ = tails.Other

-- The bytes are a spelling of a number of 28 bits or more, with a sign or without, and then the
-- rest.
abbrev pub HasNumber : List ℕ → List ℕ → Type 0
HasNumber bytes rest = (s : Sign) (bits : ℕ) → 28 ≤ bits → (v : ℤ) × Spells s bits bytes v rest
