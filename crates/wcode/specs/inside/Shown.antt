-- What a reader gives for a word.
use Rattle.std.specs.Prelude.{ℕ, ◌≤◌, List, length, drop, Result, Ok, Err}
use Rattle.wcode.specs.declared.instruction.Op.{Op}
use Rattle.wcode.specs.declared.opcode.Form.{Form}
use Rattle.wcode.specs.declared.fault.OpFault.{OpFault}
use Rattle.wcode.specs.Grammar.{Word, SpellsForm}
use Rattle.wcode.specs.Shown.{Shows}

-- what is read behind an opcode of this form, from the place on
unfoldable pub Reads : List ℕ → Form → ℕ → Result (Op × ℕ) OpFault → Type 0
Reads bytes f at (Ok x) = (x.1 ≤ length bytes) × (w : Word) × Shows bytes x.0 w × SpellsForm f (drop at bytes) w (drop x.1 bytes)
Reads bytes f at (Err e) = (w : Word) (rest : List ℕ) → SpellsForm f (drop at bytes) w rest → ⊥
