-- What the code gives for a word of the bytes.
use Rattle.std.specs.Prelude.{◌≡◌, ℕ, ◌≤◌, List, length, drop}
use Rattle.wcode.specs.declared.instruction.Op.{Op}
use Rattle.wcode.specs.declared.instruction.Op.TheVariants as ops
use Rattle.wcode.specs.declared.opcode.Opening.TheVariants as openings
use Rattle.wcode.specs.Grammar.{Word, one, opens, otherwise, end, table, SpellsIndex, SpellsIndices}

-- The instruction stands for the word. Of a list of labels it tells the count, and where in the
-- bytes they stand.
abbrev pub Shows : List ℕ → Op → Word → Type 0
Shows bytes (ops.Plain p) w = w ≡ one p
Shows bytes (ops.Block t) w = w ≡ opens openings.Block t
Shows bytes (ops.Loop t) w = w ≡ opens openings.Loop t
Shows bytes (ops.If t) w = w ≡ opens openings.If t
Shows bytes ops.Else w = w ≡ otherwise
Shows bytes ops.End w = w ≡ end
Shows bytes (ops.BrTable count at) w =
    (labels : List ℕ) × (default : ℕ) × (last rest : List ℕ) × (w ≡ table labels default) × (count ≡ length labels) × (at ≤ length bytes)
    × SpellsIndices (drop at bytes) labels last × SpellsIndex last default rest
