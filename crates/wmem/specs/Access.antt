-- What a load and a store do to a list of bytes (WebAssembly Core 1.0, 4.4.4).
use Rattle.std.specs.Prelude.{◌≡◌, ℕ, ◌+◌, ◌*◌, ◌<◌, ◌≤◌, Bool, true, false, List, ◌++◌, length, take, drop, slice_range, Result, Ok, Err}
use Rattle.wnum.specs.Conversion.{extend_s, extend_u}
use Rattle.wmem.specs.Bytes.{number_in}
use Rattle.wmem.specs.declared.trap.Trap.{Trap}
use Rattle.wmem.specs.declared.trap.Trap.TheVariants.{MemoryOutOfBounds}
use Rattle.wmem.specs.declared.access.Load.{Load}
use Rattle.wmem.specs.declared.access.Load.TheVariants.{I32, I64, I32Signed8, I32Unsigned8, I32Signed16, I32Unsigned16, I64Signed8, I64Unsigned8, I64Signed16, I64Unsigned16, I64Signed32, I64Unsigned32}
use Rattle.wmem.specs.declared.access.Width.{Width}
use Rattle.wmem.specs.declared.access.Width.TheVariants.{One, Two, Four, Eight}

-- what a load reads: how many bytes, whether they are a signed number, and how many bits its result
-- has
pub record Reading : Type 0 where
  pub bytes : ℕ
  pub signed : Bool
  pub bits : ℕ

-- each load instruction's reading
abbrev pub reading_of : Load → Reading
reading_of I32 = record { bytes = 4; signed = false; bits = 32 }
reading_of I64 = record { bytes = 8; signed = false; bits = 64 }
reading_of I32Signed8 = record { bytes = 1; signed = true; bits = 32 }
reading_of I32Unsigned8 = record { bytes = 1; signed = false; bits = 32 }
reading_of I32Signed16 = record { bytes = 2; signed = true; bits = 32 }
reading_of I32Unsigned16 = record { bytes = 2; signed = false; bits = 32 }
reading_of I64Signed8 = record { bytes = 1; signed = true; bits = 64 }
reading_of I64Unsigned8 = record { bytes = 1; signed = false; bits = 64 }
reading_of I64Signed16 = record { bytes = 2; signed = true; bits = 64 }
reading_of I64Unsigned16 = record { bytes = 2; signed = false; bits = 64 }
reading_of I64Signed32 = record { bytes = 4; signed = true; bits = 64 }
reading_of I64Unsigned32 = record { bytes = 4; signed = false; bits = 64 }

-- how many bytes a store writes
abbrev pub byte_count : Width → ℕ
byte_count One = 1
byte_count Two = 2
byte_count Four = 4
byte_count Eight = 8

-- a number of `from` bits as one of `to` bits: with its sign kept, or with zeros above it
abbrev pub extend : Bool → ℕ → ℕ → ℕ → ℕ
extend true from to number = extend_s from to number
extend false from to number = extend_u from to number

-- what a reading gives at an address within the bytes
abbrev pub value_read : Reading → List ℕ → ℕ → ℕ
value_read reading bytes address =
    extend reading.signed (8 * reading.bytes) reading.bits
    (number_in (slice_range bytes address (address + reading.bytes)))

-- a load's outcome: the value if all its bytes lie within the memory, else the trap
abbrev pub LoadGives : Load → List ℕ → ℕ → Result ℕ Trap → Type 0
LoadGives load bytes address (Ok value) =
    (address + (reading_of load).bytes ≤ length bytes) × (value ≡ value_read (reading_of load) bytes address)
LoadGives load bytes address (Err trap) =
    (length bytes < address + (reading_of load).bytes) × (trap ≡ MemoryOutOfBounds)

-- a list with new bytes in place of those from an address on
abbrev pub with_bytes : List ℕ → ℕ → List ℕ → List ℕ
with_bytes bytes address new = take address bytes ++ new ++ drop (address + length new) bytes
