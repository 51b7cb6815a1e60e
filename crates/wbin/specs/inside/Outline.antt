-- What the code gives for the order of a module's sections.
use Rattle.std.specs.Prelude.{◌≢◌, ℕ, ◌<◌, ◌≤◌, ◌⊎◌, List, [], All, length, take, drop, map, Option, Some, None, Result, Ok, Err}
use Rattle.wcode.specs.declared.fault.BinFault.{BinFault}
use Rattle.wcode.specs.declared.fault.BinFault.TheVariants.{NoMemory}
use Rattle.wbin.specs.declared.section.Stretch.{Stretch}
use Rattle.wbin.specs.declared.section.Outline.{Outline}
use Rattle.wmodule.specs.Grammar.{SpellsEach, Section, SpellsSection, IsCustom, InOrder}

-- the section that stands there
abbrev pub section_of : List ℕ → Stretch → Section
section_of bytes s = record { id = s.id; contents = drop s.start (take s.end bytes) }

-- the section can come next, where the greatest number before it is this
abbrev pub MayFollow : ℕ → Section → Type 0
MayFollow above s = IsCustom s ⊎ ((above < s.id) × (s.id ≤ 11))

-- a section within the bytes
abbrev pub Within : List ℕ → Stretch → Type 0
Within bytes s = (s.start ≤ s.end) × (s.end ≤ length bytes)

-- what is read for a section
unfoldable pub ReadsStretch : List ℕ → ℕ → ℕ → Result Stretch BinFault → Type 0
ReadsStretch bytes at above (Ok s) =
    (at < s.end) × Within bytes s × SpellsSection (drop at bytes) (section_of bytes s) (drop s.end bytes) × MayFollow above (section_of bytes s)
ReadsStretch bytes at above (Err e) = (e ≢ NoMemory) × ((s : Section) (rest : List ℕ) → SpellsSection (drop at bytes) s rest → MayFollow above s → ⊥)

-- The bytes are sections in their order, from the place on: exactly these, or where there is a
-- fault none are.
unfoldable pub OutlinesUpTo : List ℕ → ℕ → List Section → Option BinFault → Type 0
OutlinesUpTo bytes at sections None = SpellsEach SpellsSection (drop at bytes) sections [] × InOrder 0 sections
OutlinesUpTo bytes at sections (Some e) =
    (e ≢ NoMemory) × ((others : List Section) → SpellsEach SpellsSection (drop at bytes) others [] → InOrder 0 others → ⊥)

abbrev pub Outlines : List ℕ → ℕ → Outline → Type 0
Outlines bytes at o = All (Within bytes) o.sections.items × OutlinesUpTo bytes at (map (section_of bytes) o.sections.items) o.fault
