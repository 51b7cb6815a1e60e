-- The numbers of sections (WebAssembly Core 1.0, 5.5.2).
use Rattle.std.specs.Prelude.{ℕ}
use Rattle.wbin.specs.declared.section.SectionId.{SectionId}
use Rattle.wbin.specs.declared.section.SectionId.TheVariants as sections

-- the number of a section
abbrev pub id_of : SectionId → ℕ
id_of sections.Type = 1
id_of sections.Import = 2
id_of sections.Function = 3
id_of sections.Table = 4
id_of sections.Memory = 5
id_of sections.Global = 6
id_of sections.Export = 7
id_of sections.Start = 8
id_of sections.Element = 9
id_of sections.Code = 10
id_of sections.Data = 11
