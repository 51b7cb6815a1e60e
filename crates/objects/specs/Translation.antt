-- How a translation stands for what an object gives.
use Rattle.std.specs.Prelude.{◌≡◌, ℕ, Bool, true, not, ◌==◌, List, [], drop, Option, Some, None, Ok}
use Rattle.std.specs.List.{list_all}
use Rattle.quant.specs.declared.event.Event.{Event}
use Rattle.manifest.specs.Line.{meaning}
use Rattle.manifest.specs.declared.command.Command.TheVariants as commands
use Rattle.objects.specs.declared.translation.Translation.{Translation}
use Rattle.objects.specs.LeftOut.{told_names}
use Rattle.objects.specs.Told.{Told}

-- no byte that ends a line
abbrev pub is_one_line : List ℕ → Bool
is_one_line text = list_all (λ byte. not (byte == 10)) text

-- a line that a script's reader takes for just this event; of no event the empty line, which it
-- skips
abbrev pub Spells : Option Event → List ℕ → Type 0
Spells None line = line ≡ []
Spells (Some event) line = (meaning line ≡ Ok (commands.Event event)) × (is_one_line line ≡ true)

pub record IsTranslation (told : Told) (translation : Translation) : Type 0 where
  pub line : Spells told.event translation.line.items
  -- without the comma and the space before the first
  pub left_out : translation.left_out.items ≡ drop 2 (told_names told.left_out)
  pub uncounted : translation.uncounted ≡ told.uncounted
