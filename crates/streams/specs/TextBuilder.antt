-- What a text is that is built piece by piece, and what is added to it.
use Rattle.std.specs.Prelude.{◌≡◌, ℕ, true, List, ◌++◌}
use Rattle.streams.specs.declared.text_builder.TextBuilder.{TextBuilder}

-- no piece was left out, and it has these bytes
abbrev pub Holds : TextBuilder → List ℕ → Type 0
Holds text bytes = (text.is_whole ≡ true) × (text.bytes.items ≡ bytes)

-- where no piece is left out, none was, and these bytes were added
abbrev pub Adds : TextBuilder → TextBuilder → List ℕ → Type 0
Adds old new more = new.is_whole ≡ true → (old.is_whole ≡ true) × (new.bytes.items ≡ old.bytes.items ++ more)
