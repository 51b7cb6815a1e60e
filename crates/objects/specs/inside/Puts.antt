-- What is known of names that are put, for which memory may have lacked.
use Rattle.std.specs.Prelude.{◌≡◌, ◌++◌, ℕ, List, true}
use Rattle.objects.specs.declared.left_out.Names.{Names}

-- where they are whole behind a step, they were so before it, and this holds
abbrev pub WhenWhole : (old new : Names) → Type 0 → Type 0
WhenWhole old new fact = new.is_whole ≡ true → (old.is_whole ≡ true) × fact

-- a text is put behind them
abbrev pub Puts : (old new : Names) → List ℕ → Type 0
Puts old new text = WhenWhole old new (new.bytes.items ≡ old.bytes.items ++ text)
