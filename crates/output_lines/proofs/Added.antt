-- What is added behind a label.
use Rattle.std.proofs.Common.{ℕ, List, ◌++◌, sym, subst, append_assoc}
use Rattle.streams.specs.TextBuilder.{Adds}
use Rattle.streams.specs.declared.text_builder.TextBuilder.{TextBuilder}
use Rattle.streams.proofs.Built.{adds_both}

-- a piece, and then a label and what stands behind it
pub adds_labelled : (old between new : TextBuilder) (one label other : List ℕ) → Adds old between one → Adds between new (label ++ other) → Adds old new (one ++ label ++ other)
adds_labelled old between new one label other first next =
    subst (Adds old new) (sym (append_assoc one label other)) (adds_both old between new one (label ++ other) first next)
