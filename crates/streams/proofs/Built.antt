-- What is added to a text step by step.
use Rattle.std.proofs.Common.{◌≡◌, ◌∙◌, ℕ, List, [], ◌++◌, sym, ap, append-nil, append_assoc}
use Rattle.streams.specs.TextBuilder.{Adds, Holds}
use Rattle.streams.specs.declared.text_builder.TextBuilder.{TextBuilder}

-- who adds nothing
pub adds_nothing : (text : TextBuilder) → Adds text text []
adds_nothing text whole = (whole, sym (append-nil text.bytes.items))

-- what is added by one step and by the next
pub adds_both : (old between new : TextBuilder) (one other : List ℕ) → Adds old between one → Adds between new other → Adds old new (one ++ other)
adds_both old between new one other first next whole =
    let then = next whole in
    let before = first then.0 in
    (before.0, then.1 ∙ ap (λ t. t ++ other) before.1 ∙ append_assoc old.bytes.items one other)

-- what was added to an empty text is all that it has
pub adds_all : (old new : TextBuilder) (more bytes : List ℕ) → Holds old [] → Adds old new more → Holds new bytes → bytes ≡ more
adds_all old new more bytes none added holds = sym holds.1 ∙ (added holds.0).1 ∙ ap (λ t. t ++ more) none.1
