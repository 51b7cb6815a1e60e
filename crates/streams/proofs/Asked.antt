-- What lines ask for whose fronts alone are kept.
use Rattle.std.proofs.Common.{◌≡◌, ℕ, ◌+◌, false, eqb, leb, List, ◌∷◌, length, take, Option, Result, ⊎_elim, refl, sym, ap, ◌∙◌, arith}
use Rattle.std.proofs.lemmas.Bool.{ne_eqb, lt-leb, cases_lt}
use Rattle.std.proofs.lemmas.List.{length-take, take_all}
use Rattle.manifest.specs.declared.fault.LineFault.{LineFault}
use Rattle.manifest.specs.declared.command.Command.{Command}
use Rattle.manifest.specs.Line.{meaning}
use Rattle.streams.specs.Lines.{lines_of}
use Rattle.streams.specs.Script.{asked_by, asked_then, asked_in, fault_or, fault_from}

-- the first 65,537 bytes: of a longer line no more is kept
abbrev pub kept : List ℕ → List ℕ
kept text = take 65537 text

-- what is kept of a line means what the line means
pub meaning-kept : (text : List ℕ) → meaning (kept text) ≡ meaning text
unfolding meaning
meaning-kept text = ⊎_elim
    (λ long.
    let short_of : leb (length (kept text)) 65536 ≡ false = lt-leb (length (kept text)) 65536 (omega (arith, length-take 65537 text)) in
    let too_long : leb (length text) 65536 ≡ false = lt-leb (length text) 65536 (omega arith) in
    rw (short_of, too_long) refl)
    (λ short. ap meaning (take_all 65537 text short))
    (cases_lt 65537 (length text))

-- and asks for what the line asks for
pub asked_by-kept : {A : Type 0} (taken : Command → Result A LineFault) (text : List ℕ) → asked_by taken (kept text) ≡ asked_by taken text
unfolding asked_by
asked_by-kept taken text = ⊎_elim
    (λ long.
    let some_kept : eqb (length (kept text)) 0 ≡ false = ne_eqb (length (kept text)) 0 (λ none. omega (arith, length-take 65537 text)) in
    let some : eqb (length text) 0 ≡ false = ne_eqb (length text) 0 (λ none. omega arith) in
    rw (some_kept, some, meaning-kept text) refl)
    (λ short. ap (asked_by taken) (take_all 65537 text short))
    (cases_lt 65537 (length text))

-- what the line asks for is what is kept of it asks for
says-whole : {A : Type 0} (taken : Command → Result A LineFault) (line text : List ℕ) (says : Result (Option A) LineFault) → line ≡ kept text → asked_by taken line ≡ says → asked_by taken text ≡ says
says-whole taken line text says stored told = sym (asked_by-kept taken text) ∙ ap (asked_by taken) (sym stored) ∙ told

-- what is left asks for what its first line does, and then what the later lines do
pub asked-first : {A : Type 0} (taken : Command → Result A LineFault) (rest later line text : List ℕ) (says : Result (Option A) LineFault) → line ≡ kept text → lines_of rest ≡ text ∷ lines_of later → asked_by taken line ≡ says → asked_in taken (lines_of rest) ≡ asked_then says (asked_in taken (lines_of later))
asked-first taken rest later line text says stored cut told =
    ap (asked_in taken) cut ∙ ap (λ r. asked_then r (asked_in taken (lines_of later))) (says-whole taken line text says stored told)

-- the first fault of what is left is that of its first line, or else of the later ones
pub fault-first : {A : Type 0} (taken : Command → Result A LineFault) (number : ℕ) (rest later line text : List ℕ) (says : Result (Option A) LineFault) → line ≡ kept text → lines_of rest ≡ text ∷ lines_of later → asked_by taken line ≡ says → fault_from taken number (lines_of rest) ≡ fault_or number says (fault_from taken (number + 1) (lines_of later))
fault-first taken number rest later line text says stored cut told =
    ap (fault_from taken number) cut ∙ ap (λ r. fault_or number r (fault_from taken (number + 1) (lines_of later))) (says-whole taken line text says stored told)
