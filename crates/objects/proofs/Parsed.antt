-- The JSON value of a line, by what the reader of JSON says of the line.
use Rattle.std.proofs.Common.{◌≡◌, ℕ, List, true, false, Some, None, cond, refl}
use Rattle.std.proofs.lemmas.Str.{IsUtf8-from_is_utf8, is_utf8-from_IsUtf8}
use Rattle.std.specs.Str.{is_utf8, IsUtf8}
use Rattle.serde_json.specs.Data.{Data}
use Rattle.serde_json.specs.Read.{read}
use Rattle.objects.specs.Told.{parsed}

-- a text that is read is the value that was read
pub parsed_read : (line : List ℕ) (d : Data) → IsUtf8 line × (read line ≡ Some d) → parsed line ≡ Some d
parsed_read line d h = rw (is_utf8-from_IsUtf8 line h.0, h.1) refl

-- what is no text, or a text that is not read, is not JSON
pub parsed_refused : (line : List ℕ) → (IsUtf8 line → read line ≡ None) → parsed line ≡ None
parsed_refused line h =
    elim (is_utf8 line) as (λ b. is_utf8 line ≡ b → cond b (read line) None ≡ None) [
      | true ↦ λ e. h (IsUtf8-from_is_utf8 line e)
      | false ↦ λ e. refl
    ] refl
