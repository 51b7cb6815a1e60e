-- Names and texts are ASCII.
use Rattle.std.proofs.Common.{◌≡◌, ℕ, ◌<◌, true, List, arith, Result, Ok, Err, MatchResult, IsOk, refl}
use Rattle.std.specs.List.{list_all}
use Rattle.std.specs.Str.{IsAscii}
use Rattle.std.proofs.lemmas.List.Sums.{AllPass-from_list_all}
use Rattle.std.proofs.lemmas.Bool.Decides.{nat_tests}
use Rattle.std.proofs.lemmas.Str.Ascii.{IsAscii-from_all}
use Rattle.quant.specs.Name.{is_name_byte, is_text, is_name}

-- a byte of a name is below 128
name_byte_is_ascii : (b : ℕ) → is_name_byte b ≡ true → b < 128
name_byte_is_ascii b h = grind (arith, nat_tests)

name_bytes_are_ascii : (bytes : List ℕ) → list_all is_name_byte bytes ≡ true → IsAscii bytes
name_bytes_are_ascii bytes h = IsAscii-from_all bytes (λ k d lt. name_byte_is_ascii _ (AllPass-from_list_all is_name_byte bytes h k d lt))

pub text_is_ascii : (bytes : List ℕ) → is_text bytes ≡ true → IsAscii bytes
unfolding is_text
text_is_ascii bytes h = name_bytes_are_ascii bytes (grind arith)

pub name_is_ascii : (bytes : List ℕ) → is_name bytes ≡ true → IsAscii bytes
unfolding is_name
name_is_ascii bytes h = text_is_ascii bytes (grind arith)

-- a result that is an error only where a fact fails is `Ok` where it holds
pub is_ok_where : {T E : Type 0} (P : T → Type 0) (U : Type 0) (Q : E → Type 0) (r : Result T E) → MatchResult r P (λ e. (¬ U) × Q e) → U → IsOk r
is_ok_where P U Q (Ok x) m u = refl
is_ok_where P U Q (Err e) m u = absurd (m.0 u)
