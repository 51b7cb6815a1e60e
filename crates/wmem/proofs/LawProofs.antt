-- The laws of loading and storing.
use Rattle.std.proofs.Common.{◌≡◌, ℕ, ◌+◌, ◌-◌, List, length, take, slice_range, ap, sym, ◌∙◌, arith}
use Rattle.wmem.specs.Bytes.{number_in, bytes_of}
use Rattle.wmem.specs.Access.{with_bytes}
use Rattle.wmem.specs.Laws.{StoresAreLoaded, WritesStayInPlace}
use Rattle.wmem.proofs.Buffers.{length-bytes_of, length-with_bytes, drop-with_bytes, slice_range-take, slice_range-with_bytes, take-with_bytes_before, number_in-bytes_of}

-- what is stored is what is loaded
pub stored_are_loaded : StoresAreLoaded
stored_are_loaded bytes address count number within =
    let same : length (bytes_of count number) ≡ count = length-bytes_of count number in
    ap (λ (n : ℕ). number_in (slice_range (with_bytes bytes address (bytes_of count number)) address (address + n))) (sym same)
    ∙ ap number_in (slice_range-with_bytes bytes address (bytes_of count number) (omega arith))
    ∙ number_in-bytes_of count number

-- what a write leaves
pub written_in_place : WritesStayInPlace
written_in_place = record {
  before = λ bytes new address from to within low high.
      sym (slice_range-take (with_bytes bytes address new) address from to low high)
      ∙ ap (λ (xs : List ℕ). slice_range xs from to) (take-with_bytes_before bytes address new address (omega arith) (omega arith))
      ∙ slice_range-take bytes address from to low high;
  behind = λ bytes new address from to within past. ap (take (to - from)) (drop-with_bytes bytes address new from past within);
  size = λ bytes new address within. length-with_bytes bytes address new within;
}
