use Rattle.std.proofs.Common.{◌≡◌, ℕ, Bool, refl, ◌+◌, ◌-◌, ◌/◌, ◌≤◌, List, length, set, true, ap, ◌∙◌, arith, length-set}
use Rattle.wmem.specs.Access.{byte_count}
use Rattle.wmem.specs.Bytes.{bytes_of}
use Rattle.wmem.specs.inside.Tracked.{stretch}
use Rattle.wmem.proofs.Buffers.{length-bytes_of}
use Rattle.wmem.proofs.Changes.{written_items}
use Rattle.wmem.proofs.TrackedLemmas.{write_tracked, byte_count_bounds, two_pages, unset_before}
use Rattle.wmem.proofs.tracked.Tracked.write.Goals as goal

pub invariant_of-self : goal.invariant_of-self
invariant_of-self c =
    let t = c.self.inside in
    let count : ℕ = byte_count c.args.width in
    let bounds = byte_count_bounds c.args.width in
    let new : List ℕ = bytes_of count c.args.value in
    let new_length : length new ≡ count = length-bytes_of count c.args.value in
    let within : c.args.at + count ≤ length t.bytes.items = rw (← c.self.view_is) at c.requires in
    let is = written_items t.bytes _ _ c.args.at new c.deref_mut.ensures.value (omega arith) c.write.ensures in
    let first = c.note.ensures.flags in
    let flags : List Bool = set t.noted.flags (c.args.at / stretch) true in
    let last_page : ℕ = (c.args.at + count - 1) / stretch in
    let same : c.last_page-last.result ≡ last_page = c.last_page-last.ensures in
    let last : c.note-2.new.self.flags ≡ set flags last_page true =
    c.note-2.ensures.flags ∙ ap (λ (n : ℕ). set c.note.new.self.flags n true) same ∙ ap (λ (xs : List Bool). set xs last_page true) first in
    let inner : length flags ≡ length t.noted.flags = length-set t.noted.flags (c.args.at / stretch) true in (
      write_tracked (record { bytes = t.bytes.items; image = t.image.items; noted = t.noted }) _ c.note-2.new.self c.args.at new c.self.invariant.0 (omega arith) is
          (ap length last ∙ length-set flags last_page true ∙ inner)
          (λ page unset.
          unset_before t.noted.flags (c.args.at / stretch) page
          (unset_before flags last_page page (rw last at unset) (omega (arith, inner, bounds.0, bounds.1, c.self.invariant.0.whole)))
          (omega (arith, c.self.invariant.0.whole, bounds.0)))
          (λ k low high.
          rw last (two_pages t.noted.flags c.args.at count last_page k bounds.0 bounds.1 (omega (arith, c.self.invariant.0.whole)) refl low (omega (arith, high, new_length)))),
      omega (arith, c.self.invariant.1, c.note.ensures.room, c.note-2.ensures.room),
      omega (arith, c.self.invariant.2, c.note.ensures.room, c.note-2.ensures.room),
    )
