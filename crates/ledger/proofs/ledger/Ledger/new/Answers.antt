use Rattle.std.proofs.Common.{◌≡◌, ℕ, false, zero, suc, [], None, length, replicate, arith, refl, sym, ap, ◌∙◌}
use Rattle.std.proofs.lemmas.List.{length-replicate}
use Rattle.std.specs.FinMap as fin
use Rattle.name_table.specs.Slots.{Slots, map_of, filled}
use Rattle.ledger.proofs.ledger.Ledger.new.Goals as goal

-- free slots hold nothing
no_entry : (X : Type 0) (n : ℕ) → filled {X = X} (replicate n None) ≡ []
no_entry X zero = refl
no_entry X (suc n) = no_entry X n

free : (X : Type 0) (s : Slots X) (n : ℕ) → s ≡ replicate n None → map_of s ≡ fin.empty
free X s n e = ap map_of e ∙ ap fin.from_entries (no_entry X n)

as_long : (X : Type 0) (s : Slots X) (n : ℕ) → s ≡ replicate n None → length s ≡ n
as_long X s n e = ap length e ∙ length-replicate n None

-- there are as many slots as were asked for
pub invariant_of-result : goal.invariant_of-result
invariant_of-result c = (
  as_long _ c.in-Ok.nodes _ c.in-Ok.ensures ∙ sym (ap (λ book. book.limits.nodes) c.in-Ok-new-2.ensures),
  omega (arith, as_long _ c.in-Ok-new.pods _ c.in-Ok-new.ensures, c.requires),
)

pub returns : goal.returns
returns c = λ i. record {
  cluster = c.in-Ok-new-2.ensures i;
  room = as_long _ c.in-Ok-new.pods _ c.in-Ok-new.ensures i;
  pods = free _ c.in-Ok-new.pods _ c.in-Ok-new.ensures i;
  nodes = free _ c.in-Ok.nodes _ c.in-Ok.ensures i;
  of_nodes = record { lists = 0; listing = false; fresh = false; listed = false; hears = false };
  of_pods = record { lists = 0; listing = false; fresh = false; listed = false; hears = false };
  rested = false;
  left_out = record { any = false; list = 0 };
}
