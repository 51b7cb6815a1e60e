-- Chains after a change, from what each chain is.
use Rattle.std.proofs.Common.{◌≡◌, ℕ, ◌+◌, ◌<◌, length, get_or, replicate, sym, ap, subst, ◌∙◌, arith}
use Rattle.std.proofs.lemmas.List.{length-replicate}
use Rattle.name_table.specs.declared.chains.Chains.{Chains}
use Rattle.name_table.specs.inside.Woven.{nowhere, IsWoven}
use Rattle.name_table.proofs.MoveLemmas.{AreKept, all_free}

-- each chain of woven ones has its home's slots
pub kept_of : (c : Chains) → IsWoven c → AreKept c.heads c.links.nexts c.links.homes
kept_of c w k lt = (w.ends k lt, w.all k lt)

-- woven from chains as long, each of which has its home's slots
pub woven_after : (c d : Chains) → IsWoven c → length d.heads ≡ length c.heads → length d.links.nexts ≡ length c.links.nexts → length d.links.homes ≡ length c.links.homes → AreKept d.heads d.links.nexts d.links.homes → IsWoven d
woven_after c d w heads nexts homes kept = record {
  as_many = homes ∙ w.as_many ∙ sym nexts;
  few_slots = subst (λ (n : ℕ). n < nowhere) (sym nexts) w.few_slots;
  few_heads = subst (λ (n : ℕ). n < nowhere) (sym heads) w.few_heads;
  ends = λ k lt. (kept k lt).0;
  all = λ k lt. (kept k lt).1;
}

-- woven from all slots in the last chain
pub woven_new : (d : Chains) (n b : ℕ) → n < nowhere → b + 1 < nowhere → length d.links.nexts ≡ n → length d.heads ≡ b + 1 → d.links.homes ≡ replicate n b → ((k : ℕ) → k < n → get_or d.links.nexts k 0 ≡ k + 1) → get_or d.heads b 0 ≡ 0 → ((k : ℕ) → k < b → get_or d.heads k 0 ≡ n) → IsWoven d
woven_new d n b few_n few_b links heads homes each last others =
    let kept : AreKept d.heads d.links.nexts d.links.homes =
    subst (AreKept d.heads d.links.nexts) (sym homes)
    (all_free d.heads d.links.nexts n b links (omega arith) heads each last others) in
    record {
      as_many = ap length homes ∙ length-replicate n b ∙ sym links;
      few_slots = subst (λ (m : ℕ). m < nowhere) (sym links) few_n;
      few_heads = subst (λ (m : ℕ). m < nowhere) (sym heads) few_b;
      ends = λ k lt. (kept k lt).0;
      all = λ k lt. (kept k lt).1;
    }
