-- How a message grows.
use Rattle.std.proofs.Common.{◌≡◌, ℕ, List, ◌++◌, codes, sym, ap, ◌∙◌}
use Rattle.std.proofs.lemmas.List.{append_assoc}
use Rattle.wcode.specs.declared.fault.BinFault.{BinFault}
use Rattle.wbody.specs.declared.fault.TypeFault.{TypeFault}
use Rattle.fault_line.specs.Refusal.{bin_text, type_text, refusal_text}
use Rattle.fault_line.specs.declared.refusal.Refusal.{Refusal}
use Rattle.fault_line.specs.declared.refusal.Refusal.TheVariants.{Undecoded, Untyped}

-- two pieces behind one another are one
joined : (old mid new piece text whole : List ℕ) → mid ≡ old ++ piece → new ≡ mid ++ text → whole ≡ piece ++ text → new ≡ old ++ whole
joined old mid new piece text whole a b e = b ∙ ap (λ m. m ++ text) a ∙ append_assoc old piece text ∙ ap (λ w. old ++ w) (sym e)

pub undecoded_added : (old mid new : List ℕ) (refusal : Refusal) (fault : BinFault) → refusal ≡ Undecoded fault
    → mid ≡ old ++ codes "refused decode " → new ≡ mid ++ bin_text fault → new ≡ old ++ refusal_text refusal
unfolding refusal_text
undecoded_added old mid new refusal fault is a b =
    joined old mid new (codes "refused decode ") (bin_text fault) (refusal_text refusal) a b (ap refusal_text is)

pub untyped_added : (old mid new : List ℕ) (refusal : Refusal) (fault : TypeFault) → refusal ≡ Untyped fault
    → mid ≡ old ++ codes "refused type " → new ≡ mid ++ type_text fault → new ≡ old ++ refusal_text refusal
unfolding refusal_text
untyped_added old mid new refusal fault is a b =
    joined old mid new (codes "refused type ") (type_text fault) (refusal_text refusal) a b (ap refusal_text is)

-- three pieces behind one another are one
pub three_added : (old first second new a b c : List ℕ) → first ≡ old ++ a → second ≡ first ++ b → new ≡ second ++ c → new ≡ old ++ (a ++ b ++ c)
three_added old first second new a b c p q r =
    r ∙ (ap (λ m. m ++ c) (q ∙ (ap (λ m. m ++ b) p ∙ append_assoc old a b)) ∙ append_assoc old (a ++ b) c)

pub four_added : (old first second third new a b c d : List ℕ) → first ≡ old ++ a → second ≡ first ++ b → third ≡ second ++ c → new ≡ third ++ d
    → new ≡ old ++ (a ++ b ++ c ++ d)
four_added old first second third new a b c d p q r s =
    s ∙ (ap (λ m. m ++ d) (three_added old first second third a b c p q r) ∙ append_assoc old (a ++ b ++ c) d)

pub two_added : (old first new a b : List ℕ) → first ≡ old ++ a → new ≡ first ++ b → new ≡ old ++ (a ++ b)
two_added old first new a b p q = q ∙ (ap (λ m. m ++ b) p ∙ append_assoc old a b)

pub five_added : (old first second third fourth new a b c d e : List ℕ) → first ≡ old ++ a → second ≡ first ++ b → third ≡ second ++ c → fourth ≡ third ++ d
    → new ≡ fourth ++ e → new ≡ old ++ (a ++ b ++ c ++ d ++ e)
five_added old first second third fourth new a b c d e p q r s t =
    t ∙ (ap (λ m. m ++ e) (four_added old first second third fourth a b c d p q r s) ∙ append_assoc old (a ++ b ++ c ++ d) e)
