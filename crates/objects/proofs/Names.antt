-- Which texts are names.
use Rattle.std.proofs.Common.{◌≡◌, ℕ, ◌<◌, true, false, nat_le, cond, ◌&&◌, List, length, Option, Some, None, refl, sym, ap, ◌∙◌, arith}
use Rattle.std.proofs.lemmas.Bool.Decides.{nat_tests}
use Rattle.quant.specs.Name.{is_name, is_text}

-- a text of more than 63 bytes is none
pub too_long : (text : List ℕ) → 63 < length text → is_name text ≡ false
unfolding is_name is_text
too_long text h =
    let e : nat_le (length text) 63 ≡ false = grind (arith, nat_tests) in
    rw e (elim (nat_le 1 (length text)) as (λ b. (b && false) ≡ false) [ true ↦ refl | false ↦ refl ])

-- no name is told of one
pub no_name : (text : List ℕ) (name : Option (List ℕ)) → 63 < length text → name ≡ None → name ≡ cond (is_name text) (Some text) None
no_name text name long none = none ∙ sym (ap (λ b. cond b (Some text) None) (too_long text long))
