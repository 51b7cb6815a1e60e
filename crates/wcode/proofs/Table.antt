-- The table of opcodes is that of the rows.
use Rattle.std.proofs.Common.{◌≡◌, ℕ, zero, suc, ◌+◌, ◌<◌, List, [], ◌∷◌, map, get_or, ap, ◌∙◌, sym, arith, add-zero}
use Rattle.wcode.specs.declared.opcode.Form.{Form}
use Rattle.wcode.specs.Opcodes.{form, rows, form_in}

-- so many numbers from one on
abbrev pub from : ℕ → ℕ → List ℕ
from k zero = []
from k (suc n) = k ∷ from (suc k) n

-- the value at each of them
pub map_from : {A : Type 0} (f : ℕ → A) (k n i : ℕ) (d : A) → i < n → get_or (map f (from k n)) i d ≡ f (k + i)
map_from f k zero i d h = absurd (omega arith)
map_from f k (suc n) zero d h = ap f (sym (add-zero k))
map_from f k (suc n) (suc i) d h = map_from f (suc k) n i d (omega arith) ∙ ap f (omega arith)

pub form_at : (i : ℕ) (d : Form) → i < 256 → get_or (map (form_in rows) (from 0 256)) i d ≡ form i
unfolding form
form_at i d h = let e : 0 + i ≡ i = omega arith in map_from (form_in rows) 0 256 i d h ∙ ap (form_in rows) e
