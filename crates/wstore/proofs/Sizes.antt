-- Sizes of memories and tables, as a module declares them.
use Rattle.std.proofs.Common.{◌≡◌, ℕ, zero, suc, ◌+◌, ◌*◌, ◌/◌, ◌%◌, ◌<◌, ◌≤◌, List, [], ◌∷◌, Option, Some, None, length, map, get_or, replicate, refl, ap, ◌∙◌, arith}
use Rattle.std.specs.Prelude.{IfSome}
use Rattle.std.specs.List.{AllByRecursion}
use Rattle.std.proofs.lemmas.List.{length-replicate, length-map}
use Rattle.wmem.specs.Memory.{page_size, zeros}
use Rattle.wmodule.specs.declared.module.Limits.{Limits}
use Rattle.wmodule.specs.Syntax.{ModuleSyntax}
use Rattle.wbody.specs.Context.{function_types}
use Rattle.wtype.specs.Accepted.{LimitsRight, memory_range}
use Rattle.wstore.specs.Store.{most_of, cap_of, first_memory, first_table}
use Rattle.wstore.specs.inside.Store.{least_of}
use Rattle.wstore.specs.Fits.{MemoryFits, TableFits}
use Rattle.wstore.specs.Segments.{overwritten}
use Rattle.wstore.proofs.Overwriting.{length-overwritten, all_overwritten}

-- ---- memories

most_limited : (most : Option ℕ) → most_of most ≤ 32
most_limited None = omega arith
most_limited (Some m) = omega arith

pub cap_limited : (ls : List Limits) → cap_of ls ≤ 32
cap_limited [] = omega arith
cap_limited (l ∷ ls) = most_limited l.most

least_within_most : (least : ℕ) (most : Option ℕ) → IfSome most (λ m. (least ≤ m) × (m ≤ memory_range)) → least ≤ 32 → least ≤ most_of most
least_within_most least None right small = small
least_within_most least (Some m) right small = omega (arith, right.0)

-- a memory begins with no more than it may grow to
pub least_within_cap : (ls : List Limits) → AllByRecursion (LimitsRight memory_range) ls → AllByRecursion (λ l. l.least ≤ 32) ls → least_of ls ≤ cap_of ls
least_within_cap [] right small = omega arith
least_within_cap (l ∷ ls) right small = least_within_most l.least l.most right.0.most small.0

-- it begins with as many pages of zeros
pub first_zeros : (ls : List Limits) → zeros (page_size * least_of ls) ≡ first_memory ls
unfolding zeros
first_zeros [] = refl
first_zeros (l ∷ ls) = let turned : page_size * l.least ≡ l.least * page_size = omega arith in ap (λ n. replicate n 0) turned

is_empty : {A : Type 0} (xs : List A) → length xs ≤ 0 → xs ≡ []
is_empty [] none = refl
is_empty (x ∷ xs) none = absurd (omega arith)

within_most : (most : Option ℕ) (pages : ℕ) → pages ≤ most_of most → IfSome most (λ m. pages ≤ m)
within_most None pages within = tt
within_most (Some m) pages within = omega arith

-- a memory of whole pages from the least size to the cap fits
pub memory_fits : (ls : List Limits) (bytes : List ℕ) (cap : ℕ) → cap ≡ cap_of ls → length bytes % page_size ≡ 0 → length bytes ≤ page_size * cap
    → page_size * least_of ls ≤ length bytes → MemoryFits ls bytes
memory_fits [] bytes cap is whole within least = is_empty bytes (omega arith)
memory_fits (l ∷ ls) bytes cap is whole within least =
    let limited : most_of l.most ≤ 32 = most_limited l.most in
    let pages : ℕ = length bytes / 65536 in
    let inside : pages ≤ most_of l.most = omega (arith, is, within) in
    (pages, omega (arith, whole), omega arith, (omega (arith, least, whole), within_most l.most pages inside))

-- bytes, one by one
pub all_bytes : (bytes : List ℕ) → ((k : ℕ) → get_or bytes k 0 < 256) → AllByRecursion (λ byte. byte < 256) bytes
all_bytes [] each = tt
all_bytes (b ∷ bs) each = (each 0, all_bytes bs (λ k. each (suc k)))

-- ---- tables

all_none : (P : Option ℕ → Type 0) (n : ℕ) → P None → AllByRecursion P (replicate n None)
all_none P zero p = tt
all_none P (suc n) p = (p, all_none P n p)

-- a table without functions fits
pub first_table_fits : (m : ModuleSyntax) (ls : List Limits) → TableFits m ls (first_table ls)
first_table_fits m [] = refl
first_table_fits m (l ∷ ls) = (length-replicate l.least None, all_none (λ e. IfSome e (λ f. f < length (function_types m))) l.least tt)

all_put : (m : ModuleSyntax) (functions : List ℕ) → AllByRecursion (λ f. f < length (function_types m)) functions
    → AllByRecursion (λ (e : Option ℕ). IfSome e (λ f. f < length (function_types m))) (map (λ (f : ℕ). Some f) functions)
all_put m [] all = tt
all_put m (f ∷ fs) all = (all.0, all_put m fs all.1)

of_table : (m : ModuleSyntax) (ls : List Limits) (elements : List (Option ℕ)) (at : ℕ) (put : List (Option ℕ)) → at + length put ≤ length elements
    → TableFits m ls elements → AllByRecursion (λ (e : Option ℕ). IfSome e (λ f. f < length (function_types m))) put → TableFits m ls (overwritten elements at put)
of_table m [] elements at put inside fits all =
    let size : length (overwritten elements at put) ≡ length elements = length-overwritten elements at put inside in
    let none : length elements ≡ 0 = ap length fits in
    is_empty (overwritten elements at put) (omega arith)
of_table m (l ∷ ls) elements at put inside fits all =
    (length-overwritten elements at put inside ∙ fits.0, all_overwritten (λ (e : Option ℕ). IfSome e (λ f. f < length (function_types m))) elements at put fits.1 all)

-- it still fits with the module's functions in it
pub table_fits_put : (m : ModuleSyntax) (ls : List Limits) (elements : List (Option ℕ)) (at : ℕ) (functions : List ℕ) → at + length functions ≤ length elements
    → TableFits m ls elements → AllByRecursion (λ f. f < length (function_types m)) functions → TableFits m ls (overwritten elements at (map (λ (f : ℕ). Some f) functions))
table_fits_put m ls elements at functions within fits all =
    let put : List (Option ℕ) = map (λ (f : ℕ). Some f) functions in
    let inside : at + length put ≤ length elements = omega (arith, length-map functions (λ (f : ℕ). Some f)) in
    of_table m ls elements at put inside fits (all_put m functions all)
