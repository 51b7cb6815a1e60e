-- The operations that are a line of arithmetic, opened: elsewhere each stays as it is written.
use Rattle.std.proofs.Common.{◌≡◌, ℕ, ◌+◌, ◌-◌, ◌*◌, ◌/◌, ◌%◌, ◌^◌, not, ◌==◌, nat_lt, nat_le, Ok, Err, refl, ◌≢◌, arith}
use Rattle.std.proofs.lemmas.Bool.Decides.{nat_tests}
use Rattle.std.specs.Int.{from_bool}
use Rattle.wnum.specs.declared.trap.Trap.TheVariants.{DivideByZero}
use Rattle.wnum.specs.Integer.{iadd, isub, imul, idiv_u, irem_u, ieqz, ieq, ine, ilt_u, igt_u, ile_u, ige_u}
use Rattle.wnum.specs.Conversion.{wrap, extend_u}

pub iadd_is : (N a b : ℕ) → iadd N a b ≡ (a + b) % 2 ^ N
unfolding iadd
iadd_is N a b = refl

pub isub_is : (N a b : ℕ) → isub N a b ≡ (a + 2 ^ N - b) % 2 ^ N
unfolding isub
isub_is N a b = refl

pub imul_is : (N a b : ℕ) → imul N a b ≡ (a * b) % 2 ^ N
unfolding imul
imul_is N a b = refl

pub idiv_u_is : (N a b : ℕ) → b ≢ 0 → idiv_u N a b ≡ Ok (a / b)
unfolding idiv_u
idiv_u_is N a b h = grind (arith, nat_tests)

pub idiv_u_by_zero : (N a b : ℕ) → b ≡ 0 → idiv_u N a b ≡ Err DivideByZero
unfolding idiv_u
idiv_u_by_zero N a b e = rw e refl

pub irem_u_is : (N a b : ℕ) → b ≢ 0 → irem_u N a b ≡ Ok (a % b)
unfolding irem_u
irem_u_is N a b h = grind (arith, nat_tests)

pub irem_u_by_zero : (N a b : ℕ) → b ≡ 0 → irem_u N a b ≡ Err DivideByZero
unfolding irem_u
irem_u_by_zero N a b e = rw e refl

pub ieqz_is : (N a : ℕ) → ieqz N a ≡ from_bool (a == 0)
unfolding ieqz
ieqz_is N a = refl

pub ieq_is : (N a b : ℕ) → ieq N a b ≡ from_bool (a == b)
unfolding ieq
ieq_is N a b = refl

pub ine_is : (N a b : ℕ) → ine N a b ≡ from_bool (not (a == b))
unfolding ine
ine_is N a b = refl

pub ilt_u_is : (N a b : ℕ) → ilt_u N a b ≡ from_bool (nat_lt a b)
unfolding ilt_u
ilt_u_is N a b = refl

pub igt_u_is : (N a b : ℕ) → igt_u N a b ≡ from_bool (nat_lt b a)
unfolding igt_u
igt_u_is N a b = refl

pub ile_u_is : (N a b : ℕ) → ile_u N a b ≡ from_bool (nat_le a b)
unfolding ile_u
ile_u_is N a b = refl

pub ige_u_is : (N a b : ℕ) → ige_u N a b ≡ from_bool (nat_le b a)
unfolding ige_u
ige_u_is N a b = refl

pub wrap_is : (M N i : ℕ) → wrap M N i ≡ i % 2 ^ N
unfolding wrap
wrap_is M N i = refl

pub extend_u_is : (M N i : ℕ) → extend_u M N i ≡ i
unfolding extend_u
extend_u_is M N i = refl
