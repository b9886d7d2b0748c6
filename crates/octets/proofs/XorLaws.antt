-- The laws of xor that `lib.Bits` does not have. Associativity is an induction on the digits of the first number: each step
-- compares the lowest digits, where it is a matter of cases. The others follow from it.
use mathlib.Core.Path.{◌≡◌, refl, sym, ap, ap₂, ◌∙◌}
use Prim.Native.Nat.{ℕ, zero, suc, ◌+◌, ◌*◌, ◌/◌, ◌%◌, ◌<◌}
use native.Mathlib.Nat.{mod-lt, zero-lt-suc}
use native.Mathlib.Omega.{arith}
use lib.Arith.{bin_ind, digits_mod}
use lib.Bits.{bit_xor, differ, xor_step, xor_shr, xor_self, xor_comm, xor_zero_r}

digit_lt : (x y : ℕ) → x < 2 → y < 2 → differ x y < 2
digit_lt zero y hx hy = hy
digit_lt (suc x) zero hx hy = hx
digit_lt (suc x) (suc y) hx hy = digit_lt x y (omega arith) (omega arith)

digit_assoc : (x y z : ℕ) → x < 2 → y < 2 → z < 2 → differ (differ x y) z ≡ differ x (differ y z)
digit_assoc zero y z hx hy hz = refl
digit_assoc (suc x) zero z hx hy hz = refl
digit_assoc (suc (suc x)) (suc y) z hx hy hz = absurd (omega arith)
digit_assoc (suc zero) (suc (suc y)) z hx hy hz = absurd (omega arith)
digit_assoc (suc zero) (suc zero) zero hx hy hz = refl
digit_assoc (suc zero) (suc zero) (suc zero) hx hy hz = refl
digit_assoc (suc zero) (suc zero) (suc (suc z)) hx hy hz = absurd (omega arith)

-- The lowest bit of a number is 0 or 1.
pub odd_lt : (a : ℕ) → a % 2 < 2
odd_lt a = mod-lt a (zero-lt-suc 1)

-- The lowest bit of a xor is 1 where the two lowest bits differ.
pub xor_odd : (a b : ℕ) → bit_xor a b % 2 ≡ differ (a % 2) (b % 2)
xor_odd a b =
    ap (λ (x : ℕ). x % 2) (xor_step a b)
    ∙ digits_mod (bit_xor (a / 2) (b / 2)) (digit_lt (a % 2) (b % 2) (odd_lt a) (odd_lt b))

-- The order in which three numbers are xored makes no difference.
pub xor_assoc : (a b c : ℕ) → bit_xor (bit_xor a b) c ≡ bit_xor a (bit_xor b c)
xor_assoc a =
    bin_ind (λ (n : ℕ). (b c : ℕ) → bit_xor (bit_xor n b) c ≡ bit_xor n (bit_xor b c)) (λ b c. refl)
    (λ n ih b c.
    xor_step (bit_xor n b) c
    ∙ ap₂ (λ (x y : ℕ). bit_xor x (c / 2) * 2 + differ y (c % 2)) (xor_shr n b 1) (xor_odd n b)
    ∙ ap₂ (λ (x y : ℕ). x * 2 + y) (ih (b / 2) (c / 2)) (digit_assoc (n % 2) (b % 2) (c % 2) (odd_lt n) (odd_lt b) (odd_lt c))
    ∙ sym (ap₂ (λ (x y : ℕ). bit_xor (n / 2) x * 2 + differ (n % 2) y) (xor_shr b c 1) (xor_odd b c))
    ∙ sym (xor_step n (bit_xor b c)))
    a

-- What is xored twice is gone.
pub xor_cancel : (a b : ℕ) → bit_xor (bit_xor a b) b ≡ a
xor_cancel a b = xor_assoc a b b ∙ ap (bit_xor a) (xor_self b) ∙ xor_zero_r a

-- The first two of three numbers change places.
pub xor_left_comm : (a b c : ℕ) → bit_xor a (bit_xor b c) ≡ bit_xor b (bit_xor a c)
xor_left_comm a b c = sym (xor_assoc a b c) ∙ ap (λ (x : ℕ). bit_xor x c) (xor_comm a b) ∙ xor_assoc b a c

-- The middle two of four numbers change places.
pub xor_swap : (a b c d : ℕ) → bit_xor (bit_xor a b) (bit_xor c d) ≡ bit_xor (bit_xor a c) (bit_xor b d)
xor_swap a b c d = xor_assoc a b (bit_xor c d) ∙ ap (bit_xor a) (xor_left_comm b c d) ∙ sym (xor_assoc a c (bit_xor b d))
