-- The sum that makes a product: how it begins with one more bit, how it falls into the two halves of x, and that it sees only
-- the bits that it goes through.
use mathlib.Core.Path.{◌≡◌, refl, sym, ap, ap₂, ◌∙◌}
use Prim.Native.Nat.{ℕ, zero, suc, ◌+◌, ◌*◌, ◌/◌, ◌%◌, ◌^◌, ◌≤◌, ◌<◌}
use native.Mathlib.Nat.{zero-add, suc-add, add-suc, add_comm, one-mul, mul-le-mul_right, le_trans, le_of_eq, le_of_suc-le-suc}
use native.Mathlib.Numerals.{add-one}
use lib.Bits.{bit_xor, xor_zero_r}
use lib.Pow.{shr-shr, field, mod-mod-pow, high, low}
use Rattle.octets.proofs.XorLaws.{xor_assoc}
use Rattle.hash_field.specs.Element.{times_power}
use Rattle.hash_field.specs.Field.{times_a, sum_of, product}

-- A bit times a number is no larger than the number.
pub bit_times_le : (b n : ℕ) → b < 2 → b * n ≤ n
bit_times_le b n h = le_trans (mul-le-mul_right n (le_of_suc-le-suc h)) (le_of_eq (one-mul n))

-- With no bit left a sum stays as it is.
pub sum_none : (x sum y : ℕ) → sum ≡ bit_xor sum (sum_of 0 x y)
unfolding sum_of
sum_none x sum y = sym (xor_zero_r sum)

-- A sum so far takes in the highest of the bits that are left, and goes on with y·a.
pub sum_step : (n x sum y : ℕ)
    → bit_xor (bit_xor sum (x / 2 ^ n % 2 * y)) (sum_of n x (times_a y)) ≡ bit_xor sum (sum_of (suc n) x y)
unfolding sum_of
sum_step n x sum y = xor_assoc sum (x / 2 ^ n % 2 * y) (sum_of n x (times_a y))

pub power_none : (y : ℕ) → y ≡ times_power 0 y
unfolding times_power
power_none y = refl

pub power_step : (n y : ℕ) → times_power n (times_a y) ≡ times_power (suc n) y
unfolding times_power
power_step n y = refl

-- The sum over m + n bits is that over the upper n, and that over the lower m with y·a^n.
pub sum_split : (n m x y : ℕ) → sum_of (n + m) x y ≡ bit_xor (sum_of n (x / 2 ^ m) y) (sum_of m x (times_power n y))
unfolding sum_of times_power
sum_split zero m x y = ap (λ (k : ℕ). sum_of k x y) (zero-add m)
sum_split (suc n) m x y =
    ap (λ (k : ℕ). sum_of k x y) (suc-add n m)
    ∙ ap₂ (λ (b r : ℕ). bit_xor (b % 2 * y) r)
    (ap (λ (k : ℕ). x / 2 ^ k) (add_comm n m) ∙ sym (shr-shr x m n))
    (sum_split n m x (times_a y))
    ∙ sym (xor_assoc (x / 2 ^ m / 2 ^ n % 2 * y) (sum_of n (x / 2 ^ m) (times_a y)) (sum_of m x (times_power n (times_a y))))

bit_low : (j n x : ℕ) → x % 2 ^ (suc j + n) / 2 ^ n % 2 ≡ x / 2 ^ n % 2
bit_low j n x =
    ap (λ (b : ℕ). b % 2) (field x (suc j) n)
    ∙ ap (λ (k : ℕ). x / 2 ^ n % 2 ^ k % 2) (sym (add-one j))
    ∙ mod-mod-pow (x / 2 ^ n) j 1

-- The sum over n bits of x sees none above them.
pub sum_low : (j n x y : ℕ) → sum_of n (x % 2 ^ (j + n)) y ≡ sum_of n x y
unfolding sum_of
sum_low j zero x y = refl
sum_low j (suc n) x y =
    ap (λ (k : ℕ). sum_of (suc n) (x % 2 ^ k) y) (add-suc j n ∙ sym (suc-add j n))
    ∙ ap₂ (λ (b r : ℕ). bit_xor (b * y) r) (bit_low j n x) (sum_low (suc j) n x (times_a y))

-- The product by a block's two halves.
pub product_halves : (h l y : ℕ) → l < 2 ^ 64
    → product (h * 2 ^ 64 + l) y ≡ bit_xor (sum_of 64 h y) (sum_of 64 l (times_power 64 y))
unfolding product
product_halves h l y below =
    let x = h * 2 ^ 64 + l in
    sum_split 64 64 x y
    ∙ ap₂ (λ (a b : ℕ). bit_xor (sum_of 64 a y) b) (high h 64 below)
    (sym (sum_low 0 64 x (times_power 64 y)) ∙ ap (λ (b : ℕ). sum_of 64 b (times_power 64 y)) (low h 64 below))
