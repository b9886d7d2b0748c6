-- The hash field is a commutative ring with one. Any map that keeps zero, keeps xor and commutes with times a goes through the
-- sum of a product; multiplying by x is such a map, so x·(y·z) = y·(x·z). With one as z that gives the other laws.
use mathlib.Core.Path.{◌≡◌, refl, sym, ap, ap₂, ◌∙◌}
use Prim.Native.Nat.{ℕ, zero, suc, ◌*◌, ◌/◌, ◌%◌, ◌^◌, ◌<◌}
use native.Mathlib.Nat.{zero-mul, one-mul, mul-zero, mul-one, div-one, mod-lt, mod-eq_of_lt, mul-div_cancel, mul-mod_left}
use native.Mathlib.Nat.{pow-suc, div-le_self, lt_of_le_of_lt, zero-lt-suc}
use native.Mathlib.Numerals.{one-add}
use native.Mathlib.Omega.{arith}
use lib.Bits.{bit_xor, differ, xor_shr, xor_lt, xor_self, xor_shifted, xor_zero_r}
use lib.Dec.{lit<}
use lib.Pow.{pow_pos, mod-pow-add}
use Rattle.octets.proofs.XorLaws.{odd_lt, xor_odd, xor_swap}
use Rattle.hash_field.specs.Field.{one, times_a, sum_of, product}
use Rattle.hash_field.proofs.SumLaws.{bit_times_le}

-- ---- sums

-- the xor of two bits, times y
bits_times : (b c y : ℕ) → b < 2 → c < 2 → differ b c * y ≡ bit_xor (b * y) (c * y)
bits_times zero c y hb hc = rw (zero-mul y)
bits_times (suc zero) zero y hb hc = rw (zero-mul y, xor_zero_r)
bits_times (suc zero) (suc zero) y hb hc = rw (zero-mul y, xor_self)
bits_times (suc zero) (suc (suc c)) y hb hc = absurd (omega arith)
bits_times (suc (suc b)) c y hb hc = absurd (omega arith)

-- a bit times a map's value is the map's value of the bit times y
bit_through : (f : ℕ → ℕ) → f 0 ≡ 0 → (b y : ℕ) → b < 2 → f (b * y) ≡ b * f y
bit_through f keeps zero y h = ap f (zero-mul y) ∙ keeps ∙ sym (zero-mul (f y))
bit_through f keeps (suc zero) y h = ap f (one-mul y) ∙ sym (one-mul (f y))
bit_through f keeps (suc (suc b)) y h = absurd (omega arith)

-- Times a keeps sums.
pub times_a_xor : (y z : ℕ) → times_a (bit_xor y z) ≡ bit_xor (times_a y) (times_a z)
unfolding times_a
times_a_xor y z =
    let e = 0xe1 * 2 ^ 120 in
    ap₂ bit_xor (xor_shr y z 1)
    (ap (λ (b : ℕ). b * e) (xor_odd y z) ∙ bits_times (y % 2) (z % 2) e (odd_lt y) (odd_lt z))
    ∙ xor_swap (y / 2) (z / 2) (y % 2 * e) (z % 2 * e)

sum_xor_left : (n x w y : ℕ) → sum_of n (bit_xor x w) y ≡ bit_xor (sum_of n x y) (sum_of n w y)
unfolding sum_of
sum_xor_left zero x w y = refl
sum_xor_left (suc n) x w y =
    let b = x / 2 ^ n in
    let c = w / 2 ^ n in
    let bits = ap (λ (k : ℕ). k % 2) (xor_shr x w n) ∙ xor_odd b c in
    ap₂ bit_xor
    (ap (λ (k : ℕ). k * y) bits ∙ bits_times (b % 2) (c % 2) y (odd_lt b) (odd_lt c))
    (sum_xor_left n x w (times_a y))
    ∙ xor_swap (b % 2 * y) (c % 2 * y) (sum_of n x (times_a y)) (sum_of n w (times_a y))

-- A product with a sum on the left is the sum of the products.
pub product_xor_left : (x w y : ℕ) → product (bit_xor x w) y ≡ bit_xor (product x y) (product w y)
unfolding product
product_xor_left x w y = sum_xor_left 128 x w y

-- ---- maps that go through the sum of a product
module _ (f : ℕ → ℕ) (keeps-zero : f 0 ≡ 0) (keeps-xor : (y z : ℕ) → f (bit_xor y z) ≡ bit_xor (f y) (f z))
    (commutes : (y : ℕ) → f (times_a y) ≡ times_a (f y)) where
  sum_through : (n x y : ℕ) → f (sum_of n x y) ≡ sum_of n x (f y)
  unfolding sum_of
  sum_through zero x y = keeps-zero
  sum_through (suc n) x y =
      let b = x / 2 ^ n % 2 in
      keeps-xor (b * y) (sum_of n x (times_a y))
      ∙ ap₂ bit_xor (bit_through f keeps-zero b y (odd_lt (x / 2 ^ n)))
      (sum_through n x (times_a y) ∙ ap (sum_of n x) (commutes y))

  product_through : (x y : ℕ) → f (product x y) ≡ product x (f y)
  unfolding product
  product_through x y = sum_through 128 x y

times_a_zero : times_a 0 ≡ 0
unfolding times_a
times_a_zero = refl

-- a·(x·y) = x·(a·y)
pub product_times_a : (x y : ℕ) → times_a (product x y) ≡ product x (times_a y)
product_times_a = product_through times_a times_a_zero times_a_xor (λ y. refl)

sum-zero : (n x : ℕ) → sum_of n x 0 ≡ 0
unfolding sum_of
sum-zero zero x = refl
sum-zero (suc n) x = ap₂ bit_xor (mul-zero (x / 2 ^ n % 2)) (ap (sum_of n x) times_a_zero ∙ sum-zero n x)

-- Anything times zero is zero.
pub product-zero : (x : ℕ) → product x 0 ≡ 0
unfolding product
product-zero x = sum-zero 128 x

sum_xor_right : (n x y z : ℕ) → sum_of n x (bit_xor y z) ≡ bit_xor (sum_of n x y) (sum_of n x z)
unfolding sum_of
sum_xor_right zero x y z = refl
sum_xor_right (suc n) x y z =
    let b = x / 2 ^ n % 2 in
    ap₂ bit_xor (bit-xor b (odd_lt (x / 2 ^ n)))
    (ap (sum_of n x) (times_a_xor y z) ∙ sum_xor_right n x (times_a y) (times_a z))
    ∙ xor_swap (b * y) (b * z) (sum_of n x (times_a y)) (sum_of n x (times_a z))
  where
    bit-xor : (b : ℕ) → b < 2 → b * bit_xor y z ≡ bit_xor (b * y) (b * z)
    bit-xor zero h = simp zero-mul
    bit-xor (suc zero) h = simp one-mul
    bit-xor (suc (suc b)) h = absurd (omega arith)

-- A product with a sum on the right is the sum of the products.
pub product_xor_right : (x y z : ℕ) → product x (bit_xor y z) ≡ bit_xor (product x y) (product x z)
unfolding product
product_xor_right x y z = sum_xor_right 128 x y z

-- In a product of three the first two change places.
pub product_left_comm : (x y z : ℕ) → product x (product y z) ≡ product y (product x z)
product_left_comm x = product_through (product x) (product-zero x) (product_xor_right x) (λ y. sym (product_times_a x y))

-- ---- blocks

times_a_lt : (y : ℕ) → y < 2 ^ 128 → times_a y < 2 ^ 128
unfolding times_a
times_a_lt y below =
    xor_lt 128 (y / 2) (y % 2 * (0xe1 * 2 ^ 120)) (lt_of_le_of_lt (div-le_self y 2) below)
    (lt_of_le_of_lt (bit_times_le (y % 2) (0xe1 * 2 ^ 120) (odd_lt y)) (lit< tt))

sum_lt : (n x y : ℕ) → y < 2 ^ 128 → sum_of n x y < 2 ^ 128
unfolding sum_of
sum_lt zero x y below = pow_pos 128
sum_lt (suc n) x y below =
    let b = x / 2 ^ n % 2 in
    xor_lt 128 (b * y) (sum_of n x (times_a y)) (lt_of_le_of_lt (bit_times_le b y (odd_lt (x / 2 ^ n))) below)
    (sum_lt n x (times_a y) (times_a_lt y below))

-- A product with a block is a block.
pub product_lt : (x y : ℕ) → y < 2 ^ 128 → product x y < 2 ^ 128
unfolding product
product_lt x y below = sum_lt 128 x y below

-- ---- one

times_a_pow : (n : ℕ) → times_a (2 ^ suc n) ≡ 2 ^ n
unfolding times_a
times_a_pow n =
    ap₂ (λ (h b : ℕ). bit_xor h (b * (0xe1 * 2 ^ 120)))
    (ap (λ (k : ℕ). k / 2) (pow-suc 2 n) ∙ mul-div_cancel (2 ^ n) (zero-lt-suc 1))
    (ap (λ (k : ℕ). k % 2) (pow-suc 2 n) ∙ mul-mod_left (2 ^ n) 2)
    ∙ xor_zero_r (2 ^ n)

-- the powers of a from one on are the bits from the highest on, so the sum over x puts the bits of x together
sum_one : (n x : ℕ) → sum_of (suc n) x (2 ^ n) ≡ x % 2 ^ suc n
unfolding sum_of
sum_one zero x = xor_zero_r (x / 1 % 2 * 1) ∙ mul-one (x / 1 % 2) ∙ ap (λ (k : ℕ). k % 2) (div-one x)
sum_one (suc n) x =
    let b = x / 2 ^ suc n % 2 in
    ap (λ (r : ℕ). bit_xor (b * 2 ^ suc n) r) (ap (sum_of (suc n) x) (times_a_pow n) ∙ sum_one n x)
    ∙ xor_shifted b (suc n) (x % 2 ^ suc n) (mod-lt x (pow_pos (suc n)))
    ∙ sym (ap (λ (k : ℕ). x % 2 ^ k) (sym (one-add (suc n))) ∙ mod-pow-add x 1 (suc n))

-- A block times one is the block.
pub times-one : (x : ℕ) → x < 2 ^ 128 → product x one ≡ x
unfolding product
times-one x below = sum_one 127 x ∙ mod-eq_of_lt below

-- The product of two blocks does not depend on their order.
pub product_comm : (x y : ℕ) → x < 2 ^ 128 → y < 2 ^ 128 → product x y ≡ product y x
product_comm x y hx hy =
    ap (product x) (sym (times-one y hy)) ∙ product_left_comm x y one ∙ ap (product y) (times-one x hx)

-- One times a block is the block.
pub one-times : (y : ℕ) → y < 2 ^ 128 → product one y ≡ y
one-times y below = product_comm one y (lit< tt) below ∙ times-one y below

-- The product of three blocks does not depend on which two are multiplied first.
pub product_assoc : (x y z : ℕ) → x < 2 ^ 128 → y < 2 ^ 128 → z < 2 ^ 128 → product (product x y) z ≡ product x (product y z)
product_assoc x y z hx hy hz =
    product_comm (product x y) z (product_lt x y hy) hz ∙ product_left_comm z x y ∙ ap (product x) (product_comm z y hz hy)
