-- A line taken in byte by byte: what is kept of it is what the line so far has, and the bytes that its digits make stand in
-- front of the buffer. Each law is by cases on the tests of one byte, over what one more digit does to a line.
use mathlib.Core.Path.{◌≡◌, refl, sym, ap, ◌∙◌}
use mathlib.Core.Bool.{Bool, true, false, ◌&&◌, false≢true, and-true, and-false, and_assoc, cond}
use mathlib.Core.List.{List, [], ◌∷◌, ◌++◌}
use Prim.Native.Nat.{ℕ, suc, ◌+◌, ◌*◌, ◌/◌, ◌%◌, ◌≤◌, ◌<◌}
use native.Mathlib.Nat.{mod-eq_of_lt}
use native.Mathlib.Numerals.{add-one}
use native.Mathlib.Omega.{arith}
use borrow.Author.Tests.{le-leb, leb-true, leb-false, ltb-true, ltb-false, lt-leb, eqb-true, eqb-false}
use lib.Dec.{leb, ltb, eqb}
use lib.ListN.{length, take, set, length-append}
use lib.Seq.{take-suc-set}
use Rattle.std.specs.Prelude.{Option, Some, None, unwrap_or}
use Rattle.hexadecimal.specs.Hex.{digit_value, decoded, all_digits, longest_field, good_line}
use Rattle.hexadecimal.specs.Line.{fresh_line, spoiled_line, fitting, pending, line_of, taken, fed, stored, ends_good, InFront, count_of, with_digit, Counted}
use Rattle.hexadecimal.specs.declared.line.Line.{Line}
use Rattle.octets.proofs.BytesLaws.{both_true}

-- what one byte more makes of a line and of its bytes

module _ (line : Line) (b : ℕ) where
  fed_spoils : taken (Some line) b ≡ false → spoiled_line ≡ fed (Some line) b
  unfolding fed
  fed_spoils none = rw none

  stored_first : (bytes : List ℕ) → taken (Some line) b ≡ true → line.half ≡ None → bytes ≡ stored (Some line) b bytes
  unfolding stored
  stored_first bytes some even = rw (some, even)

  stored_second : (bytes : List ℕ) (first : ℕ) → taken (Some line) b ≡ true → line.half ≡ Some first
      → set bytes line.bytes (first % 16 * 16 + digit_value b) ≡ stored (Some line) b bytes
  unfolding stored
  stored_second bytes first some odd = rw (some, odd)

-- one digit more

length_more : (s : List ℕ) (b : ℕ) → length (s ++ (b ∷ [])) ≡ suc (length s)
length_more s b = length-append s (b ∷ []) ∙ add-one (length s)

digits_more : (s : List ℕ) (b : ℕ) → all_digits (s ++ (b ∷ [])) ≡ (all_digits s && ltb (digit_value b) 16)
unfolding all_digits
digits_more [] b = and-true (ltb (digit_value b) 16)
digits_more (a ∷ s) b = rw (digits_more s b) (sym (and_assoc (ltb (digit_value a) 16) (all_digits s) (ltb (digit_value b) 16)))

two_less : (n : ℕ) → suc (suc n) % 2 ≡ n % 2
two_less n = omega arith

pending-more : (s : List ℕ) (b : ℕ) → pending (s ++ (b ∷ [])) ≡ cond (eqb (length s % 2) 0) (Some (digit_value b)) None
unfolding pending
pending-more [] b = refl
pending-more (h ∷ []) b = refl
pending-more (h ∷ l ∷ s) b = rw (two_less (length s)) (pending-more s b)

-- the line has a last digit with no second one just where it has an odd count of them
pending_even : (s : List ℕ) → length s % 2 ≡ 0 → pending s ≡ None
unfolding pending
pending_even [] even = refl
pending_even (h ∷ []) even = absurd (omega arith)
pending_even (h ∷ l ∷ s) even = pending_even s (omega (arith, two_less (length s)))

-- the value of that digit
half : List ℕ → ℕ
half s = unwrap_or (pending s) 0

pending_odd : (s : List ℕ) → length s % 2 ≡ 1 → pending s ≡ Some (half s)
unfolding pending half
pending_odd [] odd = absurd (omega arith)
pending_odd (h ∷ []) odd = refl
pending_odd (h ∷ l ∷ s) odd = pending_odd s (omega (arith, two_less (length s)))

half_small : (s : List ℕ) → all_digits s ≡ true → half s < 16
unfolding pending all_digits half
half_small [] good = omega arith
half_small (h ∷ []) good = ltb-true (digit_value h) 16 (both_true (ltb (digit_value h) 16) true good).0
half_small (h ∷ l ∷ s) good =
    half_small s (both_true (ltb (digit_value l) 16) (all_digits s) (both_true (ltb (digit_value h) 16) _ good).1).1

decoded_first : (s : List ℕ) (b : ℕ) → length s % 2 ≡ 0 → decoded (s ++ (b ∷ [])) ≡ decoded s
unfolding decoded
decoded_first [] b even = refl
decoded_first (h ∷ []) b even = absurd (omega arith)
decoded_first (h ∷ l ∷ s) b even =
    ap {B = List ℕ} (λ r. (digit_value h * 16 + digit_value l) ∷ r) (decoded_first s b (omega (arith, two_less (length s))))

decoded_second : (s : List ℕ) (b : ℕ) → length s % 2 ≡ 1
    → decoded (s ++ (b ∷ [])) ≡ decoded s ++ ((half s * 16 + digit_value b) ∷ [])
unfolding decoded pending half
decoded_second [] b odd = absurd (omega arith)
decoded_second (h ∷ []) b odd = refl
decoded_second (h ∷ l ∷ s) b odd =
    ap {B = List ℕ} (λ r. (digit_value h * 16 + digit_value l) ∷ r) (decoded_second s b (omega (arith, two_less (length s))))

-- what is kept of a line

kept : List ℕ → Line
kept s = record { bytes = length s / 2; half = pending s }

line_fits : (s : List ℕ) → fitting s ≡ true → line_of s ≡ Some (kept s)
unfolding line_of kept
line_fits s fits = rw fits

line_spoiled : (s : List ℕ) → fitting s ≡ false → line_of s ≡ spoiled_line
unfolding line_of
line_spoiled s none = rw none

pub line_fresh : line_of [] ≡ fresh_line
unfolding line_of fitting all_digits pending
line_fresh = refl

half_count : (n : ℕ) → n ≤ 8192 → ltb (n / 2) 4096 ≡ leb (suc n) 8192
half_count n few = go (ltb (n / 2) 4096) refl (leb (suc n) 8192) refl
  where
    go : (p : Bool) → ltb (n / 2) 4096 ≡ p → (q : Bool) → leb (suc n) 8192 ≡ q → p ≡ q
    go true e true f = refl
    go true e false f = absurd (omega (arith, ltb-true (n / 2) 4096 e, leb-false (suc n) 8192 f))
    go false e true f = absurd (omega (arith, ltb-false (n / 2) 4096 e, leb-true (suc n) 8192 f))
    go false e false f = refl

-- a line goes on fitting just where the byte is taken
fitting-more : (s : List ℕ) (b : ℕ) → fitting (s ++ (b ∷ [])) ≡ taken (line_of s) b
unfolding fitting taken line_of
fitting-more s b = go (all_digits s) refl (leb (length s) 8192) refl
  where
    go : (p : Bool) → all_digits s ≡ p → (q : Bool) → leb (length s) 8192 ≡ q → fitting (s ++ (b ∷ [])) ≡ taken (line_of s) b
    go true e true f =
        rw (e, f, digits_more s b, length_more s b, e, half_count (length s) (leb-true (length s) 8192 f))
    go true e false f =
        let over : 8192 < suc (length s) = omega (arith, leb-false (length s) 8192 f) in
        rw
        (e, f, digits_more s b, length_more s b, e, lt-leb (suc (length s)) 8192 over)
        (and-false (ltb (digit_value b) 16))
    go false e q f = rw (e, digits_more s b, length_more s b, e)

true_unless : (p : Bool) → (p ≡ false → ⊥) → p ≡ true
true_unless true never = refl
true_unless false never = absurd (never refl)

-- a line that fits did so before its last byte
fitted : (s : List ℕ) (b : ℕ) → fitting (s ++ (b ∷ [])) ≡ true → fitting s ≡ true
unfolding taken line_of
fitted s b fits = true_unless (fitting s) (λ e. false≢true (rw (fitting-more s b, e) at fits))

-- the byte is taken where the line goes on fitting
takes : (s : List ℕ) (b : ℕ) → fitting (s ++ (b ∷ [])) ≡ true → taken (Some (kept s)) b ≡ true
takes s b fits = rw (← (line_fits s (fitted s b fits))) (sym (fitting-more s b) ∙ fits)

kept_more : (s : List ℕ) (b : ℕ) → kept (s ++ (b ∷ [])) ≡ with_digit (kept s).bytes (kept s).half (digit_value b)
unfolding kept
kept_more s b = go (eqb (length s % 2) 0) refl
  where
    go : (p : Bool) → eqb (length s % 2) 0 ≡ p → kept (s ++ (b ∷ [])) ≡ with_digit (kept s).bytes (kept s).half (digit_value b)
    go true e =
        let even : length s % 2 ≡ 0 = eqb-true (length s % 2) 0 e in
        let same : suc (length s) / 2 ≡ length s / 2 = omega arith in
        rw (length_more s b, pending-more s b, e, pending_even s even, same)
    go false e =
        let odd : length s % 2 ≡ 1 = omega (arith, eqb-false (length s % 2) 0 e) in
        let next : suc (length s) / 2 ≡ length s / 2 + 1 = omega arith in
        rw (length_more s b, pending-more s b, e, pending_odd s odd, next)

pub line_more : (s : List ℕ) (b : ℕ) → line_of (s ++ (b ∷ [])) ≡ fed (line_of s) b
unfolding fed
line_more s b = go (fitting s) refl (fitting (s ++ (b ∷ []))) refl
  where
    go : (p : Bool) → fitting s ≡ p → (q : Bool) → fitting (s ++ (b ∷ [])) ≡ q → line_of (s ++ (b ∷ [])) ≡ fed (line_of s) b
    go true e true f =
        rw (line_fits s e, line_fits (s ++ (b ∷ [])) f, takes s b f) (ap Some (kept_more s b))
    go true e false f =
        rw (line_fits s e, line_spoiled (s ++ (b ∷ [])) f)
        (fed_spoils (kept s) b (rw (← (line_fits s e)) (sym (fitting-more s b) ∙ f)))
    go false e true f = absurd (false≢true (sym e ∙ fitted s b f))
    go false e false f = rw (line_spoiled s e, line_spoiled (s ++ (b ∷ [])) f)

too_long : (n : ℕ) → longest_field * 2 < n → (eqb (n % 2) 0 && leb (n / 2) longest_field) ≡ false
too_long n long = go (eqb (n % 2) 0) refl
  where
    go : (p : Bool) → eqb (n % 2) 0 ≡ p → (eqb (n % 2) 0 && leb (n / 2) longest_field) ≡ false
    go true e = rw e (lt-leb (n / 2) 4096 (omega (arith, eqb-true (n % 2) 0 e)))
    go false e = rw e

pub good-line : (s : List ℕ) → ends_good (line_of s) ≡ good_line s
unfolding line_of ends_good good_line fitting
good-line s = go (all_digits s) refl (leb (length s) 8192) refl (eqb (length s % 2) 0) refl
  where
    go : (p : Bool) → all_digits s ≡ p → (q : Bool) → leb (length s) 8192 ≡ q → (r : Bool) → eqb (length s % 2) 0 ≡ r
        → ends_good (line_of s) ≡ good_line s
    go true e true f true g =
        rw
        (e, f, pending_even s (eqb-true (length s % 2) 0 g), g, le-leb (length s / 2) 4096 (omega (arith, leb-true (length s) 8192 f)))
    go true e true f false g = rw (e, f, pending_odd s (omega (arith, eqb-false (length s % 2) 0 g)), g)
    go true e false f r g = rw (e, f) (sym (too_long (length s) (leb-false (length s) 8192 f)))
    go false e q f r g = rw e

in_front_first : (s bytes : List ℕ) (b : ℕ) → length s % 2 ≡ 0 → take (length s / 2) bytes ≡ decoded s
    → take (length (s ++ (b ∷ [])) / 2) bytes ≡ decoded (s ++ (b ∷ []))
in_front_first s bytes b even held =
    let same_count : suc (length s) / 2 ≡ length s / 2 = omega arith in
    rw (length_more s b, same_count, decoded_first s b even) held

in_front_second : (s bytes : List ℕ) (b : ℕ) → length s % 2 ≡ 1 → length s / 2 < length bytes → half s < 16
    → take (length s / 2) bytes ≡ decoded s
    → take (length (s ++ (b ∷ [])) / 2) (set bytes (length s / 2) (half s % 16 * 16 + digit_value b)) ≡ decoded (s ++ (b ∷ []))
in_front_second s bytes b odd room small held =
    let one_more : suc (length s) / 2 ≡ suc (length s / 2) = omega arith in
    rw (
      length_more s b,
      one_more,
      decoded_second s b odd,
      mod-eq_of_lt small,
      take-suc-set bytes (length s / 2) (half s * 16 + digit_value b) room,
      held,
    )

fitting_digits : (s : List ℕ) → fitting s ≡ true → all_digits s ≡ true
unfolding fitting
fitting_digits s fits = (both_true (all_digits s) _ fits).0

fitting_short : (s : List ℕ) → fitting s ≡ true → length s ≤ longest_field * 2
unfolding fitting
fitting_short s fits = leb-true (length s) 8192 (both_true (all_digits s) _ fits).1

pub in_front_more : (s bytes : List ℕ) (b : ℕ) → longest_field ≤ length bytes → InFront s bytes
    → InFront (s ++ (b ∷ [])) (stored (line_of s) b bytes)
unfolding kept
in_front_more s bytes b room held fits =
    let before = fitted s b fits in
    let few = rw (length_more s b) at (fitting_short (s ++ (b ∷ [])) fits) in
    rw (line_fits s before) (go before (takes s b fits) few (eqb (length s % 2) 0) refl)
  where
    go : fitting s ≡ true → taken (Some (kept s)) b ≡ true → length s < longest_field * 2
        → (p : Bool) → eqb (length s % 2) 0 ≡ p
        → take (length (s ++ (b ∷ [])) / 2) (stored (Some (kept s)) b bytes) ≡ decoded (s ++ (b ∷ []))
    go before some few true e =
        let even : length s % 2 ≡ 0 = eqb-true (length s % 2) 0 e in
        rw (← (stored_first (kept s) b bytes some (pending_even s even))) (in_front_first s bytes b even (held before))
    go before some few false e =
        let odd : length s % 2 ≡ 1 = omega (arith, eqb-false (length s % 2) 0 e) in
        rw (← (stored_second (kept s) b bytes (half s) some (pending_odd s odd)))
        (in_front_second s bytes b odd (omega arith) (half_small s (fitting_digits s before)) (held before))

pub in_front_none : (bytes : List ℕ) → InFront [] bytes
unfolding decoded
in_front_none bytes fits = refl

-- a good line is one that nothing spoils
good-fits : (s : List ℕ) → good_line s ≡ true → fitting s ≡ true
unfolding line_of ends_good
good-fits s good = true_unless (fitting s) (λ e. false≢true (rw (← (good-line s), e) at good))

count_good : (s : List ℕ) → good_line s ≡ true → count_of (line_of s) ≡ Some (length s / 2)
unfolding count_of ends_good kept good_line
count_good s good =
    let even = eqb-true (length s % 2) 0 (both_true (eqb (length s % 2) 0) _ (both_true (all_digits s) _ good).1).0 in
    rw (line_fits s (good-fits s good), pending_even s even)

count_bad : (line : Option Line) → ends_good line ≡ false → count_of line ≡ None
unfolding count_of
count_bad None bad = refl
count_bad (Some line) bad = rw bad

-- the line ended: its bytes are counted, if it is good
pub counted : (s bytes : List ℕ) → InFront s bytes → Counted (count_of (line_of s)) bytes s
counted s bytes held = go (good_line s) refl
  where
    go : (p : Bool) → good_line s ≡ p → Counted (count_of (line_of s)) bytes s
    go true e =
        rw (count_good s e)
        (record {
          good = sym e;
          within = omega (arith, fitting_short s (good-fits s e));
          front = λ good. held (good-fits s good);
        })
    go false e =
        rw (count_bad (line_of s) (good-line s ∙ e))
        (record { good = sym e; within = omega arith; front = λ good. absurd (false≢true (sym e ∙ good)) })
