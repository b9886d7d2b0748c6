-- An element and its block tell each other: a number is its upper part and its 64 low bits.
use mathlib.Core.Path.{◌≡◌, ◌∙◌, ap, ap₂, sym}
use Prim.Native.Nat.{ℕ, ◌^◌, ◌<◌}
use lib.Pow.{split, high, low}
use Rattle.hash_field.specs.declared.Element.{Element}
use Rattle.hash_field.specs.Element.{value_of, element_of}

-- The element of a number has that number.
pub value_element : (n : ℕ) → value_of (element_of n) ≡ n
unfolding value_of element_of
value_element n = split n 64

-- An element is the one of its number.
pub element_value : (e : Element) → e.low < 2 ^ 64 → element_of (value_of e) ≡ e
unfolding value_of element_of
element_value e below = ap₂ (λ (h l : ℕ). record { high = h; low = l }) (high e.high 64 below) (low e.high 64 below)

-- an element is that of its value
pub element_is : (e : Element) {x : ℕ} → e.low < 2 ^ 64 → value_of e ≡ x → e ≡ element_of x
element_is e below value = sym (element_value e below) ∙ ap element_of value
