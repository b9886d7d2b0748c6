-- An element of the hash field as the code has it: the two halves of a block, 64 bits each.
use Rattle.std.specs.Prelude.{ℕ, zero, suc, ◌+◌, ◌*◌, ◌/◌, ◌%◌, ◌^◌}
use Rattle.hash_field.specs.declared.Element.{Element}
use Rattle.hash_field.specs.Field.{times_a}

-- the block as a number
unfoldable pub value_of : Element → ℕ
value_of e = e.high * 2 ^ 64 + e.low

-- the element of a block
unfoldable pub element_of : ℕ → Element
element_of n = record { high = n / 2 ^ 64; low = n % 2 ^ 64 }

-- y·a^n
unfoldable pub times_power : ℕ → ℕ → ℕ
times_power zero y = y
times_power (suc n) y = times_power n (times_a y)
