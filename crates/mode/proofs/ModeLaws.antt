-- How long a tag and a sealed form are.
use mathlib.Core.Path.{◌≡◌, refl}
use mathlib.Core.List.{List}
use Prim.Native.Nat.{ℕ, ◌+◌, ◌≤◌}
use native.Mathlib.Omega.{arith}
use lib.ListN.{length, length-append, length-take}
use Rattle.octets.specs.Block.{block_bytes}
use Rattle.mode.specs.Mode.{tag_by, whole_tag, sealed_by, sealed}
use Rattle.counter.proofs.CounterLaws.{length-crypted}

pub length-tag : (e : List ℕ → List ℕ) (j ad c : List ℕ) → length (whole_tag e j ad c) ≡ 16
unfolding whole_tag tag_by block_bytes
length-tag e j ad c = refl

pub length-sealed : (e : List ℕ → List ℕ) → ((b : List ℕ) → length (e b) ≡ 16)
    → (iv ad : List ℕ) (t : ℕ) (text : List ℕ) → t ≤ 16
    → length (sealed e iv ad t text) ≡ length text + t
unfolding sealed sealed_by
length-sealed e sixteen iv ad t text h =
    simp (length-append, length-take, length-tag, length-crypted e sixteen) (omega arith)
