-- The hash of a message, put together from its parts in turn: a list of blocks is hashed by going on from the hash of its front.
use mathlib.Core.Path.{◌≡◌, ◌∙◌, ap, sym}
use mathlib.Core.List.{List, ◌++◌}
use Prim.Native.Nat.{ℕ}
use lib.Bits.{bit_xor}
use lib.ListN.{length}
use Rattle.octets.specs.Block.{padded}
use Rattle.hash_field.specs.Field.{product}
use Rattle.ghash.specs.Hash.{hash_from, hash, length_block}
use Rattle.ghash.proofs.HashLaws.{hash-append, hash_behind}
use Rattle.mode.specs.Mode.{hashed_iv, hashed_blocks}

pub iv_hash : (h : ℕ) (iv : List ℕ) {sum lengths r : ℕ} → sum ≡ hash h (padded iv) → lengths ≡ length_block 0 (length iv)
    → r ≡ product (bit_xor sum lengths) h
    → r ≡ hashed_iv h iv
unfolding hashed_iv
iv_hash h iv sum lengths r = rw (sum, lengths) at r ∙ sym (hash_behind h 0 (padded iv) (length_block 0 (length iv)))

pub message_hash : (h : ℕ) (ad c : List ℕ) {first second lengths r : ℕ} → first ≡ hash h (padded ad)
    → second ≡ hash_from h first (padded c)
    → lengths ≡ length_block (length ad) (length c)
    → r ≡ product (bit_xor second lengths) h
    → r ≡ hash h (hashed_blocks ad c)
message_hash h ad c first second lengths r =
    let both = second ∙ ap (λ s. hash_from h s (padded c)) first ∙ sym (hash-append h 0 (padded ad) (padded c)) in
    rw (both, lengths) at r ∙ sym (hash_behind h 0 (padded ad ++ padded c) (length_block (length ad) (length c)))
