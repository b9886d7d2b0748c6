-- A block under a cipher's round keys.
use Rattle.std.specs.Prelude.{List, ℕ}
use Rattle.aes.specs.declared.Cipher.{Cipher}
use Rattle.aes.specs.Cipher.{enciphered_by}

-- a block enciphered under a cipher's round keys, in its rounds
abbrev pub enciphered_under : Cipher → List ℕ → List ℕ
enciphered_under c block = enciphered_by c.words.now c.rounds block
