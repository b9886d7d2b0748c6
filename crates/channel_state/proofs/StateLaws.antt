-- What an answer of number 0 tells: the channel's phase, and the lengths behind it.
use mathlib.Core.Path.{◌≡◌, refl}
use mathlib.Core.Bool.{Bool, true, false, not, cond, ◌||◌, true≢false}
use mathlib.Core.List.{List}
use Prim.Native.Nat.{ℕ, suc, ◌+◌, ◌^◌, ◌≤◌, ◌<◌}
use native.Mathlib.Omega.{arith}
use borrow.Author.Tests.{not-false, ltb-false}
use lib.Dec.{eqb}
use lib.ListN.{length}
use Rattle.aes.proofs.CipherLaws.{length-enciphered}
use Rattle.ledger.specs.Ledger.{verdict_of}
use Rattle.rows.specs.Rows.{longest_text, ad_bad, text_bad, too_short}
use Rattle.pieces.proofs.PieceLaws.{length-crypted_at}
use Rattle.channel_state.specs.declared.Channel.{Channel}
use Rattle.channel_state.specs.State.{busy, idle, cipher_of, iv_in, begin_number, feed_number, piece_of, end_number}

-- what answers 0 has passed the test in front, and neither of two tests failed
pub past : (k : ℕ) (b : Bool) (n : ℕ) → cond b (suc k) n ≡ 0 → (b ≡ false) × (n ≡ 0)
past k true n e = absurd (omega arith)
past k false n e = (refl, e)

pub neither : (a b : Bool) → (a || b) ≡ false → (a ≡ false) × (b ≡ false)
neither true b e = absurd (true≢false e)
neither false b e = (refl, e)

-- A begin that answers 0 found the channel alive with no message open.
pub begin-done : (c : Channel) (n ad : ℕ) → begin_number c n ad ≡ 0
    → (eqb c.tag 0 ≡ false) × (eqb c.message.phase 0 ≡ true) × (ad_bad ad ≡ false) × (verdict_of c.ledger n ≡ 0)
unfolding begin_number busy
begin-done c n ad e =
    let first = past 8 (busy c) _ e in
    let free = neither (eqb c.tag 0) (not (eqb c.message.phase 0)) first.0 in
    let second = past 3 (ad_bad ad) (verdict_of c.ledger n) first.1 in
    (free.0, not-false _ free.1, second.0, second.1)

-- A channel that is not idle is alive, with a message open.
pub not_idle : (c : Channel) → idle c ≡ false → (eqb c.tag 0 ≡ false) × (eqb c.message.phase 0 ≡ false)
unfolding idle
not_idle c = neither (eqb c.tag 0) (eqb c.message.phase 0)

-- So is one that a feed with answer 0 found, and the text with the piece is not too long,
pub feed-done : (c : Channel) (piece room : ℕ) → feed_number c piece room ≡ 0
    → (eqb c.tag 0 ≡ false) × (eqb c.message.phase 0 ≡ false) × (c.message.text + piece ≤ longest_text)
unfolding feed_number
feed-done c piece room e =
    let first = past 8 (idle c) _ e in
    let live = not_idle c first.0 in
    let second = past 4 (text_bad (c.message.text + piece)) _ first.1 in
    (live.0, live.1, ltb-false _ _ second.0)

-- and one that a finish or abandon with answer 0 found.
pub end_done : (c : Channel) → end_number c ≡ 0 → (eqb c.tag 0 ≡ false) × (eqb c.message.phase 0 ≡ false)
unfolding end_number
end_done c e = not_idle c (past 8 (idle c) 0 e).0

-- A feed writes as many bytes as the piece has.
pub piece_size : (c : Channel) (piece : List ℕ) → length (piece_of c piece) ≡ length piece
unfolding piece_of
piece_size c piece = length-crypted_at (cipher_of c) (length-enciphered c.words _) (iv_in c) c.message.text piece

-- What a feed is done with fits what is called behind it.
pub feed-fits : (c : Channel) (piece room : ℕ) → feed_number c piece room ≡ 0
    → (c.message.text + piece < 2 ^ 32) × (piece ≤ room)
unfolding feed_number
feed-fits c piece room clear =
    let first = past 8 (idle c) _ clear in
    let second = past 4 (text_bad (c.message.text + piece)) _ first.1 in
    let third = past 6 (too_short room piece) _ second.1 in
    (omega (arith, ltb-false longest_text (c.message.text + piece) second.0), ltb-false room piece third.0)
