-- A message in progress: what the channel holds of it is what the seal at once has made of the text so far, after the begin and
-- after each feed, and so finish gives the tag of the whole text.
use mathlib.Core.Path.{◌≡◌, refl, sym, ap, ap₂, ◌∙◌, subst}
use mathlib.Core.Bool.{false, ◌||◌}
use mathlib.Core.List.{List, [], ◌∷◌, ◌++◌}
use Prim.Native.Nat.{ℕ, ◌+◌, ◌%◌, ◌≤◌}
use lib.Bits.{bit_xor}
use lib.Dec.{eqb}
use lib.ListN.{length, get_or, take, length-append}
use Rattle.answer.proofs.DoneLaws.{when_done}
use Rattle.octets.specs.Block.{number_at, block_bytes, padded}
use Rattle.aes.proofs.CipherLaws.{length-enciphered}
use Rattle.hash_field.specs.Element.{value_of}
use Rattle.ghash.specs.Hash.{hash_from, hash, length_block}
use Rattle.ghash.proofs.HashLaws.{hash-append}
use Rattle.hash_field.proofs.ElementLaws.{value_element}
use Rattle.mode.specs.Mode.{first_block, tag_by}
use Rattle.counter.specs.Counter.{crypted}
use Rattle.counter.proofs.CounterLaws.{crypted-nil, length-crypted}
use Rattle.channel_state.specs.declared.Channel.{Channel}
use Rattle.pieces.specs.Piece.{iv_of, counter_at, crypted_at, waiting, sum_after, part_after}
use Rattle.channel_state.specs.State.{
  with_message,
  idle,
  cipher_of,
  key_of,
  iv_in,
  begin_number,
  begun_with,
  begin_of,
  feed_number,
  piece_of,
  message_with,
  feed_of,
  message_tag,
}
use Rattle.message.specs.Message.{message_after, whole_sum}
use Rattle.pieces.proofs.PieceLaws.{first_counter, crypted-append}
use Rattle.channel_state.proofs.StateLaws.{begin-done, piece_size}
use Rattle.pieces.proofs.HeldLaws.{sum_more, part-more, part_rest_zero, sum_end, sum_none, part_none}

-- ---- the channels that calls hand back which are not refused

pub begun : (c : Channel) (n : ℕ) (ad : List ℕ) → begin_number c n (length ad) ≡ 0 → begin_of c n ad ≡ begun_with c n ad
unfolding begin_of
begun c n ad e = when_done _ _ e

pub fed : (c : Channel) (piece : List ℕ) (room : ℕ) → feed_number c (length piece) room ≡ 0
    → feed_of c piece room ≡ with_message c (message_with c (piece_of c piece))
unfolding feed_of
fed c piece room e = when_done _ _ e

-- ---- the message in progress

-- the ciphertext that the seal at once has for text x, under the channel's key and mark and the number n
abbrev pub ciphertext_in : Channel → ℕ → List ℕ → List ℕ
ciphertext_in c n x = crypted (cipher_of c) (first_block (key_of c) (iv_of c.mark n)) x

-- the channel has a message open with number n, associated data a and the text x so far
pub record Holds (c : Channel) (n : ℕ) (a x : List ℕ) : Type 0 where
  pub alive : eqb c.tag 0 ≡ false
  pub begun : eqb c.message.phase 0 ≡ false
  pub number : c.message.number ≡ n
  pub ad : c.message.ad ≡ length a
  pub text : c.message.text ≡ length x
  pub sum : value_of c.message.sum ≡ sum_after (key_of c) (hash (key_of c) (padded a)) (ciphertext_in c n x)
  pub part : c.message.part ≡ part_after (ciphertext_in c n x)

-- Such a channel is not idle.
pub held_open : (c : Channel) (n : ℕ) (ad x : List ℕ) → Holds c n ad x → idle c ≡ false
unfolding idle
held_open c n ad x m = ap₂ ◌||◌ m.alive m.begun

-- After an accepted begin the text so far is empty.
pub begun-start : (c : Channel) (n : ℕ) (ad : List ℕ) → begin_number c n (length ad) ≡ 0 → Holds (begun_with c n ad) n ad []
unfolding begun_with
begun-start c n ad e =
    let none : ciphertext_in c n [] ≡ [] = crypted-nil (cipher_of c) (first_block (key_of c) (iv_of c.mark n)) in
    let h = key_of c in
    let summed = hash (key_of c) (padded ad) in
    record {
      alive = (begin-done c n (length ad) e).0;
      begun = refl;
      number = refl;
      ad = refl;
      text = refl;
      sum = value_element summed ∙ sym (ap (sum_after h summed) none ∙ sum_none h summed);
      part = sym (ap part_after none ∙ part_none);
    }

pub begun_holds : (c : Channel) (n : ℕ) (ad : List ℕ) → begin_number c n (length ad) ≡ 0 → Holds (begin_of c n ad) n ad []
begun_holds c n ad e = subst (λ (d : Channel). Holds d n ad []) (sym (begun c n ad e)) (begun-start c n ad e)

-- The ciphertext so far is as long as the text so far.
text_size : (c : Channel) (n : ℕ) (ad x : List ℕ) → Holds c n ad x → c.message.text ≡ length (ciphertext_in c n x)
text_size c n ad x m = m.text ∙ sym (length-crypted (cipher_of c) (length-enciphered c.words _) _ x)

-- A feed's bytes are what the seal at once has behind the ciphertext of the text so far.
pub piece_behind : (c : Channel) (n : ℕ) (ad x piece : List ℕ) → Holds c n ad x
    → ciphertext_in c n (x ++ piece) ≡ ciphertext_in c n x ++ piece_of c piece
unfolding piece_of
piece_behind c n ad x piece m =
    let e = cipher_of c in
    let iv = iv_of c.mark n in
    let j : first_block (key_of c) (iv_of c.mark n) ≡ counter_at (iv_of c.mark n) 0 = first_counter (key_of c) c.mark n in
    ap (λ (b : List ℕ). crypted e b (x ++ piece)) j
    ∙ crypted-append e (length-enciphered c.words _) iv x piece
    ∙ ap (λ (b : List ℕ). crypted e b x ++ crypted_at e iv (length x) piece) (sym j)
    ∙ ap₂ (λ (k t : ℕ). ciphertext_in c n x ++ crypted_at e (iv_of c.mark k) t piece) (sym m.number) (sym m.text)

-- After an accepted feed the text so far has the piece behind it.
pub fed-more : (c : Channel) (n : ℕ) (ad x piece : List ℕ) → Holds c n ad x
    → Holds (with_message c (message_with c (piece_of c piece))) n ad (x ++ piece)
unfolding message_after
fed-more c n ad x piece m =
    let h = key_of c in
    let summed = hash (key_of c) (padded ad) in
    let now = ciphertext_in c n x in
    let size = text_size c n ad x m in
    let behind = piece_behind c n ad x piece m in
    let d = piece_of c piece in
    record {
      alive = m.alive;
      begun = m.begun;
      number = m.number;
      ad = m.ad;
      text = ap₂ (λ (a b : ℕ). a + b) m.text (piece_size c piece) ∙ sym (length-append x piece);
      sum =
          value_element _
          ∙ ap (λ (k : ℕ). sum_after h (value_of c.message.sum) (waiting k c.message.part d)) size
          ∙ sum_more h summed (value_of c.message.sum) now c.message.part d m.sum m.part
          ∙ ap (sum_after h summed) (sym behind);
      part =
          ap (λ (k : ℕ). part_after (waiting k c.message.part d)) size
          ∙ part-more now c.message.part d m.part
          ∙ ap part_after (sym behind);
    }

pub fed_holds : (c : Channel) (n : ℕ) (ad x piece : List ℕ) (room : ℕ) → Holds c n ad x
    → feed_number c (length piece) room ≡ 0
    → Holds (feed_of c piece room) n ad (x ++ piece)
fed_holds c n ad x piece room m e =
    subst (λ (d : Channel). Holds d n ad (x ++ piece)) (sym (fed c piece room e)) (fed-more c n ad x piece m)

-- Unused bytes of a part block held are zero.
pub unused_zero : (c : Channel) (n : ℕ) (ad x : List ℕ) → Holds c n ad x → (i : ℕ) → c.message.text % 16 ≤ i
    → get_or c.message.part i 0 ≡ 0
unused_zero c n ad x m i past-it =
    ap (λ (s : List ℕ). get_or s i 0) m.part
    ∙ part_rest_zero (ciphertext_in c n x) i (rw (← text_size c n ad x m) past-it)

-- Finish gives the tag that the seal at once has for the text so far.
pub finish-tag : (c : Channel) (n : ℕ) (ad x : List ℕ) → Holds c n ad x
    → message_tag c ≡ tag_by (key_of c) (cipher_of c) (first_block (key_of c) (iv_of c.mark n)) ad (ciphertext_in c n x)
unfolding message_tag whole_sum tag_by
finish-tag c n ad x m =
    let h = key_of c in
    let e = cipher_of c in
    let now = ciphertext_in c n x in
    let sum = value_of c.message.sum in
    let held = c.message.part in
    let summed = hash (key_of c) (padded ad) in
    let size = text_size c n ad x m in
    let ends : List ℕ = length_block (length ad) (length now) ∷ [] in
    let first : counter_at (iv_in c) 0 ≡ first_block h (iv_of c.mark n) =
    ap (λ (k : ℕ). counter_at (iv_of c.mark k) 0) m.number ∙ sym (first_counter h c.mark n) in
    ap₂ (λ (a : ℕ) (b : List ℕ). block_bytes (bit_xor a (number_at (e b) 0)))
    (ap₂ (λ (l k : ℕ). hash_from h sum (padded (take (k % 16) held) ++ (length_block l k ∷ []))) m.ad size
    ∙ hash-append h sum (padded (take (length now % 16) held)) ends
    ∙ ap (λ (s : ℕ). hash_from h s ends) (sum_end h summed sum now held m.sum m.part)
    ∙ sym
    (hash-append h 0 (padded ad ++ padded now) ends
    ∙ ap (λ (s : ℕ). hash_from h s ends) (hash-append h 0 (padded ad) (padded now))))
    first
