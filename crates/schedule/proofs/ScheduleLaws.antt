-- How the words of a schedule fill a room of sixty, one after the other. The words so far are as many as their count
-- says, so the next one lands on the first of the zeros behind them.
use mathlib.Core.Path.{◌≡◌, refl, ◌∙◌, ap}
use mathlib.Core.List.{List, append_assoc}
use Prim.Native.Nat.{ℕ, zero, suc, ◌+◌, ◌-◌, ◌*◌, ◌/◌, ◌%◌, ◌^◌, ◌<◌, ◌≤◌}
use native.Mathlib.Numerals.{add-one}
use native.Mathlib.Omega.{arith}
use borrow.Author.Tests.{lt-ltb, le-ltb}
use lib.Bits.{bit_xor, bit_or}
use Rattle.std.proofs.lemmas.Nat.{or_shifted}
use Rattle.octets.specs.Word.{word_of, byte_of}
use lib.ListN.{length, get_or, set, replicate, length-append, get_or-append}
use lib.Seq.{set_at}
use Rattle.schedule.specs.Schedule.{key_word, changed, first_words, word_after, in_sixty}

pub count : (n : ℕ) (key : List ℕ) (i : ℕ) → length (first_words n key i) ≡ i
unfolding first_words
count n key zero = refl
count n key (suc i) = length-append (first_words n key i) _ ∙ ap (λ m. m + 1) (count n key i) ∙ add-one i

-- word i set in a room that holds the words before it
pub room_more : (n : ℕ) (key : List ℕ) (i : ℕ) {room : List ℕ} {w : ℕ} → i < 60
    → room ≡ in_sixty n key i
    → w ≡ word_after n key i (first_words n key i)
    → set room i w ≡ in_sixty n key (i + 1)
unfolding first_words
room_more n key i h room word =
    let words = first_words n key i in
    let zeros : 60 - i ≡ suc (60 - suc i) = omega arith in
    rw (room, word, add-one, zeros, append_assoc) (set_at words 0 (replicate (60 - suc i) 0) _ i (count n key i))

-- a word of the room that stands before word i is one of the words so far
pub room_at : (n : ℕ) (key : List ℕ) (i k : ℕ) {room : List ℕ} → room ≡ in_sixty n key i → k < i
    → get_or room k 0 ≡ get_or (first_words n key i) k 0
room_at n key i k room h = rw room (get_or-append (first_words n key i) _ 0 k (rw (count n key i) h))

pub own_word : (n : ℕ) (key : List ℕ) (i : ℕ) (words : List ℕ) → i < n → word_after n key i words ≡ key_word key i
unfolding word_after
own_word n key i words h = rw (lt-ltb i n h)

pub later_word : (n : ℕ) (key : List ℕ) (i : ℕ) (words : List ℕ) → n ≤ i
    → word_after n key i words ≡ bit_xor (get_or words (i - n) 0) (changed n i (get_or words (i - 1) 0))
unfolding word_after
later_word n key i words h = rw (le-ltb i n h)

-- how word i is written, be it the key's own or a later one
pub ruleset filling = (room_more, room_at, own_word, later_word)

-- rotated by eight bits, the three low bytes move up by one, and the high one comes last
pub rotated : (w : ℕ) → w < 2 ^ 32 → bit_or (w * 2 ^ 8 % 2 ^ 32) (w / 2 ^ 24) ≡ word_of (byte_of w 1) (byte_of w 2) (byte_of w 3) (byte_of w 0)
rotated w fits =
    let low : w * 2 ^ 8 % 2 ^ 32 ≡ w % 2 ^ 24 * 2 ^ 8 = omega arith in
    let bytes : w % 2 ^ 24 * 2 ^ 8 + w / 2 ^ 24 ≡ word_of (byte_of w 1) (byte_of w 2) (byte_of w 3) (byte_of w 0) = omega arith in
    rw low (or_shifted (w % 2 ^ 24) 8 (w / 2 ^ 24) (omega arith) ∙ bytes)
