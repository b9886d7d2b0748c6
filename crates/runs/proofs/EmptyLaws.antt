-- An empty piece changes nothing. The message holds the same text before and after it, so its length, its part block and the value
-- of its hash are the same; and the two halves of a hash that a call made follow from its value.
use mathlib.Core.Path.{◌≡◌, sym, ap, ◌∙◌, subst}
use mathlib.Core.Bool.{false}
use mathlib.Core.List.{List, [], append-nil}
use Prim.Native.Nat.{ℕ, ◌≤◌}
use native.Mathlib.Omega.{arith}
use lib.ListN.{length}
use Rattle.hash_field.specs.Element.{element_of}
use Rattle.rows.specs.Rows.{longest_text}
use Rattle.message.specs.Message.{message_after}
use Rattle.channel_state.specs.declared.Channel.{Channel}
use Rattle.channel_state.specs.State.{with_message, idle, new_channel, feed_number, piece_of, message_with, feed_of}
use Rattle.channel_state.proofs.StateLaws.{not_idle}
use Rattle.runs.specs.Run.{Call, run}
use Rattle.runs.proofs.MessageLaws.{fed, Holds, fed-more}
use Rattle.runs.proofs.CutLaws.{feed-taken}
use Rattle.runs.proofs.RunLaws.{Halved, halved, open_message}

-- a message with no ciphertext taken in is the message
unchanged : (c : Channel) (n : ℕ) (ad x : List ℕ) → Holds c n ad x → Halved c.message.sum
    → with_message c (message_with c (piece_of c [])) ≡ c
unfolding message_after
unchanged c n ad x m halves =
    let d = with_message c (message_with c (piece_of c [])) in
    let next = subst (λ (s : List ℕ). Holds d n ad s) (append-nil x) (fed-more c n ad x [] m) in
    let text = next.text ∙ sym m.text in
    let part = next.part ∙ sym m.part in
    let sum = halved _ ∙ ap element_of (next.sum ∙ sym m.sum) ∙ sym halves in
    λ i.
    with_message c
    (record {
      number = c.message.number;
      sum = sum i;
      part = part i;
      phase = c.message.phase;
      ad = c.message.ad;
      text = text i;
    })

-- After any calls, while a message is open, an empty piece is accepted, whatever the room, and changes nothing.
pub empty_piece : (key mark : List ℕ) (t : ℕ) (calls : List Call) (room : ℕ) → idle (run (new_channel key mark t) calls) ≡ false
    → (feed_number (run (new_channel key mark t) calls) 0 room ≡ 0)
    × (feed_of (run (new_channel key mark t) calls) [] room ≡ run (new_channel key mark t) calls)
empty_piece key mark t calls room Going-on =
    let c = run (new_channel key mark t) calls in
    let now = open_message key mark t calls (not_idle c Going-on).1 in
    let m = now.message in
    let short : length m.text ≤ longest_text = now.short in
    let taken = feed-taken c m.number m.ad m.text [] room now.holds (omega arith) (omega arith) in
    (taken, fed c [] room taken ∙ unchanged c m.number m.ad m.text now.holds now.halves)
