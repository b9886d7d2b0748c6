-- The cipher input blocks of all messages differ. Bytes 0 to 3 of a block are the mark, bytes 4 to 11 its message's number, and
-- the last word counts from 1: blocks of one message differ in the last word, blocks of two in the number, for no number is
-- accepted twice, blocks of two channels in the mark; and no last word is 0.
use mathlib.Core.Path.{◌≡◌, refl, sym, ap, ap₂, ◌∙◌, subst}
use mathlib.Core.Bool.{Bool, true, false, ◌||◌, true≢false}
use mathlib.Core.List.{List, [], ◌∷◌, ◌++◌}
use Prim.Native.Nat.{ℕ, zero, suc, ◌+◌, ◌-◌, ◌*◌, ◌/◌, ◌%◌, ◌^◌, ◌≤◌, ◌<◌}
use native.Mathlib.Omega.{arith}
use borrow.Author.Tests.{ltb-true, ltb-false, eq-eqb}
use lib.Dec.{eqb, ltb}
use lib.ListN.{length, get_or, replicate, length-append, get_or-append}
use lib.Seq.{get_or-append-add, ext_get_or}
use Rattle.octets.specs.Word.{word_at}
use Rattle.octets.specs.Block.{long_at, blocks_for}
use Rattle.octets.proofs.BlockLaws.{word_bytes}
use Rattle.aes.specs.Cipher.{enciphered}
use Rattle.ledger.specs.History.{used_in}
use Rattle.mode.specs.Mode.{hash_key, first_block}
use Rattle.counter.specs.Counter.{counter_block, inputs}
use Rattle.counter.proofs.InputsLaws.{length-inputs, inputs_first, inputs_word, inputs_keep, inputs-differ}
use Rattle.channel_state.specs.declared.Channel.{Channel}
use Rattle.pieces.specs.Piece.{iv_of, counter_at}
use Rattle.channel_state.specs.State.{new_channel, begin_number, feed_number, piece_of}
use Rattle.runs.specs.Run.{
  Call,
  begin,
  feed,
  finish,
  abandon,
  after,
  Sent,
  longer_by,
  sent_with,
  sent_after,
  messages,
  numbers_of,
  Every,
  inputs_of,
  blocks_of,
  input_blocks,
  Differ,
  Numbered,
  AllNumbered,
}
use Rattle.pieces.proofs.PieceLaws.{first_counter}
use Rattle.runs.proofs.CutLaws.{whichever}
use Rattle.runs.proofs.RunLaws.{Short, Once, going}

-- ---- lists of blocks

-- each one is so
abbrev Each : (List ℕ → Type 0) → List (List ℕ) → Type 0
Each P s = (i : ℕ) → i < length s → P (get_or s i [])

behind : (s t : List (List ℕ)) (i : ℕ) → length s ≤ i → get_or (s ++ t) i [] ≡ get_or t (i - length s) []
behind s t i h =
    let place : i ≡ length s + (i - length s) = omega arith in
    ap (λ (k : ℕ). get_or (s ++ t) k []) place ∙ get_or-append-add s t (i - length s) []

each_append : (P : List ℕ → Type 0) (s t : List (List ℕ)) → Each P s → Each P t → Each P (s ++ t)
each_append P s t f g i h = go (ltb i (length s)) refl
  where
    go : (b : Bool) → ltb i (length s) ≡ b → P (get_or (s ++ t) i [])
    go true e =
        let here : i < length s = ltb-true i (length s) e in
        subst P (sym (get_or-append s t [] i here)) (f i here)
    go false e =
        let past : length s ≤ i = ltb-false i (length s) e in
        let all : length (s ++ t) ≡ length s + length t = length-append s t in
        subst P (sym (behind s t i past)) (g (i - length s) (omega arith))

differ-append : (s t : List (List ℕ)) → Differ s → Differ t
    → ((i k : ℕ) → i < length s → k < length t → get_or s i [] ≡ get_or t k [] → ⊥)
    → Differ (s ++ t)
differ-append s t f g across i k less h q = go (ltb i (length s)) (ltb k (length s)) refl refl
  where
    all : length (s ++ t) ≡ length s + length t
    all = length-append s t

    go : (a b : Bool) → ltb i (length s) ≡ a → ltb k (length s) ≡ b → ⊥
    go true true a b =
        let i-here = ltb-true i (length s) a in
        let k-here = ltb-true k (length s) b in
        f i k less k-here (sym (get_or-append s t [] i i-here) ∙ q ∙ get_or-append s t [] k k-here)
    go true false a b =
        let i-here = ltb-true i (length s) a in
        let k-past = ltb-false k (length s) b in
        let within : k - length s < length t = omega (arith, all) in
        across i (k - length s) i-here within (sym (get_or-append s t [] i i-here) ∙ q ∙ behind s t k k-past)
    go false true a b =
        let i-past = ltb-false i (length s) a in
        let k-here = ltb-true k (length s) b in
        absurd (omega arith)
    go false false a b =
        let i-past = ltb-false i (length s) a in
        let k-past = ltb-false k (length s) b in
        let within : k - length s < length t = omega (arith, all) in
        g (i - length s) (k - length s) (omega arith) within (sym (behind s t i i-past) ∙ q ∙ behind s t k k-past)

-- ---- one message's blocks

-- a cipher input block of the message with this mark and number
record InputBlock (mark : List ℕ) (n : ℕ) (b : List ℕ) : Type 0 where
  marked : (i : ℕ) → i < 4 → get_or b i 0 ≡ get_or mark i 0
  numbered : long_at b 4 ≡ n
  counted : 0 < word_at b 12

-- bytes 4 to 11 make the number
long_same : (b c : List ℕ) → ((i : ℕ) → i < 12 → get_or b i 0 ≡ get_or c i 0) → long_at b 4 ≡ long_at c 4
long_same b c same =
    rw (
      same 4 (omega arith),
      same 5 (omega arith),
      same 6 (omega arith),
      same 7 (omega arith),
      same 8 (omega arith),
      same 9 (omega arith),
      same 10 (omega arith),
      same 11 (omega arith),
    )

mark-front : (mark : List ℕ) (n i : ℕ) → i < 4 → get_or (counter_at (iv_of mark n) 0) i 0 ≡ get_or mark i 0
unfolding counter_at counter_block
mark-front mark n zero below = refl
mark-front mark n (suc zero) below = refl
mark-front mark n (suc (suc zero)) below = refl
mark-front mark n (suc (suc (suc zero))) below = refl
mark-front mark n (suc (suc (suc (suc i)))) below = absurd (omega arith)

number_middle : (mark : List ℕ) (n : ℕ) → n < 2 ^ 64 → long_at (counter_at (iv_of mark n) 0) 4 ≡ n
unfolding counter_at counter_block
number_middle mark n small =
    let whole : n / 2 ^ 32 % 2 ^ 32 * 2 ^ 32 + n % 2 ^ 32 ≡ n = omega arith in
    ap₂ (λ (a b : ℕ). a * 2 ^ 32 + b) (word_bytes (n / 2 ^ 32)) (word_bytes n) ∙ whole

count_first : (mark : List ℕ) (n : ℕ) → word_at (counter_at (iv_of mark n) 0) 12 ≡ 1
unfolding counter_at counter_block
count_first mark n = refl

-- the counter of input block i is i + 1
counts : (j : List ℕ) (m i : ℕ) → word_at j 12 ≡ 1 → i ≤ m → suc m < 2 ^ 32 → 0 < word_at (get_or (inputs j m) i []) 12
counts j m zero one within few =
    let same = ap (λ (s : List (List ℕ)). word_at (get_or s 0 []) 12) (inputs_first j m) in
    omega (arith, same)
counts j m (suc i) one within few =
    let same = inputs_word j m (suc i) (omega arith) within in
    omega (arith, same)

-- Each cipher input block of a message has its mark, its number, and a counter that is not 0.
input_block : (h : ℕ) (mark : List ℕ) (n m i : ℕ) → n < 2 ^ 64 → i ≤ m → suc m < 2 ^ 32
    → InputBlock mark n (get_or (inputs (first_block h (iv_of mark n)) m) i [])
input_block h mark n m i small within few =
    let j = first_block h (iv_of mark n) in
    let j_is = first_counter h mark n in
    record {
      marked = λ k below.
          inputs_keep j m i within k (omega arith)
          ∙ ap (λ (b : List ℕ). get_or b k 0) j_is ∙ mark-front mark n k below;
      numbered =
          long_same (get_or (inputs j m) i []) j (inputs_keep j m i within)
          ∙ ap (λ (b : List ℕ). long_at b 4) j_is ∙ number_middle mark n small;
      counted = counts j m i (ap (λ (b : List ℕ). word_at b 12) j_is ∙ count_first mark n) within few;
    }

-- ---- all messages' blocks

-- a message number has 64 bits
abbrev Narrow : Sent → Type 0
Narrow m = m.number < 2 ^ 64

-- a block is one of a message among these
record Among (mark : List ℕ) (sent : List Sent) (b : List ℕ) : Type 0 where
  number : ℕ
  used : used_in (numbers_of sent) number ≡ true
  block : InputBlock mark number b

or_right : (a b : Bool) → b ≡ true → (a || b) ≡ true
or_right true b e = refl
or_right false b e = e

own_block : (h : ℕ) (mark : List ℕ) (m : Sent) → Short m → Narrow m
    → Each (InputBlock mark m.number) (inputs_of h mark m)
own_block h mark m short narrow i within =
    let size = length-inputs (first_block h (iv_of mark m.number)) (blocks_for (length m.text)) in
    input_block h mark m.number (blocks_for (length m.text)) i narrow (omega arith) (omega arith)

-- Each cipher input block is one of a message.
blocks_among : (h : ℕ) (mark : List ℕ) (sent : List Sent) → Every Short sent → Every Narrow sent
    → Each (Among mark sent) (blocks_of h mark sent)
unfolding blocks_of numbers_of used_in
blocks_among h mark [] short narrow = λ i within. absurd (omega arith)
blocks_among h mark (m ∷ sent) short narrow =
    each_append (Among mark (m ∷ sent)) (inputs_of h mark m) (blocks_of h mark sent)
    (λ i within.
    record {
      number = m.number;
      used = ap (λ (b : Bool). b || used_in (numbers_of sent) m.number) (eq-eqb m.number m.number refl);
      block = own_block h mark m short.0 narrow.0 i within;
    })
    (λ i within.
    let older = blocks_among h mark sent short.1 narrow.1 i within in
    record {
      number = older.number;
      used = or_right (eqb m.number older.number) (used_in (numbers_of sent) older.number) older.used;
      block = older.block;
    })

-- no two are the same, where no number is there twice
messages_share_no_block : (h : ℕ) (mark : List ℕ) (sent : List Sent) → Every Short sent → Every Narrow sent → Once sent
    → Differ (blocks_of h mark sent)
unfolding blocks_of
messages_share_no_block h mark [] short narrow once = λ i k less within q. absurd (omega arith)
messages_share_no_block h mark (m ∷ sent) short narrow once =
    differ-append (inputs_of h mark m) (blocks_of h mark sent)
    (λ i k less within q.
    let size = length-inputs (first_block h (iv_of mark m.number)) (blocks_for (length m.text)) in
    let small = short.0 in
    inputs-differ (first_block h (iv_of mark m.number)) (blocks_for (length m.text)) (omega arith) i k less (omega arith) q)
    (messages_share_no_block h mark sent short.1 narrow.1 once.1)
    (λ i k here there q.
    let mine = own_block h mark m short.0 narrow.0 i here in
    let older = blocks_among h mark sent short.1 narrow.1 k there in
    let same : older.number ≡ m.number =
    sym older.block.numbered ∙ ap (λ (b : List ℕ). long_at b 4) (sym q) ∙ mine.numbered in
    true≢false (sym older.used ∙ ap (used_in (numbers_of sent)) same ∙ once.0))

-- ---- the messages of any calls

longer_narrow : (piece bytes : List ℕ) (sent : List Sent) → Every Narrow sent → Every Narrow (longer_by piece bytes sent)
unfolding longer_by
longer_narrow piece bytes [] narrow = narrow
longer_narrow piece bytes (m ∷ sent) narrow = narrow

with_narrow : (c : Channel) (sent : List Sent) (call : Call) → Every Narrow sent → Numbered call
    → Every Narrow (sent_with c sent call)
unfolding sent_with
with_narrow c sent (begin n ad) narrow small =
    whichever (Every Narrow) (begin_number c n (length ad)) (record { number = n; ad = ad; text = []; bytes = [] } ∷ sent) sent
    (small, narrow) narrow
with_narrow c sent (feed piece room) narrow small =
    whichever (Every Narrow) (feed_number c (length piece) room) (longer_by piece (piece_of c piece) sent) sent
    (longer_narrow piece (piece_of c piece) sent narrow) narrow
with_narrow c sent finish narrow small = narrow
with_narrow c sent abandon narrow small = narrow

after_narrow : (c : Channel) (sent : List Sent) (calls : List Call) → Every Narrow sent → AllNumbered calls
    → Every Narrow (sent_after c sent calls)
unfolding sent_after
after_narrow c sent [] narrow small = narrow
after_narrow c sent (call ∷ calls) narrow small =
    after_narrow (after c call) (sent_with c sent call) calls (with_narrow c sent call narrow small.0) small.1

all_among : (key mark : List ℕ) (t : ℕ) (calls : List Call) → AllNumbered calls
    → Each (Among mark (messages (new_channel key mark t) calls)) (input_blocks key mark t calls)
all_among key mark t calls small =
    blocks_among (hash_key (enciphered key)) mark (messages (new_channel key mark t) calls) (going key mark t calls).short
    (after_narrow (new_channel key mark t) [] calls tt small)

-- Over any calls from an opening, the cipher input blocks of all messages differ, also of those abandoned or still open.
pub all_blocks_differ : (key mark : List ℕ) (t : ℕ) (calls : List Call) → AllNumbered calls
    → Differ (input_blocks key mark t calls)
all_blocks_differ key mark t calls small =
    messages_share_no_block (hash_key (enciphered key)) mark (messages (new_channel key mark t) calls) (going key mark t calls).short
    (after_narrow (new_channel key mark t) [] calls tt small) (going key mark t calls).once

-- None of them is the zero block.
pub no_zero_block : (key mark : List ℕ) (t : ℕ) (calls : List Call) → AllNumbered calls → (i : ℕ)
    → i < length (input_blocks key mark t calls)
    → get_or (input_blocks key mark t calls) i [] ≡ replicate 16 0
    → ⊥
no_zero_block key mark t calls small i within q =
    let counted = (all_among key mark t calls small i within).block.counted in
    let none = ap (λ (b : List ℕ). word_at b 12) q in
    omega arith

-- Two channels of different marks have none in common.
pub marks-apart : (key mark : List ℕ) (t : ℕ) (calls : List Call) → AllNumbered calls
    → (key' mark' : List ℕ) (t' : ℕ) (calls' : List Call)
    → AllNumbered calls'
    → length mark ≡ 4
    → length mark' ≡ 4
    → (mark ≡ mark' → ⊥)
    → (i k : ℕ)
    → i < length (input_blocks key mark t calls)
    → k < length (input_blocks key' mark' t' calls')
    → get_or (input_blocks key mark t calls) i [] ≡ get_or (input_blocks key' mark' t' calls') k []
    → ⊥
marks-apart key mark t calls small key' mark' t' calls' small' four four' apart i k within within' q =
    let one = all_among key mark t calls small i within in
    let other = all_among key' mark' t' calls' small' k within' in
    apart
    (ext_get_or 0 mark mark' (four ∙ sym four')
    (λ n below.
    let in-mark : n < 4 = omega arith in
    sym (one.block.marked n in-mark) ∙ ap (λ (b : List ℕ). get_or b n 0) q ∙ other.block.marked n in-mark))
