-- Demand 3: over any calls on a channel, a number is judged by those accepted before it, and no cipher input block comes twice.
-- Its premises are rules R7.2 to R7.4: no older state is given again, one key and mark open one channel, and the key is not
-- used besides. So a list of calls starts at a new channel, and each call takes the channel of the one before.
use Rattle.std.specs.Prelude.{◌≡◌, false, List, [], map, ℕ, ◌<◌, ◌≤◌, length, get_or, take, drop, replicate}
use Rattle.std.specs.Int.Bits.{bit_xor}
use Rattle.answer.specs.Number.{number_of}
use Rattle.answer.specs.Values.{tag_in}
use Rattle.octets.specs.Block.{number_at, block_bytes, blocks_for}
use Rattle.octets.specs.Bytes.{xored, joined}
use Rattle.aes.specs.Cipher.{enciphered}
use Rattle.ghash.specs.Hash.{hash}
use Rattle.ledger.specs.Ledger.{Tells}
use Rattle.mode.specs.Mode.{hash_key, first_block, hashed_blocks}
use Rattle.counter.specs.Counter.{inputs}
use Rattle.rows.specs.Rows.{longest_text, ad_bad}
use Rattle.channel.specs.declared.Step.{Step}
use Rattle.channel_state.specs.State.{busy, opening_number, new_channel}
use Rattle.channel.specs.Promise.{BeginPromise, FinishPromise}
use Rattle.runs.specs.Run.{
  Call,
  run,
  Sent,
  messages,
  accepted,
  Judged,
  Newest,
  Every,
  inputs_of,
  input_blocks,
  Differ,
  AllNumbered,
}

-- ---- the ledger

-- After any calls the ledger tells the history of accepted numbers.
abbrev pub LedgerTellsTheHistory : Type 0
LedgerTellsTheHistory =
    (key mark : List ℕ) (tag : ℕ) (calls : List Call)
    → Tells (run (new_channel key mark tag) calls).ledger (accepted (new_channel key mark tag) calls)

-- A number is stale, used or accepted exactly as the history of accepted numbers says, where phase and associated data pass.
abbrev pub NumbersAreJudgedByTheHistory : Type 0
NumbersAreJudgedByTheHistory =
    (key mark : List ℕ) (tag : ℕ) (calls : List Call) (number : ℕ) (ad : List ℕ) (result : Step (Unit {0}))
    → BeginPromise (run (new_channel key mark tag) calls) number ad result
    → busy (run (new_channel key mark tag) calls) ≡ false
    → ad_bad (length ad) ≡ false
    → Judged (accepted (new_channel key mark tag) calls) number (number_of result.answer)

-- ---- the blocks

-- the bytes of a message are its text xor the enciphered input blocks after the first
abbrev pub MadeOfItsBlocks : List ℕ → List ℕ → Sent → Type 0
MadeOfItsBlocks key mark m =
    m.bytes ≡ xored m.text (joined (map (enciphered key) (drop 1 (inputs_of (hash_key (enciphered key)) mark m))))

-- the leading t bytes of a tag are those of the message's hash, over associated data, ciphertext and lengths, xor its first input
-- block enciphered
abbrev pub TaggedByItsFirstBlock : List ℕ → List ℕ → ℕ → List ℕ → Sent → Type 0
TaggedByItsFirstBlock key mark t tag m =
    let h = hash_key (enciphered key) in
    let first = get_or (inputs_of h mark m) 0 [] in
    take t tag ≡ take t (block_bytes (bit_xor (hash h (hashed_blocks m.ad m.bytes)) (number_at (enciphered key first) 0)))

-- The blocks that the claims below speak of are those that are really enciphered. Over any calls, each message's bytes are made of
-- all its blocks but the first; and where a finish answers 0, its tag, cut to its length, is made of the first, J.
pub record MessagesAreMadeOfTheirBlocks : Type 0 where
  pub bytes : (key mark : List ℕ) (tag : ℕ) → opening_number (length key) tag ≡ 0
      → (calls : List Call) → Every (MadeOfItsBlocks key mark) (messages (new_channel key mark tag) calls)
  pub tags : (key mark : List ℕ) (tag : ℕ) → opening_number (length key) tag ≡ 0
      → (calls : List Call) (result : Step (List ℕ)) → FinishPromise (run (new_channel key mark tag) calls) result
      → number_of result.answer ≡ 0
      → Newest (TaggedByItsFirstBlock key mark tag (tag_in result.answer)) (messages (new_channel key mark tag) calls)

-- The cipher input blocks of all messages all differ, also of those abandoned or still open (a message number has 64 bits),
abbrev pub BlocksOfAllMessagesDiffer : Type 0
BlocksOfAllMessagesDiffer =
    (key mark : List ℕ) (tag : ℕ) (calls : List Call) → AllNumbered calls → Differ (input_blocks key mark tag calls)

-- and are never zero.
abbrev pub NoBlockIsZero : Type 0
NoBlockIsZero =
    (key mark : List ℕ) (tag : ℕ) (calls : List Call) → AllNumbered calls
    → (i : ℕ) → i < length (input_blocks key mark tag calls) → get_or (input_blocks key mark tag calls) i [] ≡ replicate 16 0 → ⊥

-- Channels of one key and different marks share none.
abbrev pub DifferentMarksShareNoBlock : Type 0
DifferentMarksShareNoBlock =
    (key mark mark' : List ℕ) → length mark ≡ 4 → length mark' ≡ 4 → (mark ≡ mark' → ⊥)
    → (tag tag' : ℕ) (calls calls' : List Call) → AllNumbered calls → AllNumbered calls'
    → (i k : ℕ) → i < length (input_blocks key mark tag calls) → k < length (input_blocks key mark' tag' calls')
    → get_or (input_blocks key mark tag calls) i [] ≡ get_or (input_blocks key mark' tag' calls') k []
    → ⊥

-- For an IV of any length, the blocks within one message differ.
abbrev pub BlocksOfOneMessageDiffer : Type 0
BlocksOfOneMessageDiffer =
    (key iv text : List ℕ) → length text ≤ longest_text
    → Differ (inputs (first_block (hash_key (enciphered key)) iv) (blocks_for (length text)))

-- ---- the demand

-- Demand 3: the ledger and the blocks.
pub record DemandThree : Type 0 where
  pub ledger : LedgerTellsTheHistory
  pub judged : NumbersAreJudgedByTheHistory
  pub made : MessagesAreMadeOfTheirBlocks
  pub differ : BlocksOfAllMessagesDiffer
  pub nonzero : NoBlockIsZero
  pub apart : DifferentMarksShareNoBlock
  pub within : BlocksOfOneMessageDiffer
