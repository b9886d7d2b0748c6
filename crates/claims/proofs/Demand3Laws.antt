-- Demand 3, as `runs` shows it: after any calls the ledger tells the numbers accepted, a begin answers by what it tells, and the
-- input blocks of two messages differ in mark or number, those of one in the counter, which is never 0.
use mathlib.Core.Path.{sym, ap, ap₂, ◌∙◌, subst}
use mathlib.Core.List.{List, []}
use Prim.Native.Nat.{ℕ}
use native.Mathlib.Omega.{arith}
use lib.ListN.{length, get_or, take}
use Rattle.answer.specs.Values.{tag_in}
use Rattle.octets.specs.Block.{blocks_for}
use Rattle.aes.specs.Cipher.{enciphered}
use Rattle.mode.specs.Mode.{hash_key, first_block, tag_by, whole_tag}
use Rattle.counter.specs.Counter.{keystream, crypted}
use Rattle.counter.proofs.InputsLaws.{length-inputs, inputs_first}
use Rattle.gcm.proofs.Theorems.{message_blocks_differ}
use Rattle.pieces.specs.Piece.{iv_of}
use Rattle.channel_state.specs.State.{new_channel}
use Rattle.channel_state.proofs.StateLaws.{end_done}
use Rattle.runs.specs.Run.{run, accepted, Judged, Newest}
use Rattle.runs.proofs.CutLaws.{run_keeps, tag-out}
use Rattle.runs.proofs.RunLaws.{open_message, run_tells, begin_exactly, crypted-opened, messages-crypted}
use Rattle.runs.proofs.DifferLaws.{all_blocks_differ, no_zero_block, marks-apart}
use Rattle.claims.specs.Demand3.{
  LedgerTellsTheHistory,
  NumbersAreJudgedByTheHistory,
  TaggedByItsFirstBlock,
  MessagesAreMadeOfTheirBlocks,
  BlocksOfAllMessagesDiffer,
  NoBlockIsZero,
  DifferentMarksShareNoBlock,
  BlocksOfOneMessageDiffer,
  DemandThree,
}

-- ---- the ledger

pub ledger_tells_the_history : LedgerTellsTheHistory
ledger_tells_the_history = run_tells

pub numbers_are_judged_by_the_history : NumbersAreJudgedByTheHistory
numbers_are_judged_by_the_history key mark t calls n ad r kept free short =
    subst (Judged (accepted (new_channel key mark t) calls) n) (sym kept.answer)
    (begin_exactly key mark t calls n (length ad) free short)

-- ---- the blocks

-- the definitions of ciphertext and tag say which blocks each is made of
pub messages_are_made_of_their_blocks : MessagesAreMadeOfTheirBlocks
unfolding crypted keystream whole_tag tag_by
messages_are_made_of_their_blocks =
    record {
      bytes = messages-crypted;
      tags = λ key mark t opened calls r kept done.
          let h = hash_key (enciphered key) in
          let c = run (new_channel key mark t) calls in
          let now = open_message key mark t calls (end_done c (sym kept.answer ∙ done)).1 in
          let m = now.message in
          let j = first_block h (iv_of mark m.number) in
          let first = ap (λ (s : List (List ℕ)). get_or s 0 []) (inputs_first j (blocks_for (length m.text))) in
          subst (Newest (TaggedByItsFirstBlock key mark t (tag_in r.answer))) (sym now.newest)
          (ap (take t) kept.tag
          ∙ tag-out key mark t opened c (run_keeps (new_channel key mark t) calls) m.number m.ad m.text now.holds
          ∙ ap₂ (λ (b d : List ℕ). take t (tag_by h (enciphered key) b m.ad d)) (sym first)
          (sym (crypted-opened key mark t opened m now.bytes)));
    }

pub blocks_of_all_messages_differ : BlocksOfAllMessagesDiffer
blocks_of_all_messages_differ = all_blocks_differ

pub no_block_is_zero : NoBlockIsZero
no_block_is_zero = no_zero_block

pub different_marks_share_no_block : DifferentMarksShareNoBlock
different_marks_share_no_block key mark mark' four four' apart t t' calls calls' small small' =
    marks-apart key mark t calls small key mark' t' calls' small' four four' apart

pub blocks_of_one_message_differ : BlocksOfOneMessageDiffer
blocks_of_one_message_differ key iv text fits i k less within =
    let size = length-inputs (first_block (hash_key (enciphered key)) iv) (blocks_for (length text)) in
    message_blocks_differ key iv text fits i k less (omega arith)

-- ---- the demand

pub demand_three : DemandThree
demand_three =
    record {
      ledger = ledger_tells_the_history;
      judged = numbers_are_judged_by_the_history;
      made = messages_are_made_of_their_blocks;
      differ = blocks_of_all_messages_differ;
      nonzero = no_block_is_zero;
      apart = different_marks_share_no_block;
      within = blocks_of_one_message_differ;
    }
