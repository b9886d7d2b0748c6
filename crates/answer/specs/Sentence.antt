-- The sentence that says each refusal.
use Rattle.std.specs.Prelude.{ℕ, List, codes}
use Rattle.answer.specs.declared.Refusal.{Refusal}
use Rattle.answer.specs.declared.Refusal.TheVariants.{
  KeyLength,
  IvLength,
  TagLength,
  AdLong,
  TextLong,
  SealedShort,
  OutputShort,
  TagDiffers,
  WrongPhase,
  Stale,
  Used,
}

abbrev pub sentence : Refusal → List ℕ
sentence KeyLength = codes "the key has neither 16 nor 32 bytes"
sentence IvLength = codes "the IV does not have 1 to 128 bytes"
sentence TagLength = codes "the tag is not to have 12 to 16 bytes"
sentence AdLong = codes "the associated data has more than 65,536 bytes"
sentence TextLong = codes "the text has more than 65,536 bytes"
sentence SealedShort = codes "the sealed bytes are fewer than the tag's"
sentence OutputShort = codes "the output is shorter than what is to be written"
sentence TagDiffers = codes "the tag is not the one that these bytes have"
sentence WrongPhase = codes "the channel is in another phase, or dead"
sentence Stale = codes "the number lies too far below the highest accepted"
sentence Used = codes "the number was accepted before"
