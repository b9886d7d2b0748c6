-- The channel as it is lent, and `told::Told` as a callee answers with it.
use mathlib.Core.Path.{refl}
use denote.Struct.Laws as LL
use Rattle.channel_state.specs.contracts.Channel as C
use Rattle.channel_state.proofs.Channel.TheLaws as C-laws
use Rattle.told.specs.contracts.Told as T
use Rattle.told.proofs.Told.TheLaws as T-laws
use Rattle.lent.proofs.WalkLaws.{Lent}

abbrev pub channel : Lent
channel = record {
  Struct = C.the_type;
  struct_laws = C-laws.the_laws;
  struct_plain = C-laws.the_plain;
  Answer = T.the_type;
  answer_laws = T-laws.the_laws;
  number = λ r. r.number;
  stored = λ r. r.channel;
  answer_type = refl;
  answer_value = λ r. refl;
  owed = λ r vs is. ((LL.owed T.the_type T-laws.the_laws r vs is).0.1, (LL.owed T.the_type T-laws.the_laws r vs is).1.0);
}
