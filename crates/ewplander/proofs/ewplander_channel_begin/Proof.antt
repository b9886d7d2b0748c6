-- `ewplander_channel_begin` meets its contract: it is `told::begun` of a channel that is lent.
use mathlib.Core.Path.{refl}
use mathlib.Core.Bool.{true}
use mir.Syntax.{w64}
use base.Logic.{id⊢}
use denote.Builtin.{u8}
use Rattle.told.specs.contracts.begun as g
use Rattle.told.proofs.begun.Symbol as g-def
use Rattle.told.proofs.begun.Met as g-thm
use Rattle.lent.proofs.LentLaws.{lent_proved, slice_in, word}
use Rattle.ewplander.proofs.ChannelLent.{channel}
use Rattle.ewplander.specs.contracts.ewplander_channel_begin as f
use Rattle.ewplander.specs.contracts.ewplander_channel_begin.Key as key
use Rattle.ewplander.proofs.ewplander_channel_begin.Statement as stated
use Rattle.ewplander.proofs.ewplander_channel_begin.Code as code

pub ewplander_channel_begin_spec : {M : Type 1} → stated.statement M
ewplander_channel_begin_spec 𝓤 𝓛 𝓜 𝓡 wired =
    lent_proved 𝓛 𝓜 𝓡 true channel g.signature (λ κs a. (f.clauses 𝓛 𝓜.mem 𝓡.returns κs a).ensures tt)
    (λ κs a. (g.clauses 𝓛 𝓜.mem 𝓡.returns κs a).ensures tt) 𝓡.env code.function g-def.name
    (λ κs x a r ws. id⊢ 𝓤 _) (λ κs. (word w64, (slice_in u8, tt)))
    (λ κs a t. record { body_is = refl; fits = λ bs b o u. (((tt, tt), t), tt, refl, tt, refl) })
    key.name (code.unfolded 𝓤 𝓛.H 𝓜 𝓡 wired) (𝓡.env g-def.name) refl
    (g-thm.met 𝓤 𝓛 𝓜 𝓡 (code.calls-told::begun 𝓡.env wired))
