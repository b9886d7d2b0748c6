-- `ewplander_channel_abandon` meets its contract: it is `told::abandoned` of a channel that is lent.
use mathlib.Core.Path.{refl}
use mathlib.Core.Bool.{true}
use base.Logic.{id⊢}
use Rattle.told.specs.contracts.abandoned as g
use Rattle.told.proofs.abandoned.Symbol as g-def
use Rattle.told.proofs.abandoned.Met as g-thm
use Rattle.lent.proofs.LentLaws.{lent_proved}
use Rattle.ewplander.proofs.ChannelLent.{channel}
use Rattle.ewplander.specs.contracts.ewplander_channel_abandon as f
use Rattle.ewplander.specs.contracts.ewplander_channel_abandon.Key as key
use Rattle.ewplander.proofs.ewplander_channel_abandon.Statement as stated
use Rattle.ewplander.proofs.ewplander_channel_abandon.Code as code

pub ewplander_channel_abandon_spec : {M : Type 1} → stated.statement M
ewplander_channel_abandon_spec 𝓤 𝓛 𝓜 𝓡 wired =
    lent_proved 𝓛 𝓜 𝓡 true channel g.signature (λ κs a. (f.clauses 𝓛 𝓜.mem 𝓡.returns κs a).ensures tt)
    (λ κs a. (g.clauses 𝓛 𝓜.mem 𝓡.returns κs a).ensures tt) 𝓡.env code.function g-def.name
    (λ κs x a r ws. id⊢ 𝓤 _) (λ κs. tt)
    (λ κs a t. record { body_is = refl; fits = λ bs b o u. (((tt, tt), t), tt, refl, tt, refl) })
    key.name (code.unfolded 𝓤 𝓛.H 𝓜 𝓡 wired) (𝓡.env g-def.name) refl
    (g-thm.met 𝓤 𝓛 𝓜 𝓡 (code.calls-told::abandoned 𝓡.env wired))
