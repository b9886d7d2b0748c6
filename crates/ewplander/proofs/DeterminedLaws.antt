-- Two results that the promise of a call for C and Rust allows for one input are equal: whatever outcomes stand behind them, their
-- numbers, counts, tags, channels and bytes follow from the input.
use mathlib.Core.Path.{◌≡◌}
use mathlib.Core.List.{List}
use Prim.Native.Nat.{ℕ}
use Rattle.channel_state.specs.declared.Channel.{Channel}
use Rattle.told.specs.Call.{OpeningCall, BeginCall, FeedCall, FinishCall, AbandonCall}
use Rattle.ewplander.specs.Call.{SealCall, OpenCall}

pub seal_call_determined : (key iv ad text : List ℕ) (t : ℕ) (out : List ℕ) {n n' count count' : ℕ} {left left' : List ℕ}
    → SealCall key iv ad text t out n count left
    → SealCall key iv ad text t out n' count' left'
    → (n ≡ n') × (count ≡ count') × (left ≡ left')
seal_call_determined key iv ad text t out one two = (cc, cc, cc)

pub open_call_determined : (key iv ad s : List ℕ) (t : ℕ) (out : List ℕ) {n n' count count' : ℕ} {left left' : List ℕ}
    → OpenCall key iv ad s t out n count left
    → OpenCall key iv ad s t out n' count' left'
    → (n ≡ n') × (count ≡ count') × (left ≡ left')
open_call_determined key iv ad s t out one two = (cc, cc, cc)

pub opening_call_determined : (key mark : List ℕ) (t : ℕ) {n n' : ℕ} {after after' : Channel} → OpeningCall key mark t n after
    → OpeningCall key mark t n' after'
    → (n ≡ n') × (after ≡ after')
opening_call_determined key mark t one two = (cc, cc)

pub begin_call_determined : (c : Channel) (number : ℕ) (ad : List ℕ) {n n' : ℕ} {after after' : Channel}
    → BeginCall c number ad n after
    → BeginCall c number ad n' after'
    → (n ≡ n') × (after ≡ after')
begin_call_determined c number ad one two = (cc, cc)

pub feed_call_determined : (c : Channel) (piece out : List ℕ) {n n' : ℕ} {after after' : Channel} {left left' : List ℕ}
    {count count' : ℕ}
    → FeedCall c piece out n after left count
    → FeedCall c piece out n' after' left' count'
    → (n ≡ n') × (after ≡ after') × (left ≡ left') × (count ≡ count')
feed_call_determined c piece out one two = (cc, cc, cc, cc)

pub finish_call_determined : (c : Channel) {n n' : ℕ} {after after' : Channel} {tag tag' : List ℕ} → FinishCall c n after tag
    → FinishCall c n' after' tag'
    → (n ≡ n') × (after ≡ after') × (tag ≡ tag')
finish_call_determined c one two = (cc, cc, cc)

pub abandon_call_determined : (c : Channel) {n n' : ℕ} {after after' : Channel} → AbandonCall c n after → AbandonCall c n' after'
    → (n ≡ n') × (after ≡ after')
abandon_call_determined c one two = (cc, cc)
