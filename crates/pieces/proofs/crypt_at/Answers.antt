-- Where the piece begins a block its counter is the one asked for; where it begins inside one, the rest of that block's keystream
-- is used up first, and whole blocks follow.
use mathlib.Core.Path.{◌≡◌, sym, ap, ◌∙◌}
use mathlib.Core.List.{List, ◌++◌}
use Prim.Native.Nat.{ℕ, ◌-◌, ◌/◌, ◌%◌, ◌<◌, min}
use native.Mathlib.Omega.{arith}
use lib.ListN.{length, take, drop, length-take, length-drop}
use lib.Seq.{take_all}
use Rattle.octets.specs.Bytes.{xored}
use Rattle.aes.specs.Under.{enciphered_under}
use Rattle.aes.proofs.CipherLaws.{length-enciphered}
use Rattle.counter.specs.Counter.{stepped, crypted}
use Rattle.counter.proofs.CryptLaws.{xored_only}
use Rattle.pieces.specs.Piece.{counter_at}
use Rattle.pieces.proofs.CryptAtLaws.{part, filled}
use Rattle.pieces.proofs.PieceLaws.{crypted_at-whole, crypted_at_fill}
use Rattle.pieces.proofs.crypt_at.Goals as goal

pub returns-then-held-eq0 : goal.returns-then-held-eq0
returns-then-held-eq0 c =
    let given = c.args in
    let e = enciphered_under given.cipher in
    let behind = drop (length given.piece.now) given.out.now in
    c.crypt.ensures
    ∙ ap (λ (j : List ℕ). crypted e j given.piece.now ++ behind) c.counter_at-counter.ensures
    ∙ ap (λ (s : List ℕ). s ++ behind)
    (sym (crypted_at-whole e given.iv given.before given.piece.now c.if-held-eq0.true))

pub returns : goal.returns
returns c =
    let given = c.args in
    let piece = given.piece.now in
    let out = given.out.now in
    let e = enciphered_under given.cipher in
    let iv = given.iv in
    let r = given.before % 16 in
    let j = stepped (counter_at iv (given.before / 16)) in
    let n = c.min-n.result in
    let wrote = c.xor_into.new.out in
    let sixteens = length-enciphered given.cipher.words.now given.cipher.rounds in
    let unequal : r ≡ 0 → ⊥ = c.if-held-eq0.false in
    let some : 0 < r = omega (arith, unequal) in
    let next-is : c.step-next.result ≡ j = c.step-next.ensures ∙ ap stepped c.counter_at-counter.ensures in
    let block-is : c.encipher-block.result ≡ e j = c.encipher-block.ensures ∙ ap e next-is in
    let size : length (drop r (e j)) ≡ 16 - r = length-drop r (e j) ∙ ap (λ (k : ℕ). k - r) (sixteens j) in
    let count : n ≡ min (length (drop r (e j))) (length piece) =
    c.min-n.ensures ∙ ap (λ (k : ℕ). min k (length piece)) (sym size) in
    let cut : take (16 - r) (drop r (e j)) ≡ drop r (e j) = take_all (16 - r) (drop r (e j)) (omega arith) in
    let first : wrote ≡ xored (take n piece) (drop r (e j)) =
    xored_only _ _ _ c.xor_into.ensures (simp length-take (omega (arith, c.requires.piece_in_bounds, c.min-n.ensures)))
    ∙ ap (xored (take n piece)) (ap (λ (b : List ℕ). take (16 - r) (drop r b)) block-is ∙ cut) in
    let then : c.crypt-2.new.out ≡ crypted e j (part n piece) ++ drop (length (part n piece)) (part n (wrote ++ drop n out)) =
    c.crypt-2.ensures
    ∙ ap (λ (i : List ℕ). crypted e i (part n piece) ++ drop (length (part n piece)) (part n (wrote ++ drop n out))) next-is in
    filled e j piece out (drop r (e j)) n count first then
    ∙ ap (λ (k : ℕ). (xored (take k piece) (drop r (e j)) ++ crypted e j (drop k piece)) ++ drop (length piece) out) size
    ∙ ap (λ (s : List ℕ). s ++ drop (length piece) out) (sym (crypted_at_fill e sixteens iv given.before piece some))
