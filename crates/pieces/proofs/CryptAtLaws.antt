-- A piece that begins inside a block: the bytes written by the rest of that block and then those crypted behind them are the
-- piece's, since a list cut at its length or at a place behind it is cut the same.
use mathlib.Core.Path.{◌≡◌, sym, ap, ap₂, ◌∙◌}
use mathlib.Core.List.{List, [], ◌++◌, append_assoc, append-nil}
use Prim.Native.Nat.{ℕ, ◌+◌, ◌-◌, min}
use native.Mathlib.Omega.{arith}
use lib.ListN.{length, take, drop, length-take, length-drop, drop_of_length-le}
use lib.Seq.{take_all, take_at, drop_at, drop-drop}
use borrow.Rule.Slice.PartMut.{put_mid}
use Rattle.std.proofs.lemmas.List.{take_min, drop_min}
use Rattle.octets.specs.Bytes.{xored}
use Rattle.octets.proofs.BytesLaws.{length-xored}
use Rattle.counter.specs.Counter.{crypted}

-- the elements from n on, as a part of a slice gives them
abbrev pub part : ℕ → List ℕ → List ℕ
part n s = take (length s - n) (drop n s)

pub part-drop : (n : ℕ) (s : List ℕ) → part n s ≡ drop n s
part-drop n s = take_all (length s - n) (drop n s) (rw (length-drop n s) (omega arith))

-- `rest` is what is left of the block's keystream; `wrote` stands in the buffer where it reaches, and `last` behind that at the end
pub filled : (e : List ℕ → List ℕ) (j piece out rest : List ℕ) (n : ℕ) {wrote last : List ℕ} → n ≡ min (length rest) (length piece)
    → wrote ≡ xored (take n piece) rest
    → last ≡ crypted e j (part n piece) ++ drop (length (part n piece)) (part n (wrote ++ drop n out))
    → put_mid n (length (wrote ++ drop n out) - n) (wrote ++ drop n out) last
    ≡ (xored (take (length rest) piece) rest ++ crypted e j (drop (length rest) piece)) ++ drop (length piece) out
filled e j piece out rest n {wrote} {last} count first then =
    let m = length rest in
    let front = xored (take m piece) rest in
    let behind = crypted e j (drop m piece) in
    let left = drop (length piece) out in
    let out₁ = wrote ++ drop n out in
    let wrote-is : wrote ≡ front =
    first ∙ ap (λ (s : List ℕ). xored s rest) (ap (λ (k : ℕ). take k piece) count ∙ take_min m piece) in
    let size : length wrote ≡ n = ap length wrote-is ∙ rw (length-xored (take m piece) rest, length-take m piece) (omega arith) in
    let head : take n out₁ ≡ front = take_at wrote (drop n out) n size ∙ wrote-is in
    let tail : drop n out₁ ≡ drop n out = drop_at wrote (drop n out) n size in
    let piece-left : part n piece ≡ drop m piece =
    part-drop n piece ∙ ap (λ (k : ℕ). drop k piece) count ∙ drop_min m piece in
    let less : length (part n piece) ≡ length piece - n = ap length (part-drop n piece) ∙ length-drop n piece in
    let all : n + length (part n piece) ≡ length piece = omega arith in
    let end : drop (length (part n piece)) (part n out₁) ≡ left =
    ap (drop (length (part n piece))) (part-drop n out₁ ∙ tail)
    ∙ drop-drop (length (part n piece)) n out
    ∙ ap (λ (k : ℕ). drop k out) all in
    let none : drop (length out₁ - n) (drop n out₁) ≡ [] =
    drop_of_length-le (drop n out₁) {i = length out₁ - n} (rw (length-drop n out₁) (omega arith)) in
    let last-is : last ≡ behind ++ left = then ∙ ap₂ (λ (a b : List ℕ). crypted e j a ++ b) piece-left end in
    ap₂ (λ (a b : List ℕ). a ++ (last ++ b)) head none
    ∙ ap (λ (a : List ℕ). front ++ a) (append-nil last ∙ last-is)
    ∙ sym (append_assoc front behind left)
