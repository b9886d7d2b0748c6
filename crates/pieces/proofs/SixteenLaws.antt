-- The sixteen bytes of a list: their length, and each of them.
use mathlib.Core.Path.{◌≡◌, refl, sym, ap, ap₂, ◌∙◌}
use mathlib.Core.List.{List, ◌∷◌, ◌++◌}
use Prim.Native.Nat.{ℕ, zero, suc, ◌+◌, ◌-◌, ◌<◌, ◌≤◌, min}
use native.Mathlib.Omega.{arith}
use lib.ListN.{length, length-append, length-take, length-drop, length-replicate, get_or, get_or-append, take, drop, replicate}
use borrow.Rule.Slice.PartMut.{put_mid}
use lib.Seq.{take_all, take_at, drop_at, get_or-take, length-take-le, drop-drop, get_or-append_right}
use native.Mathlib.Decide.{dec_lt}
use Rattle.octets.proofs.ElementsLaws.{elements, elements_at, zeros_behind}
use Rattle.pieces.specs.Piece.{sixteen}
use Rattle.pieces.proofs.HeldLaws.{sixteen-take}

pub sixteen_at : (s : List ℕ) (i : ℕ) → i < 16 → get_or (sixteen s) i 0 ≡ get_or s i 0
unfolding sixteen
sixteen_at s i h =
    let here : 0 + i ≡ i = omega arith in
    elements_at 16 s 0 i h ∙ ap (λ (j : ℕ). get_or s j 0) here

pub length-sixteen : (s : List ℕ) → length (sixteen s) ≡ 16
unfolding sixteen
length-sixteen s = refl

-- those of a whole block are the block
pub sixteen-whole : (s : List ℕ) → length s ≡ 16 → sixteen s ≡ s
sixteen-whole s whole =
    let size : length (sixteen s) ≡ 16 = length-sixteen s in
    sym (take_all (length s) (sixteen s) (omega arith)) ∙ sixteen-take s (omega arith)

-- no more of a whole block than there is of it
pub sixteen_taken : (s : List ℕ) (n : ℕ) → length s ≡ 16 → 16 ≤ n → sixteen (take n s) ≡ s
sixteen_taken s n whole long = ap sixteen (take_all n s (omega arith)) ∙ sixteen-whole s whole

same_elements : (n : ℕ) (s t : List ℕ) (i : ℕ) → ((k : ℕ) → k < i + n → get_or s k 0 ≡ get_or t k 0) → elements n s i ≡ elements n t i
same_elements zero s t i same = refl
same_elements (suc n) s t i same =
    ap₂ {C = List ℕ} (λ x r. x ∷ r) (same i (omega arith)) (same_elements n s t (suc i) (λ k h. same k (omega arith)))

-- n bytes of the front, as many as fit, then m of the back, and zeros
module _ (front back : List ℕ) (n m : ℕ) (fit : n ≡ min (length front) 16) (rest_fit : m ≡ min (length back) (16 - n)) where
  abbrev rest : List ℕ
  rest = take m back ++ drop m (drop n (replicate 16 0))

  rest_at : (i : ℕ) → i < 16 - n → get_or rest i 0 ≡ get_or back i 0
  rest_at i h =
      ap (λ (t : List ℕ). get_or (take m back ++ t) i 0) (drop-drop m n (replicate 16 0))
      ∙ zeros_behind (take m back) (n + m) 16 i
      ∙ go (dec_lt i m)
    where
      go : Dec (i < m) → get_or (take m back) i 0 ≡ get_or back i 0
      go (yes inside) = get_or-take m back i 0 inside
      go (no past) = ap (λ (t : List ℕ). get_or t i 0) (take_all m back (omega arith))

  joined_at : (i : ℕ) → i < 16 → get_or (take n front ++ rest) i 0 ≡ get_or (front ++ back) i 0
  joined_at i h = go (dec_lt i (length front))
    where
      size : length (take n front) ≡ n
      size = length-take-le n front (omega arith)

      go : Dec (i < length front) → get_or (take n front ++ rest) i 0 ≡ get_or (front ++ back) i 0
      go (yes inside) =
          get_or-append (take n front) rest 0 i (omega (arith, size))
          ∙ get_or-take n front i 0 (omega arith)
          ∙ sym (get_or-append front back 0 i inside)
      go (no past) =
          let all : n ≡ length front = omega arith in
          get_or-append_right (take n front) rest i 0 (omega (arith, size))
          ∙ ap (λ (k : ℕ). get_or rest (i - k) 0) size
          ∙ rest_at (i - n) (omega arith)
          ∙ ap (λ (k : ℕ). get_or back (i - k) 0) all
          ∙ sym (get_or-append_right front back i 0 (omega arith))

  length-joined : length (take n front ++ rest) ≡ 16
  length-joined = simp (length-append, length-take, length-drop, length-replicate) (omega arith)

  sixteen-joined : take n front ++ rest ≡ sixteen (front ++ back)
  unfolding sixteen
  sixteen-joined =
      sym (sixteen-whole (take n front ++ rest) length-joined)
      ∙ same_elements 16 (take n front ++ rest) (front ++ back) 0 (λ i h. joined_at i h)

  -- copied one after the other to sixteen zeros, they are the first sixteen bytes of the two
  pub sixteen_put : {first second : List ℕ} → first ≡ take n front → second ≡ take m back
      → put_mid n (n + m - n) (first ++ drop n (replicate 16 0)) second ≡ sixteen (front ++ back)
  sixteen_put {first} {second} front-is back-is =
      let size : length first ≡ n = ap length front-is ∙ length-take-le n front (omega arith) in
      let span : n + m - n ≡ m = omega arith in
      ap₂ (λ (a b : List ℕ). a ++ (second ++ drop (n + m - n) b))
      (take_at first (drop n (replicate 16 0)) n size ∙ front-is)
      (drop_at first (drop n (replicate 16 0)) n size)
      ∙ ap₂ (λ (s : List ℕ) (k : ℕ). take n front ++ (s ++ drop k (drop n (replicate 16 0)))) back-is span
      ∙ sixteen-joined
