-- So many elements of a list, written one by one: what stands at each place, in front and past the list's end. Each law is an
-- induction on how many they are.
use mathlib.Core.Path.{◌≡◌, refl, ap, ap₂, ◌∙◌}
use mathlib.Core.List.{List, [], ◌∷◌, ◌++◌}
use Prim.Native.Nat.{ℕ, zero, suc, ◌+◌, ◌≤◌, ◌<◌}
use native.Mathlib.Nat.{not-suc-le-zero}
use native.Mathlib.Omega.{arith}
use lib.ListN.{length, get_or, take, drop, replicate, get_or-append, get_or-eq_default}
use lib.Seq.{drop-cons, get_or-drop}

-- n elements of s, from element i on, with zeros past its end
abbrev pub elements : ℕ → List ℕ → ℕ → List ℕ
elements zero s i = []
elements (suc n) s i = get_or s i 0 ∷ elements n s (suc i)

pub elements_at : (n : ℕ) (s : List ℕ) (i k : ℕ) → k < n → get_or (elements n s i) k 0 ≡ get_or s (i + k) 0
elements_at zero s i k h = absurd (omega arith)
elements_at (suc n) s i zero h = ap (λ m. get_or s m 0) (omega arith)
elements_at (suc n) s i (suc k) h = elements_at n s (suc i) k (omega arith) ∙ ap (λ m. get_or s m 0) (omega arith)

pub length-elements : (n : ℕ) (s : List ℕ) (i : ℕ) → length (elements n s i) ≡ n
length-elements zero s i = refl
length-elements (suc n) s i = ap suc (length-elements n s (suc i))

pub elements_front : (n : ℕ) (c d : List ℕ) (i : ℕ) → i + n ≤ length c → elements n (c ++ d) i ≡ elements n c i
elements_front zero c d i h = refl
elements_front (suc n) c d i h =
    ap₂ {C = List ℕ} (λ x r. x ∷ r) (get_or-append c d 0 i (omega arith)) (elements_front n c d (suc i) (omega arith))

pub elements_take : (k n : ℕ) (s : List ℕ) (i : ℕ) → k ≤ n → i + k ≤ length s → take k (elements n s i) ≡ take k (drop i s)
elements_take zero n s i h m = refl
elements_take (suc k) zero s i h m = absurd (not-suc-le-zero h)
elements_take (suc k) (suc n) s i h m =
    rw (drop-cons s i 0 (omega arith))
    (ap {B = List ℕ} (λ r. get_or s i 0 ∷ r) (elements_take k n s (suc i) (omega arith) (omega arith)))

pub elements_past : (n : ℕ) (s : List ℕ) (i k : ℕ) → length s ≤ i + k → get_or (elements n s i) k 0 ≡ 0
elements_past zero s i k h = refl
elements_past (suc n) s i zero h = get_or-eq_default s 0 (omega arith)
elements_past (suc n) s i (suc k) h = elements_past n s (suc i) k (omega arith)

zeros : (n i : ℕ) → get_or {A = ℕ} (replicate n 0) i 0 ≡ 0
zeros zero i = refl
zeros (suc n) zero = refl
zeros (suc n) (suc i) = zeros n i

-- zeros behind a list are what stands past its end
pub zeros_behind : (s : List ℕ) (k n i : ℕ) → get_or (s ++ drop k (replicate n 0)) i 0 ≡ get_or s i 0
zeros_behind [] k n i = get_or-drop k (replicate n 0) i 0 ∙ zeros n (k + i)
zeros_behind (a ∷ s) k n zero = refl
zeros_behind (a ∷ s) k n (suc i) = zeros_behind s k n i
