-- A function's locals, all at once: they are allocated, the parameters are stored, each is read and written by its number, and all
-- are freed. Each law is an induction along the locals, since a walk's context is `Φ ++ slots E ms`: what the walk owns besides, and
-- then for each local its cell and what frees it.
use mathlib.Core.Path.{◌≡◌, refl, sym, subst, ap, ◌∙◌}
use mathlib.Core.Bool.{Bool, true, false, ◌&&◌}
use mathlib.Core.Option.{Option, none, some}
use mathlib.Core.List.{List, [], ◌∷◌, ◌++◌, tail, append_assoc}
use native.Mathlib.Omega.{arith}
use Prim.Native.Nat.{ℕ, zero, suc, ◌+◌}
use lib.Dec.{T}
use lib.ListN.{get_or}
use seplogic.Ra.Ura.{Ura}
use base.Fraction.{full_share}
use mir.Syntax.{Sym, Ty, Tys, ty_struct, ty_enum, ttnil, Local, local, Opd, copy, place}
use mir.Fields.{get_v, set_v}
use mir.Val.{Val, Vals, vstruct, has_ty, WT}
use base.Logic.{ent, sep, via, comm∗}
use base.Fml.{froom, fat, fdies}
use prog.Memory.{field_at}
use types.Logic.{Logic}
use types.Kit.{Item, ‵, Goal, allocs, params', passes, frees, Seq, ◌$◌, by, ⋆, nth, put, ++⊢, ⊢++, cut⊢, aim}
use types.Run.{Reads, Writes, Opds, look, init, forget, load, from, stop, and_then, no_more, alloc1, alloc0, params1, pass1, pass0, free1, free0}
use types.Part.{Part, whole, sub, look_in}

-- ---- what the locals hold: nothing yet, or a value
abbrev pub first : List (Option Val) → Option Val
first [] = none
first (m ∷ ms) = m

abbrev pub held : List (Option Val) → ℕ → Option Val
held ms zero = first ms
held ms (suc i) = held (tail ms) i

abbrev pub all_held : List (Option Val) → List ℕ → List (Option Val)
all_held ms [] = []
all_held ms (i ∷ is) = held ms i ∷ all_held ms is

abbrev pub hold : List (Option Val) → ℕ → Val → List (Option Val)
hold ms zero v = some v ∷ tail ms
hold ms (suc i) v = first ms ∷ hold (tail ms) i v

abbrev pub holds : List Val → List (Option Val)
holds [] = []
holds (v ∷ vs) = some v ∷ holds vs

pub held_there : (ms : List (Option Val)) (i : ℕ) (v : Val) → held (hold ms i v) i ≡ some v
held_there ms zero v = refl
held_there ms (suc i) v = held_there (tail ms) i v

-- a local that is written leaves the others as they are
pub held_elsewhere : (ms : List (Option Val)) (i j : ℕ) (v : Val) → (i ≡ j → ⊥) → held (hold ms i v) j ≡ held ms j
held_elsewhere ms zero zero v apart = absurd (apart refl)
held_elsewhere ms zero (suc j) v apart = refl
held_elsewhere ms (suc i) zero v apart = refl
held_elsewhere ms (suc i) (suc j) v apart = held_elsewhere (tail ms) i j v (λ e. apart (ap suc e))

-- ---- the locals' types, each with its block
abbrev pub Locals : Type 0
Locals = List (Ty × ℕ)

abbrev pub at : Locals → ℕ → Ty × ℕ
at E i = get_or E i (ty_enum [] ttnil, zero)

abbrev pub there : Locals → ℕ → Bool
there [] i = false
there (e ∷ E) zero = true
there (e ∷ E) (suc i) = there E i

abbrev pub all_there : Locals → List ℕ → Bool
all_there E [] = true
all_there E (i ∷ is) = there E i && all_there E is

pub and_T : (x y : Bool) → T (x && y) → T x × T y
and_T true y h = (tt, h)
and_T false y h = absurd h

-- values fit the locals that they are stored in: the parameters are the locals after the result
abbrev Fit : Locals → List Val → Type 0
Fit E [] = Unit {0}
Fit [] (v ∷ vs) = ⊥
Fit (e ∷ E) (v ∷ vs) = (T (has_ty e.0 v) × WT v) × Fit E vs

abbrev pub FitParams : Locals → List Val → Type 0
FitParams [] vs = ⊥
FitParams (e ∷ E) vs = Fit E vs

abbrev pub Blocks : List Local → Type 0
Blocks [] = Unit {0}
Blocks (l ∷ ls) = ℕ × Blocks ls

abbrev pub placed : (ls : List Local) → Blocks ls → Locals
placed [] bs = []
placed (local τ h ∷ ls) bs = (τ, bs.0) ∷ placed ls bs.1

abbrev pub copies : List ℕ → List Opd
copies [] = []
copies (i ∷ is) = copy (place i []) ∷ copies is

-- ---- the locals in a context, with two entries each
abbrev pos : ℕ → ℕ
pos zero = zero
pos (suc i) = suc (suc (pos i))

module _ {M : Type 1} {𝓤 : Ura M} where
  abbrev cell : Ty × ℕ → Option Val → Item 𝓤
  cell e none = ‵ (froom e.0 e.1 zero)
  cell e (some v) = ‵ (fat full_share e.0 e.1 zero v)

  abbrev pub slots : Locals → List (Option Val) → List (Item 𝓤)
  slots [] ms = []
  slots (e ∷ E) ms = cell e (first ms) ∷ ‵ (fdies e.0 e.1) ∷ slots E (tail ms)

  abbrev shift : List (Item 𝓤) → ℕ → ℕ
  shift [] n = n
  shift (x ∷ Φ) n = suc (shift Φ n)

module _ {M : Type 1} {𝓤 : Ura M} (𝓛 : Logic 𝓤) where
  nth_slot : (Φ : List (Item 𝓤)) (E : Locals) (ms : List (Option Val)) (i : ℕ) → T (there E i)
      → nth 𝓛 (shift Φ (pos i)) (Φ ++ slots E ms) ≡ cell (at E i) (held ms i)
  nth_slot (x ∷ Φ) E ms i h = nth_slot Φ E ms i h
  nth_slot [] [] ms i h = absurd h
  nth_slot [] (e ∷ E) ms zero h = refl
  nth_slot [] (e ∷ E) ms (suc i) h = nth_slot [] E (tail ms) i h

  put_slot : (Φ : List (Item 𝓤)) (E : Locals) (ms : List (Option Val)) (i : ℕ) (v : Val) → T (there E i)
      → put 𝓛 (shift Φ (pos i)) (cell (at E i) (some v)) (Φ ++ slots E ms) ≡ Φ ++ slots E (hold ms i v)
  put_slot (x ∷ Φ) E ms i v h = ap (λ (l : List (Item 𝓤)). x ∷ l) (put_slot Φ E ms i v h)
  put_slot [] [] ms i v h = absurd h
  put_slot [] (e ∷ E) ms zero v h = refl
  put_slot [] (e ∷ E) ms (suc i) v h =
      ap (λ (l : List (Item 𝓤)). cell e (first ms) ∷ ‵ (fdies e.0 e.1) ∷ l) (put_slot [] E (tail ms) i v h)

  -- two parts of a context, the other way round
  turned : (Δ Γ : List (Item 𝓤)) → ent 𝓤 (⋆ 𝓛 (Δ ++ Γ)) (⋆ 𝓛 (Γ ++ Δ))
  turned Δ Γ = via 𝓤 (sep 𝓤 (⋆ 𝓛 Δ) (⋆ 𝓛 Γ)) (⊢++ 𝓛 Δ Γ)
      (via 𝓤 (sep 𝓤 (⋆ 𝓛 Γ) (⋆ 𝓛 Δ)) (comm∗ 𝓤 (⋆ 𝓛 Δ) (⋆ 𝓛 Γ)) (++⊢ 𝓛 Γ Δ))

-- ---- one local
module _ {M : Type 1} {𝓤 : Ura M} {𝓛 : Logic 𝓤} {K : Type 0} (t : K) (Φ : List (Item 𝓤)) (E : Locals)
    (ms : List (Option Val)) where
  -- it is read, or a field of what it holds is,
  pub sees : (i : ℕ) {v : Val} → T (there E i) → held ms i ≡ some v → Reads K 𝓛 (Φ ++ slots E ms) (at E i).0 (at E i).1 zero v
  sees i h e = look t (shift Φ (pos i)) (nth_slot 𝓛 Φ E ms i h ∙ ap (cell (at E i)) e)

  pub sees_in : (i : ℕ) {ν : Sym} {τs : Tys} {vs : Vals} → T (there E i) → (at E i).0 ≡ ty_struct ν τs → held ms i ≡ some (vstruct vs)
      → (k : ℕ) {τ : Ty} {d : ℕ} → field_at zero τs k ≡ some (τ, d)
      → Reads K 𝓛 (Φ ++ slots E ms) τ (at E i).1 (zero + d) (get_v vs k)
  sees_in i {ν} {τs} {vs} h is-τ e k {τ} {d} at-k = look_in t (shift Φ (pos i))
      (subst (λ (j : Item 𝓤). Part K 𝓛 j full_share τ (at E i).1 (zero + d) (get_v vs k)
      (λ u. ‵ (fat full_share (ty_struct ν τs) (at E i).1 zero (vstruct (set_v vs k u)))))
      (sym (nth_slot 𝓛 Φ E ms i h ∙ ap (cell (at E i)) e
      ∙ ap (λ (σ : Ty). ‵ (fat full_share σ (at E i).1 zero (vstruct vs))) is-τ)) (sub t k at-k (whole t)))

  -- it is written for the first time,
  pub sets : (i : ℕ) {v : Val} → T (there E i) → held ms i ≡ none → T (has_ty (at E i).0 v) × WT v
      → Writes K 𝓛 (Φ ++ slots E ms) (at E i).0 (at E i).1 zero v (Φ ++ slots E (hold ms i v))
  sets i {v} h e wt =
      subst (λ (Γ : List (Item 𝓤)). Writes K 𝓛 (Φ ++ slots E ms) (at E i).0 (at E i).1 zero v Γ) (put_slot 𝓛 Φ E ms i v h)
      (init t (shift Φ (pos i)) (nth_slot 𝓛 Φ E ms i h ∙ ap (cell (at E i)) e) wt)

  -- and several are read, as a call's arguments are
  pub sees_all : (is : List ℕ) (vs : List Val) → T (all_there E is) → all_held ms is ≡ holds vs
      → Opds K 𝓛 (Φ ++ slots E ms) E (copies is) vs
  sees_all [] [] h e = no_more t
  sees_all [] (v ∷ vs) h e = let z : ◌≡◌ {A = ℕ} 0 1 = cc in let no : ⊥ = omega arith in absurd no
  sees_all (i ∷ is) [] h e = let z : ◌≡◌ {A = ℕ} 0 1 = cc in let no : ⊥ = omega arith in absurd no
  sees_all (i ∷ is) (v ∷ vs) h e =
      and_then t (load t (from t (stop t)) (sees i (and_T (there E i) (all_there E is) h).0 (ap first e)))
      (sees_all is vs (and_T (there E i) (all_there E is) h).1 (ap tail e))

-- ---- all of them
module _ {M : Type 1} {𝓤 : Ura M} {𝓛 : Logic 𝓤} {K : Type 0} where
  open 𝓛 use {H}

  pub all_allocated : K → {Γ : List (Item 𝓤)} (ls : List Local) {Kt : Locals → Goal 𝓤 H}
      → ((bs : Blocks ls) → Seq K 𝓛 (slots (placed ls bs) [] ++ Γ) (Kt (placed ls bs))) → Seq K 𝓛 Γ (allocs ls Kt)
  all_allocated t [] k = alloc0 t $ k tt
  all_allocated t {Γ} (local τ h ∷ ls) {Kt} k =
      alloc1 t (λ b. all_allocated t {Γ = ‵ (froom τ b zero) ∷ ‵ (fdies τ b) ∷ Γ} ls (λ bs.
      let Δ : List (Item 𝓤) = slots (placed ls bs) [] in
      let Θ : List (Item 𝓤) = ‵ (froom τ b zero) ∷ ‵ (fdies τ b) ∷ [] in
      by t (rw append_assoc at (cut⊢ 𝓛 (Δ ++ Θ) (Θ ++ Δ) Γ (aim 𝓤 H (Kt ((τ, b) ∷ placed ls bs))) (turned 𝓛 Δ Θ)
      (k (b, bs)).prf))))

  all_passed : K → (Φ : List (Item 𝓤)) (E : Locals) (vs : List Val) {g : Goal 𝓤 H} → Fit E vs → Seq K 𝓛 (Φ ++ slots E (holds vs)) g
      → Seq K 𝓛 (Φ ++ slots E []) (passes E vs g)
  all_passed t Φ E [] h s = pass0 t $ s
  all_passed t Φ [] (v ∷ vs) h s = absurd h
  all_passed t Φ (e ∷ E) (v ∷ vs) {g} h s =
      let Δ : List (Item 𝓤) = cell e (some v) ∷ ‵ (fdies e.0 e.1) ∷ [] in
      pass1 t (sets t Φ (e ∷ E) [] 0 tt refl h.0) $
      rw append_assoc at (all_passed t (Φ ++ Δ) E vs {g = g} h.1 (rw append_assoc s))

  pub all_stored : K → (E : Locals) (vs : List Val) (Φ : List (Item 𝓤)) {g : Goal 𝓤 H} → FitParams E vs
      → Seq K 𝓛 (Φ ++ slots E (none ∷ holds vs)) g → Seq K 𝓛 (slots E [] ++ Φ) (params' E vs g)
  all_stored t [] vs Φ h s = absurd h
  all_stored t (e ∷ E) vs Φ {g} h s =
      let Δ : List (Item 𝓤) = cell e none ∷ ‵ (fdies e.0 e.1) ∷ [] in
      by t (via 𝓤 (⋆ 𝓛 (Φ ++ slots (e ∷ E) [])) (turned 𝓛 (slots (e ∷ E) []) Φ) (params1 t {e = e} $
      rw append_assoc at (all_passed t (Φ ++ Δ) E vs {g = g} h (rw append_assoc s))).prf)

  freed_here : K → {Γ : List (Item 𝓤)} (E : Locals) (ms : List (Option Val)) {g : Goal 𝓤 H} → Seq K 𝓛 Γ g
      → Seq K 𝓛 (slots E ms ++ Γ) (frees E g)
  freed_here t [] ms s = free0 t $ s
  freed_here t (e ∷ E) [] s = free1 t $ freed_here t E [] s
  freed_here t (e ∷ E) (none ∷ ms) s = free1 t $ freed_here t E ms s
  freed_here t (e ∷ E) (some v ∷ ms) s = forget t 0 refl $ free1 t $ freed_here t E ms s

  pub all_freed : K → (Φ : List (Item 𝓤)) (E : Locals) (ms : List (Option Val)) {g : Goal 𝓤 H} → Seq K 𝓛 Φ g
      → Seq K 𝓛 (Φ ++ slots E ms) (frees E g)
  all_freed t Φ E ms s =
      by t (via 𝓤 (⋆ 𝓛 (slots E ms ++ Φ)) (turned 𝓛 Φ (slots E ms)) (freed_here t E ms s).prf)
