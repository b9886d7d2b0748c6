-- A `&mut` that is passed on is lent again, into a local of its own. To the machine that is a copy of its pointer, and for a slice
-- of its length too: so the callee is called on the values that the parameters have.
use mathlib.Core.Path.{◌≡◌, refl, ap}
use mathlib.Core.Bool.{◌&&◌}
use mathlib.Core.Option.{Option, none, some}
use mathlib.Core.List.{List, [], ◌∷◌, ◌++◌}
use Prim.Native.Nat.{ℕ, suc, ◌≤◌}
use native.Mathlib.Omega.{arith}
use lib.Dec.{T}
use seplogic.Ra.Ura.{Ura}
use mir.Syntax.{Ty, copy, place, deref, field, Body, seq, assign, addr_of, aggregate}
use mir.Val.{Val, vptr, has_ty, WT}
use prog.Memory.{field_of}
use prog.Wp.{Calls, Loops}
use types.Logic.{Logic}
use types.Kit.{Item, Post, runs, Seq, ◌$◌}
use types.Run.{stop, hop, fld, from, load, addr, and_then, no_more, assigns}
use types.Part.{agg}
use denote.Slice.{slice_ty, slice_val}
use Rattle.lent.proofs.LocalsLaws.{Locals, at, there, and_T, first, all_held, hold, held_there, slots, sees, sees_in, sets}

-- how a parameter goes on to the callee: as the value that it is, or lent again, as a reference or a slice of values of the type τ
-- that lie in the block b at o, n of them in a slice
pub data Goes : Type 0 where
  as_is : Val → Goes
  ref_again : (τ : Ty) (b o : ℕ) → Goes
  slice_again : (τ : Ty) (b o n : ℕ) → Goes

abbrev pub value : Goes → Val
value (as_is v) = v
value (ref_again τ b o) = vptr b o
value (slice_again τ b o n) = slice_val (b, o) n

abbrev pub values : List Goes → List Val
values [] = []
values (g ∷ gs) = value g ∷ values gs

-- s is the first parameter's local and d the first free one: the code that lends again, the locals that the callee is called on, and
-- what the locals then hold
abbrev pub again_code : List Goes → (s d : ℕ) → Body → Body
again_code [] s d rest = rest
again_code (as_is v ∷ gs) s d rest = again_code gs (suc s) d rest
again_code (ref_again τ b o ∷ gs) s d rest =
    seq (assign (place d []) (addr_of (place s (deref τ ∷ [])))) (again_code gs (suc s) (suc d) rest)
again_code (slice_again τ b o n ∷ gs) s d rest =
    seq (assign (place d []) (addr_of (place s (field 0 ∷ deref τ ∷ []))))
    (seq (assign (place (suc d) []) (aggregate (copy (place d []) ∷ copy (place s (field 1 ∷ [])) ∷ [])))
    (again_code gs (suc s) (suc (suc d)) rest))

abbrev pub again_at : List Goes → (s d : ℕ) → List ℕ
again_at [] s d = []
again_at (as_is v ∷ gs) s d = s ∷ again_at gs (suc s) d
again_at (ref_again τ b o ∷ gs) s d = d ∷ again_at gs (suc s) (suc d)
again_at (slice_again τ b o n ∷ gs) s d = suc d ∷ again_at gs (suc s) (suc (suc d))

-- the first local that is still free then
abbrev pub again_free : List Goes → ℕ → ℕ
again_free [] d = d
again_free (as_is v ∷ gs) d = again_free gs d
again_free (ref_again τ b o ∷ gs) d = again_free gs (suc d)
again_free (slice_again τ b o n ∷ gs) d = again_free gs (suc (suc d))

pub again_past : (gs : List Goes) (d : ℕ) → d ≤ again_free gs d
again_past [] d = omega arith
again_past (as_is v ∷ gs) d = again_past gs d
again_past (ref_again τ b o ∷ gs) d = let h : suc d ≤ again_free gs (suc d) = again_past gs (suc d) in omega arith
again_past (slice_again τ b o n ∷ gs) d =
    let h : suc (suc d) ≤ again_free gs (suc (suc d)) = again_past gs (suc (suc d)) in omega arith

abbrev pub again_holds : List Goes → (d : ℕ) → List (Option Val) → List (Option Val)
again_holds [] d ms = ms
again_holds (as_is v ∷ gs) d ms = again_holds gs d ms
again_holds (ref_again τ b o ∷ gs) d ms = again_holds gs (suc d) (hold ms d (vptr b o))
again_holds (slice_again τ b o n ∷ gs) d ms = again_holds gs (suc (suc d)) (hold (hold ms d (vptr b o)) (suc d) (slice_val (b, o) n))

-- what the code asks of the locals: they are there and of the right types, the parameter holds its value, and the others nothing
abbrev pub AgainFits : Locals → List (Option Val) → List Goes → (s d : ℕ) → Type 0
AgainFits E ms [] s d = Unit {0}
AgainFits E ms (as_is v ∷ gs) s d = AgainFits E ms gs (suc s) d
AgainFits E ms (ref_again τ b o ∷ gs) s d =
    T (there E s && (there E d && has_ty (at E d).0 (vptr b o))) × (all_held ms (s ∷ d ∷ []) ≡ some (vptr b o) ∷ none ∷ [])
    × AgainFits E (hold ms d (vptr b o)) gs (suc s) (suc d)
AgainFits E ms (slice_again τ b o n ∷ gs) s d =
    let v : Val = slice_val (b, o) n in
    let ms' : List (Option Val) = hold ms d (vptr b o) in
    T (there E s && (there E d && (there E (suc d) && (has_ty (at E d).0 (vptr b o) && has_ty (at E (suc d)).0 v))))
    × WT v × ((σ : Ty) × ((at E s).0 ≡ slice_ty σ)) × (all_held ms (s ∷ d ∷ []) ≡ some v ∷ none ∷ [])
    × (all_held ms' (s ∷ suc d ∷ []) ≡ some v ∷ none ∷ []) × AgainFits E (hold ms' (suc d) v) gs (suc s) (suc (suc d))

pub lent_again : {M : Type 1} {𝓤 : Ura M} {𝓛 : Logic 𝓤} {K : Type 0} {C : Calls 𝓤 𝓛.H} {Λ : Loops 𝓤 𝓛.H}
    {q : Post 𝓤 𝓛.H} {rest : Body} (t : K) (Φ : List (Item 𝓤)) (E : Locals) (ms : List (Option Val)) (gs : List Goes) (s d : ℕ)
    → AgainFits E ms gs s d → Seq K 𝓛 (Φ ++ slots E (again_holds gs d ms)) (runs C Λ E rest q)
    → Seq K 𝓛 (Φ ++ slots E ms) (runs C Λ E (again_code gs s d rest) q)
lent_again t Φ E ms [] s d ok go = go
lent_again t Φ E ms (as_is v ∷ gs) s d ok go = lent_again t Φ E ms gs (suc s) d ok go
lent_again t Φ E ms (ref_again τ b o ∷ gs) s d ok go =
    let in-s : T (there E s) × T (there E d && has_ty (at E d).0 (vptr b o)) = and_T (there E s) _ ok.0 in
    let in-d : T (there E d) × T (has_ty (at E d).0 (vptr b o)) = and_T (there E d) _ in-s.1 in
    assigns t (addr t (from t (hop t (sees t Φ E ms s in-s.0 (cc)) (stop t)))) (from t (stop t))
    (sets t Φ E ms d in-d.0 (cc) (in-d.1, tt)) $ lent_again t Φ E (hold ms d (vptr b o)) gs (suc s) (suc d) ok.2 go
lent_again t Φ E ms (slice_again τ b o n ∷ gs) s d ok go =
    let v : Val = slice_val (b, o) n in
    let ms' : List (Option Val) = hold ms d (vptr b o) in
    let typed = has_ty (at E d).0 (vptr b o) && has_ty (at E (suc d)).0 v in
    let in-s : T (there E s) × T (there E d && (there E (suc d) && typed)) = and_T (there E s) _ ok.0 in
    let in-d : T (there E d) × T (there E (suc d) && typed) = and_T (there E d) _ in-s.1 in
    let in-v : T (there E (suc d)) × T typed = and_T (there E (suc d)) _ in-d.1 in
    let fit : T (has_ty (at E d).0 (vptr b o)) × T (has_ty (at E (suc d)).0 v) = and_T (has_ty (at E d).0 (vptr b o)) _ in-v.1 in
    let is_slice : (at E s).0 ≡ slice_ty ok.2.0 = ok.2.1 in
    assigns t (addr t (from t (fld t (ap (λ (ρ : Ty). field_of ρ 0) is_slice)
    (hop t (sees_in t Φ E ms s in-s.0 is_slice (ap first ok.3) 0 refl) (stop t))))) (from t (stop t))
    (sets t Φ E ms d in-d.0 (cc) (fit.0, tt)) $
    assigns t (agg t (and_then t (load t (from t (stop t)) (sees t Φ E ms' d in-d.0 (held_there ms d (vptr b o))))
    (and_then t (load t (from t (fld t (ap (λ (ρ : Ty). field_of ρ 1) is_slice) (stop t)))
    (sees_in t Φ E ms' s in-s.0 is_slice (ap first ok.4) 1 refl)) (no_more t)))) (from t (stop t))
    (sets t Φ E ms' (suc d) in-v.0 (cc) (fit.1, ok.1)) $
    lent_again t Φ E (hold ms' (suc d) v) gs (suc s) (suc (suc d)) ok.5 go
