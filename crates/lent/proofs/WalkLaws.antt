-- The walk along the code of a function that lends a struct, said once for any struct, any callee and any other parameters. It holds
-- because the callee sees of the lent memory no more than the value that is copied out of it: the borrow is open from before the
-- call to after the store, and what the callee asks and leaves besides passes through as one.
-- Lists in comments are what the walk owns at that point, in order; a number in a step is a place in that list.
use mathlib.Core.Path.{◌≡◌, refl, ap, ◌∙◌}
use mathlib.Core.Bool.{Bool, true, false}
use mathlib.Core.Option.{Option, none, some}
use mathlib.Core.List.{List, [], ◌∷◌, ◌++◌}
use Prim.Native.Nat.{ℕ, suc, ◌<◌, ◌≤◌, ◌^◌}
use native.Mathlib.Omega.{arith}
use lib.Dec.{T}
use lib.ListN.{length}
use seplogic.Ra.Ura.{Ura}
use base.Fraction.{full_share}
use mir.Syntax.{Callee, Ty, ty_int, ty_struct, tcons, tnil, w32, copy, place, deref, field, Body, seq, assign, call, return, rv_opd, Fn}
use mir.Raw.{raw as raw_ty}
use mir.Val.{Val, vint, vptr, vstruct, vcons, vnil, has_ty, WT}
use base.Logic.{SProp, ent, sep, ex}
use base.Fml.{Lft, Share, fat, flft, fobs, fbor}
use prog.Memory.{field_of}
use prog.Wp.{Calls, Loops, WpFn}
use types.Logic.{Logic, sem}
use sound.WpLaws.{FmC}
use types.Kit.{Item, ‵, raw, ◌⊛◌, later, some as some', ⋆, Post, at_ret, runs, Sq, ◌$◌, ◌∵◌, !, qed, by, move, drop, split, join, pick, use1, await, regoal}
use types.Run.{look_raw, store_raw, stop, hop, fld, from, load, of_opd, assigns, land, returns, enter}
use types.SemTy.{Body as Lies}
use denote.RattleType.{RattleType}
use denote.Laws.{Is, shows}
use denote.Memory.{mem}
use denote.Ref.{MutBor}
use denote.Steps.{only, opens, closes, owned, peeks}
use denote.Struct.Steps.{spelt}
use denote.Struct.Struct.{Plains, layout}
use denote.Struct.Declared.{Declared, fields, shape, row}
use denote.Struct.Laws as LL
use denote.Triple.Call.{calls_from}
use Rattle.lent.proofs.LocalsLaws.{Locals, at, there, all_there, and_T, FitParams, Blocks, placed, copies, held, all_held, hold, holds}
use Rattle.lent.proofs.LocalsLaws.{held_there, held_elsewhere, slots, sees, sees_in, sets, sees_all, all_allocated, all_stored, all_freed}
use Rattle.lent.proofs.AgainLaws.{Goes, values, again_code, again_at, again_free, again_past, again_holds, AgainFits, lent_again}

-- a struct that is lent, and the struct that a callee answers with: a number, and the struct that is to be stored
pub record Lent : Type 2 where
  pub Struct : Declared
  pub struct_laws : LL.Laws Struct
  pub struct_plain : Plains (fields Struct)
  pub Answer : Declared
  pub answer_laws : LL.Laws Answer
  pub number : Answer.D → ℕ
  pub stored : Answer.D → Struct.D
  pub answer_type : layout (shape Answer) ≡ ty_struct Answer.name (tcons (ty_int w32) (tcons (layout (shape Struct)) tnil))
  pub answer_value : (r : Answer.D) → LL.val Answer answer_laws r
      ≡ vstruct (vcons (vint w32 (number r)) (vcons (LL.val Struct struct_laws (stored r)) vnil))
  pub owed : (r : Answer.D) (vs : List Val) → Is (row Answer) r vs
      → (number r < 2 ^ 32) × Is (row Struct) (stored r) (LL.vals Struct struct_laws (stored r))

-- a callee takes the struct before the other parameters, or does not take it
abbrev pub if_taken {ℓ} : {X : Type ℓ} → Bool → X → List X → List X
if_taken true x xs = x ∷ xs
if_taken false x xs = xs

-- where it does, the struct is copied into the local c first
abbrev free_after : Bool → ℕ → ℕ
free_after true c = suc c
free_after false c = c

free_past : (taken : Bool) (c : ℕ) → c ≤ free_after taken c
free_past true c = omega arith
free_past false c = omega arith

abbrev copy_code : Bool → ℕ → Ty → Body → Body
copy_code true c τ rest = seq (assign (place c []) (rv_opd (copy (place 1 (deref τ ∷ []))))) rest
copy_code false c τ rest = rest

abbrev copy_holds : Bool → ℕ → Val → List (Option Val) → List (Option Val)
copy_holds true c u ms = hold ms c u
copy_holds false c u ms = ms

module _ (taken : Bool) (gs : List Goes) where
  -- the locals are the result, the lent struct, the other parameters, the answer, the copy if there is one, those that lend
  -- again, and the struct of the answer, which is read before it is stored
  abbrev answer_at : ℕ
  answer_at = suc (suc (length gs))

  abbrev copy_at : ℕ
  copy_at = suc answer_at

  abbrev free_at : ℕ
  free_at = free_after taken copy_at

  abbrev arguments_at : List ℕ
  arguments_at = if_taken taken copy_at (again_at gs 2 free_at)

  abbrev stored_at : ℕ
  stored_at = again_free gs free_at

  -- the result, the lent struct and the answer come before it
  stored_past : suc answer_at ≤ stored_at
  stored_past =
      let after_copy : copy_at ≤ free_at = free_past taken copy_at in
      let after_again : free_at ≤ stored_at = again_past gs free_at in
      omega arith

  -- of the callee's answer the struct is stored where it was lent, and the number is returned
  abbrev lent_code : Ty → Callee → Body
  lent_code τ callee = copy_code taken copy_at τ (again_code gs 2 free_at
      (seq (call callee (copies arguments_at) (place answer_at []))
      (seq (assign (place stored_at []) (rv_opd (copy (place answer_at (field 1 ∷ [])))))
      (seq (assign (place 1 (deref τ ∷ [])) (rv_opd (copy (place stored_at []))))
      (seq (assign (place 0 []) (rv_opd (copy (place answer_at (field 0 ∷ []))))) return)))))

  -- what the locals hold when the parameters are stored, p being the pointer to the lent struct u, and when the struct is copied
  abbrev at_first : Val → List (Option Val)
  at_first p = none ∷ some p ∷ holds (values gs)

  abbrev when_copied : Val → Val → List (Option Val)
  when_copied p u = copy_holds taken copy_at u (at_first p)

  -- what the code asks of the locals: the parameters fit; those that it names are there, and of their types; what is lent again
  -- fits; and at the call the result, the answer and its struct hold nothing, and the others what the callee is called on
  abbrev LocalsFit : Lent → Locals → Val → Val → Type 0
  LocalsFit Z E p u = FitParams E (p ∷ values gs)
      × T (all_there E (0 ∷ 1 ∷ answer_at ∷ stored_at ∷ arguments_at))
      × ((at E 0).0 ∷ (at E answer_at).0 ∷ (at E stored_at).0 ∷ if_taken taken (at E copy_at).0 []
      ≡ ty_int w32 ∷ layout (shape Z.Answer) ∷ layout (shape Z.Struct) ∷ if_taken taken (layout (shape Z.Struct)) [])
      × AgainFits E (when_copied p u) gs 2 free_at
      × (all_held (again_holds gs free_at (when_copied p u)) (0 ∷ 1 ∷ answer_at ∷ stored_at ∷ arguments_at)
      ≡ none ∷ some p ∷ none ∷ none ∷ holds (if_taken taken u (values gs)))

-- that a function has this code, and that its locals fit
pub record Lends (taken : Bool) (Z : Lent) (fn : Fn) (callee : Callee) (gs : List Goes) : Type 0 where
  pub body_is : fn.body ≡ lent_code taken gs (layout (shape Z.Struct)) callee
  pub fits : (bs : Blocks fn.locals) (b o : ℕ) (u : Val) → LocalsFit taken gs Z (placed fn.locals bs) (vptr b o) u

-- the copy's local holds nothing before
copy_free : (gs : List Goes) → held (holds (values gs)) (suc (length gs)) ≡ none
copy_free [] = refl
copy_free (g ∷ gs) = copy_free gs

-- what a function owns of what is lent to it, which is h now, and i besides
abbrev pub loan : {M : Type 1} {𝓤 : Ura M} (R : RattleType) → Lft → Share → MutBor R.Denot → R.Denot → Item 𝓤 → List (Item 𝓤)
loan R κ q x h i =
    ‵ (fobs x.ghost_name (R.coded.code h)) ∷ ‵ (fbor κ (Lies (mem R) x.ref_ptr.0 x.ref_ptr.1 x.ghost_name)) ∷ ‵ (flft κ q) ∷ i ∷ []

module _ {M : Type 1} {𝓤 : Ura M} (𝓛 : Logic 𝓤) (C : Calls 𝓤 𝓛.H) (Λ : Loops 𝓤 𝓛.H) where
  open 𝓛 use {H}

  copied : (taken : Bool) (Φ : List (Item 𝓤)) (E : Locals) (ms : List (Option Val)) (c : ℕ) (is : List ℕ) (τ : Ty) (b o : ℕ)
      (u : Val) {rest : Body} {q : Post 𝓤 H} → T (there E 1) → held ms 1 ≡ some (vptr b o) → held ms c ≡ none
      → T (all_there E (if_taken taken c is)) → if_taken taken (at E c).0 [] ≡ if_taken taken τ [] → T (has_ty τ u) × WT u
      → Sq 𝓛 (‵ (fat full_share (raw_ty τ) b o u) ∷ (Φ ++ slots E (copy_holds taken c u ms))) (runs C Λ E rest q)
      → Sq 𝓛 (‵ (fat full_share (raw_ty τ) b o u) ∷ (Φ ++ slots E ms)) (runs C Λ E (copy_code taken c τ rest) q)
  copied false Φ E ms c is τ b o u in-1 held-1 free in_c is-τ wt go = go
  copied true Φ E ms c is τ b o u in-1 held-1 free in_c is-τ wt go =
      let of_c : (at E c).0 ≡ τ = cc in
      assigns ! (of_opd ! (load ! (from ! (hop ! (sees ! (_ ∷ Φ) E ms 1 in-1 held-1) (stop !))) (look_raw ! 0 refl)))
      (from ! (stop !)) (sets ! (_ ∷ Φ) E ms c (and_T (there E c) (all_there E is) in_c).0 free (rw of_c wt)) $ go

  module _ (fm : FmC 𝓤 H 𝓛.laws C) (taken : Bool) (Z : Lent) (fn : Fn) (callee : Callee) (gs : List Goes)
      (lends : Lends taken Z fn callee gs) where
    open Z use {Struct, struct_laws, struct_plain, Answer, answer_laws, number, stored, answer_type, answer_value, owed}

    abbrev S : RattleType
    S = row Struct

    abbrev spelled : Struct.D → Val
    spelled h = LL.val Struct struct_laws h

    -- R is what the callee asks besides the struct, R' what it leaves besides its answer, and Kf what the function promises
    pub walks : (κ : Lft) (q : Share) (x : MutBor Struct.D) (R : SProp 𝓤) (R' : Answer.D → SProp 𝓤) (Q Kf : Val → SProp 𝓤)
        → ent 𝓤 (sep 𝓤 (sem 𝓛 (S.own_val x.now (spelled x.now ∷ []))) R)
        (C callee (if_taken taken (spelled x.now) (values gs)) Q)
        → ((v : Val) → ent 𝓤 (Q v) (H.⇛ (ex 𝓤 (λ (r : Answer.D). sep 𝓤 (sem 𝓛 ((row Answer).own_val r (v ∷ []))) (R' r)))))
        → ((r : Answer.D) → number r < 2 ^ 32 → ent 𝓤 (⋆ 𝓛 (loan S κ q x (stored r) (raw (R' r)))) (Kf (vint w32 (number r))))
        → ent 𝓤 (⋆ 𝓛 (loan S κ q x x.now (raw R))) (WpFn 𝓤 H C Λ fn (vptr x.ref_ptr.0 x.ref_ptr.1 ∷ values gs) Kf)
    walks κ q x R R' Q Kf calls answers ends =
        let b : ℕ = x.ref_ptr.0 in
        let o : ℕ = x.ref_ptr.1 in
        let h : Struct.D = x.now in
        qed 𝓛 (loan S κ q x h (raw R)) ∵
        enter ! C Λ fn (vptr b o ∷ values gs) Kf $ all_allocated ! fn.locals (λ bs.
        let E : Locals = placed fn.locals bs in
        let r-at : ℕ = answer_at taken gs in
        let s-at : ℕ = stored_at taken gs in
        let args : List ℕ = arguments_at taken gs in
        let m₀ : List (Option Val) = at_first taken gs (vptr b o) in
        let m₁ : List (Option Val) = when_copied taken gs (vptr b o) (spelled h) in
        let m₂ : List (Option Val) = again_holds gs (free_at taken gs) m₁ in
        let ok : LocalsFit taken gs Z E (vptr b o) (spelled h) = lends.fits bs b o (spelled h) in
        let in-0 : T (there E 0) × T (all_there E (1 ∷ r-at ∷ s-at ∷ args)) = and_T (there E 0) _ ok.1 in
        let in-1 : T (there E 1) × T (all_there E (r-at ∷ s-at ∷ args)) = and_T (there E 1) _ in-0.1 in
        let in-r : T (there E r-at) × T (all_there E (s-at ∷ args)) = and_T (there E r-at) _ in-1.1 in
        let in-s : T (there E s-at) × T (all_there E args) = and_T (there E s-at) _ in-r.1 in
        let types : (at E 0).0 ∷ (at E r-at).0 ∷ (at E s-at).0 ∷ if_taken taken (at E (suc r-at)).0 []
        ≡ ty_int w32 ∷ layout (shape Answer) ∷ layout (shape Struct) ∷ if_taken taken (layout (shape Struct)) [] = ok.2 in
        let holding : held m₂ 0 ∷ held m₂ 1 ∷ held m₂ r-at ∷ held m₂ s-at ∷ all_held m₂ args
        ≡ none ∷ some (vptr b o) ∷ none ∷ none ∷ holds (if_taken taken (spelled h) (values gs)) = ok.4 in
        let past : suc r-at ≤ s-at = stored_past taken gs in
        all_stored ! E (vptr b o ∷ values gs) _ ok.0 (regoal ! (λ (bd : Body). runs C Λ E bd (at_ret E Kf)) lends.body_is refl $
        opens ! tt S {h = h} b o (λ us.
        spelt ! S (Is S) (shows 𝓛 S) (LL.vals Struct struct_laws) (LL.tells Struct struct_laws) full_share h us b o $
        move ! (1 ∷ []) $ peeks ! S (Is S) (shows 𝓛 S) h (LL.vals Struct struct_laws h) (λ was. move ! (1 ∷ 0 ∷ []) $
        -- [the lent cell; what is owned; the open borrow; obs; auth; R; the locals]
        copied taken (_ ∷ _ ∷ _ ∷ _ ∷ _ ∷ []) E m₀ (suc r-at) (again_at gs 2 (free_at taken gs)) (layout (shape Struct)) b o
        (spelled h) in-1.0 refl (copy_free gs) in-s.1 (cc) ((LL.lawful Struct struct_laws 𝓛).typed h _ was).0
        (lent_again ! (_ ∷ _ ∷ _ ∷ _ ∷ _ ∷ _ ∷ []) E m₁ gs 2 (free_at taken gs) ok.3 (move ! (5 ∷ []) $
        owned ! S (Is S) (LL.makes Struct struct_plain 𝓛) h _ was $ join ! $
        calls_from ! fm _ (if_taken taken (spelled h) (values gs)) Q calls (sees_all ! (_ ∷ _ ∷ _ ∷ _ ∷ _ ∷ _ ∷ []) E m₂ args
        (if_taken taken (spelled h) (values gs)) in-s.1 (cc)) (λ v.
        use1 𝓛 (later (some' (λ (r : Answer.D). ‵ ((row Answer).own_val r (v ∷ [])) ⊛ raw (R' r)))) (answers v) $ await ! tt $
        pick ! (λ r. split ! $
        peeks ! (row Answer) (Is (row Answer)) (shows 𝓛 (row Answer)) r (v ∷ []) (λ is. drop ! $
        let m₃ : List (Option Val) = hold m₂ r-at v in
        let m₄ : List (Option Val) = hold m₃ s-at (spelled (stored r)) in
        let m₅ : List (Option Val) = hold m₄ 0 (vint w32 (number r)) in
        let is-v : held m₃ r-at ≡ some (vstruct (vcons (vint w32 (number r)) (vcons (spelled (stored r)) vnil))) =
        held_there m₂ r-at v ∙ ap some (ap only (LL.tells Answer answer_laws r _ is) ∙ answer_value r) in
        let is-s : held m₃ s-at ≡ none = held_elsewhere m₂ r-at s-at v (λ e. omega arith) ∙ (cc) in
        let as-before : (j : ℕ) → j ≤ r-at → held m₄ j ≡ held m₃ j =
        λ j le. held_elsewhere m₃ s-at j (spelled (stored r)) (λ e. omega arith) in
        let of-0 : (at E 0).0 ≡ ty_int w32 = cc in
        let of-r : (at E r-at).0 ≡ layout (shape Answer) = cc in
        let of-s : (at E s-at).0 ≡ layout (shape Struct) = cc in
        let fit-s : T (has_ty (layout (shape Struct)) (spelled (stored r))) × WT (spelled (stored r)) =
        ((LL.lawful Struct struct_laws 𝓛).typed (stored r) _ (owed r _ is).1).0 in
        let is-r : (at E r-at).0 ≡ ty_struct Answer.name (tcons (ty_int w32) (tcons (layout (shape Struct)) tnil)) =
        of-r ∙ answer_type in
        -- [R'; the lent cell; what was owned; the open borrow; obs; auth; the locals]
        land ! (from ! (stop !)) (sets ! (_ ∷ _ ∷ _ ∷ _ ∷ _ ∷ _ ∷ []) E m₂ r-at in-r.0 (cc)
        (rw of-r ((LL.lawful Answer answer_laws 𝓛).typed r _ is).0)) $
        assigns ! (of_opd ! (load ! (from ! (fld ! (ap (λ (σ : Ty). field_of σ 1) is-r) (stop !)))
        (sees_in ! (_ ∷ _ ∷ _ ∷ _ ∷ _ ∷ _ ∷ []) E m₃ r-at in-r.0 is-r is-v 1 refl)))
        (from ! (stop !)) (sets ! (_ ∷ _ ∷ _ ∷ _ ∷ _ ∷ _ ∷ []) E m₃ s-at in-s.0 is-s (rw of-s fit-s)) $
        assigns ! (of_opd ! (load ! (from ! (stop !)) (sees ! (_ ∷ _ ∷ _ ∷ _ ∷ _ ∷ _ ∷ []) E m₄ s-at in-s.0
        (held_there m₃ s-at (spelled (stored r))))))
        (from ! (hop ! (sees ! (_ ∷ _ ∷ _ ∷ _ ∷ _ ∷ _ ∷ []) E m₄ 1 in-1.0 (as-before 1 (omega arith) ∙ (cc))) (stop !)))
        (store_raw ! 1 refl fit-s) $
        assigns ! (of_opd ! (load ! (from ! (fld ! (ap (λ (σ : Ty). field_of σ 0) is-r) (stop !)))
        (sees_in ! (_ ∷ _ ∷ _ ∷ _ ∷ _ ∷ _ ∷ []) E m₄ r-at in-r.0 is-r (as-before r-at (omega arith) ∙ is-v) 0 refl)))
        (from ! (stop !)) (sets ! (_ ∷ _ ∷ _ ∷ _ ∷ _ ∷ _ ∷ []) E m₄ 0 in-0.0 (as-before 0 (omega arith) ∙ (cc))
        (rw of-0 (tt, record { fits = (owed r _ is).0 }))) $
        move ! (2 ∷ []) $ drop ! $ owned ! S (Is S) (LL.makes Struct struct_plain 𝓛) (stored r) _ (owed r _ is).1 $
        move ! (2 ∷ 0 ∷ 3 ∷ 4 ∷ 5 ∷ []) $ closes ! tt S (stored r) (spelled (stored r) ∷ []) b o $
        returns ! (sees ! (_ ∷ _ ∷ _ ∷ _ ∷ []) E m₅ 0 in-0.0 refl) $
        all_freed ! (_ ∷ _ ∷ _ ∷ _ ∷ []) E m₅ (by ! (ends r (owed r _ is).0)))))))))))
