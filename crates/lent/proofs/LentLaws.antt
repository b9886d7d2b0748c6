-- A function f that lends a struct meets its contract wherever its callee g does, if f says of the lent memory and of its result
-- what g says of the struct and the number of its answer (`lent_proved`). It holds by the walk along f's code, because the other
-- parameters are handed on as they are: what g leaves of them at exit is what f has to.
-- f is `let r = g(*s, ..); *s = r.part; r.number`, or the same without `*s`; its other parameters are g's, in g's order: unsigned
-- numbers, references and slices. Neither has a `requires`, and g answers with a struct of a `u32` and the struct that is stored.
use mathlib.Core.Path.{◌≡◌, refl, sym, subst}
use mathlib.Core.Bool.{Bool, true, false}
use mathlib.Core.List.{List, [], ◌∷◌, ◌++◌}
use Prim.Native.Nat.{ℕ, suc, ◌<◌, ◌^◌}
use lib.ListN.{length}
use seplogic.Ra.Ura.{Ura}
use mir.Syntax.{Callee, Width, Lifetime, named, w32, Fn}
use mir.Val.{Val, vint, vptr}
use base.Logic.{SProp, ent, sep, ex, via, emp, id⊢, fst∗, snd∗}
use base.Fml.{Lft, Fml, ftrue, fsep, flft, fres}
use prog.Wp.{Calls, Loops, WpFn, Closed}
use prog.Model.{Model}
use prog.Routine as Routine
use types.Logic.{Logic, sem}
use sound.WpLaws.{fm_of}
use contract.Lifetimes.{Lfts, Shares, toks}
use contract.Monad.{fact_use}
use contract.Running.{Running, tables, tables_of}
use types.Kit.{‵, raw, ◌⊛◌, later, some, ⋆, ◌$◌, ◌∵◌, !, qed, by, move, keep, drop, split, join, pick, use1, await, fsplit, fsplit3, fjoin, frame, show, updating, now as at_once, done}
use denote.RattleType.{RattleType, Denots, Valss, flat, owns, mirs}
use denote.Laws.{Is, Ises, Are, Tells, Tellss, Spells, valss, Lawful, Lawfuls, Typed, all_Typed, all_tell, owns_show, showss}
use denote.Memory.{lone}
use denote.Plain.{UInt, uint_Tells, uint_Lawful, uint_Makes}
use denote.Builtin.{u32}
use denote.Ref.{MutRef, ShrRef, MutBor, mut_vals, mut_Tells, mut_Lawful, shr_Tells, shr_Lawful}
use denote.Slice.{ShrSlice, MutSlice, slice_val, shr_slice_Tells, shr_slice_Lawful, mut_slice_Tells, mut_slice_Lawful}
use denote.Exit.{yes, Last, left, Seen, see}
use denote.Signature.{Signature, types_at}
use denote.Steps.{owned, nothing}
use denote.Struct.Declared.{row}
use denote.Struct.Laws as LL
use denote.Triple.Statement.{Contract, Triple}
use denote.Triple.Table.{entered, cited}
use Rattle.lent.proofs.AgainLaws.{Goes, as_is, ref_again, slice_again, value, values}
use Rattle.lent.proofs.WalkLaws.{Lent, if_taken, Lends, loan, walks}

-- ---- how a parameter of a type is passed on
pub record Passes (R : RattleType) : Type 2 where
  pub goes : R.Denot → Goes
  pub tells : Tells R (Is R) (λ x. value (goes x) ∷ [])
  pub lawful : {M : Type 1} {𝓤 : Ura M} (𝓛 : Logic 𝓤) → Lawful 𝓛 R

abbrev pub word : (w : Width) → Passes (UInt w)
word w = record { goes = λ x. as_is (vint w x); tells = uint_Tells w; lawful = λ 𝓛. uint_Lawful 𝓛 w }

module _ {ℓ : Lifetime} {κ : Lft} (R : RattleType) where
  abbrev pub lent_in : Passes (ShrRef ℓ κ R)
  lent_in = record {
    goes = λ x. as_is (vptr x.ref_ptr.0 x.ref_ptr.1);
    tells = shr_Tells ℓ κ R;
    lawful = λ 𝓛. shr_Lawful 𝓛 ℓ κ R;
  }

  abbrev pub lent_out : Passes (MutRef ℓ κ R)
  lent_out = record {
    goes = λ x. ref_again (lone R.mir) x.ref_ptr.0 x.ref_ptr.1;
    tells = mut_Tells ℓ κ R;
    lawful = λ 𝓛. mut_Lawful 𝓛 ℓ κ R;
  }

  abbrev pub slice_in : Passes (ShrSlice ℓ κ R)
  slice_in = record {
    goes = λ x. as_is (slice_val x.ref_ptr (length x.now));
    tells = shr_slice_Tells ℓ κ R;
    lawful = λ 𝓛. shr_slice_Lawful 𝓛 ℓ κ R;
  }

  abbrev pub slice_out : Passes (MutSlice ℓ κ R)
  slice_out = record {
    goes = λ x. slice_again (lone R.mir) x.ref_ptr.0 x.ref_ptr.1 (length x.now);
    tells = mut_slice_Tells ℓ κ R;
    lawful = λ 𝓛. mut_slice_Lawful 𝓛 ℓ κ R;
  }

abbrev AllPass : List RattleType → Type 2
AllPass [] = Unit {2}
AllPass (R ∷ Rs) = Passes R × AllPass Rs

abbrev all_go : (Rs : List RattleType) → AllPass Rs → Denots Rs → List Goes
all_go [] ps a = []
all_go (R ∷ Rs) ps a = ps.0.goes a.0 ∷ all_go Rs ps.1 a.1

abbrev spelled : (Rs : List RattleType) → AllPass Rs → Spells Rs
spelled [] ps = tt
spelled (R ∷ Rs) ps = ((λ x. value (ps.0.goes x) ∷ []), spelled Rs ps.1)

abbrev all_told : (Rs : List RattleType) (ps : AllPass Rs) → Tellss Rs (Ises Rs) (spelled Rs ps)
all_told [] ps = tt
all_told (R ∷ Rs) ps = (ps.0.tells, all_told Rs ps.1)

abbrev all_lawful : {M : Type 1} {𝓤 : Ura M} (𝓛 : Logic 𝓤) (Rs : List RattleType) → AllPass Rs
    → Lawfuls 𝓛 Rs
all_lawful 𝓛 [] ps = tt
all_lawful 𝓛 (R ∷ Rs) ps = (ps.0.lawful 𝓛, all_lawful 𝓛 Rs ps.1)

in_a_row : (Rs : List RattleType) (ps : AllPass Rs) (a : Denots Rs)
    → flat Rs (valss Rs (spelled Rs ps) a) ≡ values (all_go Rs ps a)
in_a_row [] ps a = refl
in_a_row (R ∷ Rs) ps a = rw (in_a_row Rs ps.1 a.1)

-- ---- the contract of a function that asks nothing and says something of its parameters at entry, its result and its parameters at
-- exit. A parameter's type says what is seen of it at exit, and no lifetime's name is in that: so f's other parameters have g's
-- types
abbrev Lasts : (Rs : List RattleType) → Denots Rs → Type 0
Lasts [] a = Unit {0}
Lasts (R ∷ Rs) a = Last (R.exit yes) a.0 × Lasts Rs a.1

abbrev AtExit : List RattleType → Type 0
AtExit [] = Unit {0}
AtExit (R ∷ Rs) = Seen (R.exit yes) × AtExit Rs

abbrev at_exit : (Rs : List RattleType) (a : Denots Rs) → Lasts Rs a → AtExit Rs
at_exit [] a ws = tt
at_exit (R ∷ Rs) a ws = (see (R.exit yes) a.0 ws.0, at_exit Rs a.1 ws.1)

abbrev lasts : (Rs : List RattleType) (a : Denots Rs) → Lasts Rs a → Fml
lasts [] a ws = ftrue
lasts (R ∷ Rs) a ws = fsep (left (R.exit yes) a.0 ws.0) (lasts Rs a.1 ws.1)

module _ {M : Type 1} {𝓤 : Ura M} (𝓛 : Logic 𝓤) (n : ℕ) (Rs : Lfts n → List RattleType) (Res : RattleType) where
  open 𝓛 use {H}

  abbrev Says : Type 2
  Says = (κs : Lfts n) → Denots (Rs κs) → Res.Denot → AtExit (Rs κs) → SProp 𝓤

  abbrev pact : Says → Contract 𝓤
  pact says = record {
    Ghost = ((κs : Lfts n) × Shares n × Unit {0} × Denots (Rs κs) × Valss (Rs κs)) × Unit {0};
    args = λ y. flat (Rs y.0.0) y.0.4;
    pre = λ y. sep 𝓤 (sep 𝓤 (toks 𝓛 n y.0.0 y.0.1) (sem 𝓛 (owns (Rs y.0.0) y.0.3 y.0.4))) (emp 𝓤);
    post = λ y v. H.⇛ (ex 𝓤 (λ (r : Res.Denot). sep 𝓤 (sep 𝓤 (toks 𝓛 n y.0.0 y.0.1) (sem 𝓛 (Res.own_val r (v ∷ []))))
        (ex 𝓤 (λ (ws : Lasts (Rs y.0.0) y.0.3). sep 𝓤 (sem 𝓛 (lasts (Rs y.0.0) y.0.3 ws))
        (says y.0.0 y.0.3 r (at_exit (Rs y.0.0) y.0.3 ws))))));
  }

-- ---- what g is given, with the struct before the other parameters or without it; and of what it leaves, the other parameters' part
abbrev others : {X : Type 2} → Bool → List X → List X
others false xs = xs
others true [] = []
others true (x ∷ xs) = xs

module _ (R : RattleType) (Rs : List RattleType) where
  abbrev args_given : (taken : Bool) → R.Denot → Denots Rs → Denots (if_taken taken R Rs)
  args_given true h a = (h, a)
  args_given false h a = a

  abbrev vals_given : (taken : Bool) → List Val → Valss Rs → Valss (if_taken taken R Rs)
  vals_given true us vss = (us, vss)
  vals_given false us vss = vss

  flat_given : (taken : Bool) (u : Val) (vss : Valss Rs)
      → flat (if_taken taken R Rs) (vals_given taken (u ∷ []) vss) ≡ if_taken taken u (flat Rs vss)
  flat_given true u vss = refl
  flat_given false u vss = refl

  module _ (h : R.Denot) (a : Denots Rs) where
    abbrev lasts_left : (taken : Bool) → Lasts (if_taken taken R Rs) (args_given taken h a) → Lasts Rs a
    lasts_left true ws = ws.1
    lasts_left false ws = ws

    module _ {M : Type 1} {𝓤 : Ura M} (𝓛 : Logic 𝓤) where
      leaves : (taken : Bool) (ws : Lasts (if_taken taken R Rs) (args_given taken h a))
          → ent 𝓤 (sem 𝓛 (lasts (if_taken taken R Rs) (args_given taken h a) ws)) (sem 𝓛 (lasts Rs a (lasts_left taken ws)))
      leaves true ws = snd∗ 𝓤 (sem 𝓛 (left (R.exit yes) h ws.0)) (sem 𝓛 (lasts Rs a ws.1))
      leaves false ws = id⊢ 𝓤 (sem 𝓛 (lasts Rs a ws))

      gives : (taken : Bool) (us : List Val) (vss : Valss Rs) (live : SProp 𝓤)
          → ent 𝓤 (sep 𝓤 (sem 𝓛 (R.own_val h us)) (sep 𝓤 live (sem 𝓛 (owns Rs a vss))))
          (sep 𝓤 (sep 𝓤 live (sem 𝓛 (owns (if_taken taken R Rs) (args_given taken h a) (vals_given taken us vss)))) (emp 𝓤))
      gives true us vss live = qed 𝓛 (‵ (R.own_val h us) ∷ raw live ∷ ‵ (owns Rs a vss) ∷ []) ∵ nothing ! $ move ! (1 ∷ 3 ∷ []) $
          fjoin ! $ move ! (2 ∷ 0 ∷ []) $ join ! $ frame ! $ done !
      gives false us vss live = qed 𝓛 (‵ (R.own_val h us) ∷ raw live ∷ ‵ (owns Rs a vss) ∷ []) ∵ drop ! $ join ! $ frame ! $
          nothing ! $ done !

-- ---- f, which is `fn`, calls g, whose signature is `sg`, as `#g` in the environment `env`
module _ {M : Type 1} {𝓤 : Ura M} (𝓛 : Logic 𝓤) (𝓜 : Model 𝓤 𝓛.H) (𝓡 : Running 𝓤 𝓛.H 𝓜) (taken : Bool) (Z : Lent)
    (sg : Signature) where
  open 𝓛 use {H}
  open Z use {Struct, struct_laws, Answer, number, stored}

  abbrev n : ℕ
  n = sg.lifetimes

  abbrev S : RattleType
  S = row Struct

  -- the types of the parameters that both have, of f's, and of g's
  abbrev shared : Lfts n → List RattleType
  shared κs = types_at (others taken sg.params) κs

  abbrev lends : Lfts (suc n) → List RattleType
  lends κs = MutRef (named 0) κs.0 S ∷ shared κs.1

  abbrev takes : Lfts n → List RattleType
  takes κs = if_taken taken S (shared κs)

  module _ (f-says : Says 𝓛 (suc n) lends u32) (g-says : Says 𝓛 n takes (row Answer)) (env : Routine.Env) (fn : Fn)
      (#g : Callee) where
    abbrev f : Contract 𝓤
    f = pact 𝓛 (suc n) lends u32 f-says

    abbrev g : Contract 𝓤
    g = pact 𝓛 n takes (row Answer) g-says

    abbrev C : Calls 𝓤 H
    C = (tables 𝓤 H 𝓜 𝓡 env).C

    abbrev Λ : Loops 𝓤 H
    Λ = (tables 𝓤 H 𝓜 𝓡 env).Λ

    module _ (κs : Lfts (suc n)) (x : MutBor Struct.D) (a : Denots (shared κs.1)) where
      abbrev Rs : List RattleType
      Rs = shared κs.1

      abbrev Gs : List RattleType
      Gs = takes κs.1

      abbrev given : Denots Gs
      given = args_given S Rs taken x.now a

      abbrev rest_of : Lasts Gs given → Lasts Rs a
      rest_of = lasts_left S Rs x.now a taken

      abbrev said_by_g : Answer.D → Lasts Gs given → SProp 𝓤
      said_by_g r ws = g-says κs.1 given r (at_exit Gs given ws)

      abbrev said_by_f : ℕ → Lasts (lends κs) (x, a) → SProp 𝓤
      said_by_f m ws = f-says κs (x, a) m (at_exit (lends κs) (x, a) ws)

      -- f says what g says, of the number and the struct of g's answer
      abbrev Alike : Type 1
      Alike = (r : Answer.D) (ws : Lasts Gs given) → ent 𝓤 (said_by_g r ws) (said_by_f (number r) (stored r, rest_of ws))

      module _ (alike : Alike) (ps : AllPass Rs) (code : Lends taken Z fn #g (all_go Rs ps a)) (known : Triple 𝓤 (C #g) g)
          (qs : Shares (suc n)) where
        abbrev vss : Valss Rs
        vss = valss Rs (spelled Rs ps) a

        abbrev u : Val
        u = LL.val Struct struct_laws x.now

        abbrev live : SProp 𝓤
        live = toks 𝓛 n κs.1 qs.1

        abbrev to_f : f.Ghost
        to_f = ((κs, qs, tt, (x, a), (mut_vals x, vss)), tt)

        abbrev to_g : g.Ghost
        to_g = ((κs.1, qs.1, tt, given, vals_given S Rs taken (u ∷ []) vss), tt)

        abbrev asked : SProp 𝓤
        asked = sep 𝓤 live (sem 𝓛 (owns Rs a vss))

        abbrev told : Answer.D → SProp 𝓤
        told r = ex 𝓤 (λ (ws : Lasts Gs given). sep 𝓤 (sem 𝓛 (lasts Gs given ws)) (said_by_g r ws))

        abbrev tells : ℕ → Lasts (lends κs) (x, a) → SProp 𝓤
        tells m ws = sep 𝓤 (sem 𝓛 (lasts (lends κs) (x, a) ws)) (said_by_f m ws)

        calls : ent 𝓤 (sep 𝓤 (sem 𝓛 (S.own_val x.now (u ∷ []))) asked)
            (C #g (if_taken taken u (values (all_go Rs ps a))) (g.post to_g))
        calls = rw (← in_a_row Rs ps a, ← flat_given S Rs taken u vss)
            (via 𝓤 (g.pre to_g) (gives S Rs x.now a 𝓛 taken (u ∷ []) vss live) (known to_g))

        answers : (v : Val) → ent 𝓤 (g.post to_g v)
            (H.⇛ (ex 𝓤 (λ (r : Answer.D). sep 𝓤 (sem 𝓛 ((row Answer).own_val r (v ∷ []))) (sep 𝓤 live (told r)))))
        answers v = qed 𝓛 (later (some (λ (r : Answer.D). (raw live ⊛ ‵ ((row Answer).own_val r (v ∷ []))) ⊛ raw (told r))) ∷ []) ∵
            updating ! $ await ! tt $ pick ! (λ r. at_once ! $
            show ! (λ (s : Answer.D). sep 𝓤 (sem 𝓛 ((row Answer).own_val s (v ∷ []))) (sep 𝓤 live (told s))) r $
            split ! $ split ! $ move ! (1 ∷ []) $ frame ! $ done !)

        ends : (r : Answer.D) → number r < 2 ^ 32
            → ent 𝓤 (⋆ 𝓛 (loan S κs.0 qs.0 x (stored r) (raw (sep 𝓤 live (told r))))) (f.post to_f (vint w32 (number r)))
        ends r fits = qed 𝓛 (loan S κs.0 qs.0 x (stored r)
            (raw live ⊛ some (λ (ws : Lasts Gs given). ‵ (lasts Gs given ws) ⊛ raw (said_by_g r ws)))) ∵ updating ! $ at_once ! $
            show ! (λ (m : ℕ). sep 𝓤 (sep 𝓤 (toks 𝓛 (suc n) κs qs) (sem 𝓛 (u32.own_val m (vint w32 (number r) ∷ []))))
            (ex 𝓤 (tells m))) (number r) $
            use1 𝓛 (‵ (fres x.ghost_name (S.coded.code (stored r)))) (𝓛.names.obs-res x.ghost_name (S.coded.code (stored r))) $
            fjoin ! $ move ! (2 ∷ []) $ split ! $
            -- [live; what g says; res with the borrow; lft]
            move ! (3 ∷ 0 ∷ []) $ join ! $ owned ! u32 (Is u32) (uint_Makes 𝓛 w32) (number r) (vint w32 (number r) ∷ [])
            (refl, fits) $ move ! (1 ∷ 0 ∷ []) $ join ! $ frame ! $
            pick ! (λ ws. show ! (tells (number r)) (stored r, rest_of ws) $ split ! $
            use1 𝓛 (‵ (lasts Rs a (rest_of ws))) (leaves S Rs x.now a 𝓛 taken ws) $ move ! (1 ∷ []) $
            use1 𝓛 (raw (said_by_f (number r) (stored r, rest_of ws))) (alike r ws) $ move ! (2 ∷ 1 ∷ []) $ fjoin ! $ done !)

        met_here : ent 𝓤 (f.pre to_f) (WpFn 𝓤 H C Λ fn (mut_vals x ++ flat Rs vss) (f.post to_f))
        unfolding tables_of
        met_here = qed 𝓛 (((‵ (flft κs.0 qs.0) ⊛ raw live) ⊛ ‵ (owns (lends κs) (x, a) (mut_vals x, vss))) ∷ ‵ ftrue ∷ []) ∵
            split ! $ move ! (1 ∷ []) $ fsplit ! $ fsplit3 ! $ drop ! $ move ! (3 ∷ []) $ split ! $
            -- [lft; live; obs; bor; owns; nothing]
            move ! (1 ∷ 4 ∷ []) $ join ! $ keep ! (2 ∷ 3 ∷ 1 ∷ 0 ∷ []) $
            by ! (rw (in_a_row Rs ps a) (walks 𝓛 C Λ (fm_of 𝓤 H 𝓛.laws (tables_of 𝓤 H 𝓜 (tables 𝓤 H 𝓜 𝓡 env))) taken Z fn #g
            (all_go Rs ps a) code κs.0 qs.0 x asked (λ r. sep 𝓤 live (told r)) (g.post to_g) (f.post to_f) calls answers
            ends))

    -- f says what g says; the other parameters are passed on so; f has the code, with locals that fit; f is `#f` there; and g is
    -- proved
    pub lent_proved : ((κs : Lfts (suc n)) (x : MutBor Struct.D) (a : Denots (shared κs.1)) → Alike κs x a)
        → (pass : (κs : Lfts n) → AllPass (shared κs))
        → ((κs : Lfts n) (a : Denots (shared κs))
        → Typed (mirs (shared κs)) (flat (shared κs) (valss (shared κs) (spelled (shared κs) (pass κs)) a))
        → Lends taken Z fn #g (all_go (shared κs) (pass κs) a))
        → (#f : Callee) → Closed 𝓤 H C Λ #f fn → (routine : Routine.Routine) → env #g ≡ routine → Triple 𝓤 (𝓡.run routine) g
        → Triple 𝓤 (C #f) f
    lent_proved alike pass code #f closed routine is-g met = entered 𝓤 H f C Λ #f fn closed (λ z.
        let κs : Lfts (suc n) = z.0.0 in
        let Fs : List RattleType = lends κs in
        let ps : AllPass (shared κs.1) = pass κs.1 in
        let all-ps : AllPass Fs = (lent_out S, ps) in
        let live : SProp 𝓤 = toks 𝓛 (suc n) κs z.0.1 in
        let a : Denots Fs = z.0.3 in
        let has : Valss Fs → SProp 𝓤 = λ us. sem 𝓛 (owns Fs a us) in
        fact_use 𝓤 (Are Fs (Ises Fs) a z.0.4) (via 𝓤 (has z.0.4)
        (via 𝓤 (sep 𝓤 live (has z.0.4)) (fst∗ 𝓤 (sep 𝓤 live (has z.0.4)) (emp 𝓤)) (snd∗ 𝓤 live (has z.0.4)))
        (owns_show 𝓛 Fs (Ises Fs) (showss 𝓛 Fs) a z.0.4))
        (λ are.
        let so : z.0.4 ≡ valss Fs (spelled Fs all-ps) a =
        all_tell Fs (Ises Fs) (spelled Fs all-ps) (all_told Fs all-ps) a z.0.4 are in
        subst (λ (us : Valss Fs). Are Fs (Ises Fs) a us → ent 𝓤 (sep 𝓤 (sep 𝓤 live (has us)) (emp 𝓤))
        (WpFn 𝓤 H C Λ fn (flat Fs us) (f.post z))) (sym so)
        (λ are. met_here κs a.0 a.1 (alike κs a.0 a.1) ps
        (code κs.1 a.1 (all_Typed 𝓛 (shared κs.1) (all_lawful 𝓛 (shared κs.1) ps) a.1 _ are.1))
        (cited 𝓤 H g 𝓜 𝓡 env #g routine is-g met) z.0.1) are))
