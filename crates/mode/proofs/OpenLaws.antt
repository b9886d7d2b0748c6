-- Opening undoes sealing, and refuses exactly what is no sealed form. Crypting is its own inverse, and a ciphertext and its tag
-- are told apart by the tag's length alone.
use mathlib.Core.Path.{◌≡◌, refl, sym, ap, ◌∙◌}
use mathlib.Core.Logic.{◌↔◌}
use mathlib.Core.Bool.{Bool, true, false, false≢true}
use mathlib.Core.List.{List, ◌++◌}
use Prim.Native.Nat.{ℕ, ◌-◌, ◌≤◌}
use native.Mathlib.Omega.{arith}
use lib.ListN.{length, take, length-append, length-take, take-append-drop}
use lib.Seq.{take_at, drop_at}
use Rattle.octets.proofs.BytesLaws.{same_true, same_refl}
use Rattle.mode.specs.Mode.{hash_key, first_block, whole_tag, sealed_by, sealed, ciphertext_of, tag_of, genuine, opened}
use Rattle.counter.specs.Counter.{crypted}
use Rattle.mode.proofs.ModeLaws.{length-tag}
use Rattle.counter.proofs.CounterLaws.{crypted_twice}

ciphertext-of : (c tag : List ℕ) (t : ℕ) → length tag ≡ t → ciphertext_of t (c ++ tag) ≡ c
ciphertext-of c tag t h = take_at c tag (length (c ++ tag) - t) (rw length-append (omega arith))

tag-of : (c tag : List ℕ) (t : ℕ) → length tag ≡ t → tag_of t (c ++ tag) ≡ tag
tag-of c tag t h = drop_at c tag (length (c ++ tag) - t) (rw length-append (omega arith))

-- the tag of t bytes that a ciphertext has
abbrev tag_for : (List ℕ → List ℕ) → List ℕ → List ℕ → ℕ → List ℕ → List ℕ
tag_for e iv ad t c = take t (whole_tag e (first_block (hash_key e) iv) ad c)

length-tag_for : (e : List ℕ → List ℕ) (iv ad : List ℕ) (t : ℕ) (c : List ℕ) → t ≤ 16 → length (tag_for e iv ad t c) ≡ t
length-tag_for e iv ad t c h = simp (length-take, length-tag) (omega arith)

-- a sealed form passes the test
pub sealed-genuine : (e : List ℕ → List ℕ) (iv ad : List ℕ) (t : ℕ) (text : List ℕ) → t ≤ 16
    → genuine e iv ad t (sealed e iv ad t text) ≡ true
unfolding genuine sealed sealed_by
sealed-genuine e iv ad t text h =
    let c = crypted e (first_block (hash_key e) iv) text in
    let long = length-tag_for e iv ad t c h in
    rw (tag-of c (tag_for e iv ad t c) t long, ciphertext-of c (tag_for e iv ad t c) t long) (same_refl (tag_for e iv ad t c))

module _ (e : List ℕ → List ℕ) (sixteen : (b : List ℕ) → length (e b) ≡ 16) (iv ad : List ℕ) (t : ℕ) where
  pub opens-sealed : (text : List ℕ) → t ≤ 16 → opened e iv t (sealed e iv ad t text) ≡ text
  unfolding opened sealed sealed_by
  opens-sealed text h =
      let j = first_block (hash_key e) iv in
      let c = crypted e j text in
      ap (crypted e j) (ciphertext-of c (tag_for e iv ad t c) t (length-tag_for e iv ad t c h)) ∙ crypted_twice e sixteen j text

  -- what passes the test is the sealed form of what it opens to
  pub genuine-sealed : (s : List ℕ) → genuine e iv ad t s ≡ true → sealed e iv ad t (opened e iv t s) ≡ s
  unfolding genuine sealed sealed_by opened
  genuine-sealed s g =
      let c = ciphertext_of t s in
      rw (crypted_twice e sixteen (first_block (hash_key e) iv) c, ← same_true (tag_of t s) (tag_for e iv ad t c) g)
      (take-append-drop (length s - t) s)

  -- the test fails exactly where no text has that sealed form
  pub refused_exactly : (s : List ℕ) → t ≤ 16
      → (genuine e iv ad t s ≡ false) ↔ ((text : List ℕ) → sealed e iv ad t text ≡ s → ⊥)
  refused_exactly s h = (forth, λ none. back (genuine e iv ad t s) refl none)
    where
      forth : genuine e iv ad t s ≡ false → (text : List ℕ) → sealed e iv ad t text ≡ s → ⊥
      forth g text q = false≢true (sym g ∙ ap (genuine e iv ad t) (sym q) ∙ sealed-genuine e iv ad t text h)

      back : (b : Bool) → genuine e iv ad t s ≡ b → ((text : List ℕ) → sealed e iv ad t text ≡ s → ⊥)
          → genuine e iv ad t s ≡ false
      back true g none = absurd (none (opened e iv t s) (genuine-sealed s g))
      back false g none = g

  -- no two texts have one sealed form
  pub only_text : (text text' : List ℕ) → t ≤ 16 → sealed e iv ad t text ≡ sealed e iv ad t text' → text ≡ text'
  only_text text text' h q = sym (opens-sealed text h) ∙ ap (opened e iv t) q ∙ opens-sealed text' h
