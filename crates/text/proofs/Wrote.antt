-- Pieces of text written one behind the other.
--   wrote_none, wrote-short : nothing; a text with no room
--   wrote-more : a piece behind a piece
--   wrote_as, wrote-to : the same text, or the same place after it, by another name
--   take_none  : a text's first no bytes
-- Assumes nothing.
use mathlib.Core.Path.{◌≡◌, refl, sym, ◌∙◌, ap, subst}
use mathlib.Core.List.{List, [], ◌∷◌, ◌++◌}
use Prim.Native.Nat.{ℕ, ◌+◌, ◌<◌}
use native.Mathlib.Nat as N
use native.Mathlib.Omega.{arith}
use lib.ListN.{length, take, drop, length-append, take-append-drop}
use Rattle.endian.specs.Numbers.{over}
use Rattle.endian.proofs.Writes.{over-more}
use Rattle.text.specs.Writing.{Wrote}

pub wrote_none : (o : List ℕ) (at : ℕ) → Wrote o at [] o at
wrote_none o at =
    record {
      size = refl;
      place = λ h. sym (N.add-zero at);
      content = λ h. sym (ap (λ (n : ℕ). take at o ++ drop n o) (N.add-zero at) ∙ take-append-drop at o);
    }

pub wrote-short : (o : List ℕ) (at : ℕ) (t : List ℕ) → length o < at + length t → Wrote o at t o at
wrote-short o at t h = record { size = refl; place = λ k. absurd (omega arith); content = λ k. absurd (omega arith) }

pub wrote-more : {o t o' u o'' : List ℕ} {at p q : ℕ} → Wrote o at t o' p → Wrote o' p u o'' q → Wrote o at (t ++ u) o'' q
wrote-more {o} {t} {o'} {u} {o''} {at} {p} {q} v w =
    let n = length-append t u in
    let s = v.size in
    record {
      size = w.size ∙ v.size;
      place = λ h. let e = v.place (omega arith) in let f = w.place (omega arith) in omega arith;
      content = λ h.
          let e = v.place (omega arith) in
          w.content (omega arith)
          ∙ ap (λ (m : ℕ). over o' m u) e
          ∙ ap (λ (l : List ℕ). over l (at + length t) u) (v.content (omega arith))
          ∙ over-more t u o at (omega arith);
    }

pub wrote_as : {o t u o' : List ℕ} {at p : ℕ} → Wrote o at t o' p → t ≡ u → Wrote o at u o' p
wrote_as {o} {o' = o'} {at = at} {p = p} w e = subst (λ l. Wrote o at l o' p) e w

pub wrote-to : {o t o' : List ℕ} {at p q : ℕ} → Wrote o at t o' p → p ≡ q → Wrote o at t o' q
wrote-to {o} {t} {o'} {at} w e = subst (λ p. Wrote o at t o' p) e w

pub take_none : (l : List ℕ) → take 0 l ≡ []
take_none [] = refl
take_none (x ∷ l) = refl
