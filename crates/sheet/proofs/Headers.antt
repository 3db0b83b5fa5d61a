-- The header of a sheet, by the tests of the code.
--   short-header, headed-is : a sheet of fewer than five bytes, and one of more
-- Assumes nothing.
use mathlib.Core.Path.{◌≡◌, refl, sym, ◌∙◌, ap, subst}
use mathlib.Core.Bool.{Bool, true, false, ◌&&◌}
use mathlib.Core.List.{List, [], ◌∷◌, ◌++◌}
use Prim.Native.Nat.{ℕ, ◌≤◌, ◌<◌}
use native.Mathlib.Omega.{arith}
use lib.Dec.{T, eqb, eqb→eq}
use lib.ListN.{length, get_or, drop}
use Rattle.algebra.proofs.Truth.{T_and, true-T, T_false}
use Rattle.cuttings.specs.Bytes.{header}
use Rattle.sheet.specs.Steps.{Headed}

pub short-header : (l : List ℕ) → length l < 5 → Headed l false
short-header l h m e = let f : length l ≡ length (header ++ m) = ap length e in omega arith

-- the five tests, as the code groups them
abbrev tests : List ℕ → Bool
tests l = (((eqb (get_or l 0 0) 67 && eqb (get_or l 1 0) 80) && eqb (get_or l 2 0) 83) && eqb (get_or l 3 0) 1) && eqb (get_or l 4 0) 0

pub headed-is : (l : List ℕ) → 5 ≤ length l → Headed l (tests l)
headed-is l h = go (tests l) refl
  where
    five : (l : List ℕ) → 5 ≤ length l → l ≡ get_or l 0 0 ∷ get_or l 1 0 ∷ get_or l 2 0 ∷ get_or l 3 0 ∷ get_or l 4 0 ∷ drop 5 l
    five [] h = absurd (omega arith)
    five (a ∷ []) h = absurd (omega arith)
    five (a ∷ b ∷ []) h = absurd (omega arith)
    five (a ∷ b ∷ c ∷ []) h = absurd (omega arith)
    five (a ∷ b ∷ c ∷ d ∷ []) h = absurd (omega arith)
    five (a ∷ b ∷ c ∷ d ∷ e ∷ l) h = refl

    all : (a b c d e : ℕ) (m : List ℕ) → a ≡ 67 → b ≡ 80 → c ≡ 83 → d ≡ 1 → e ≡ 0 → a ∷ b ∷ c ∷ d ∷ e ∷ m ≡ header ++ m
    all a b c d e m p q r s t = rw (p, q, r, s, t) refl

    go : (b : Bool) → tests l ≡ b → Headed l b
    go true e =
        let (x, p4) = T_and (((eqb (get_or l 0 0) 67 && eqb (get_or l 1 0) 80) && eqb (get_or l 2 0) 83) && eqb (get_or l 3 0) 1) (eqb (get_or l 4 0) 0) (true-T e) in
        let (y, p3) = T_and ((eqb (get_or l 0 0) 67 && eqb (get_or l 1 0) 80) && eqb (get_or l 2 0) 83) (eqb (get_or l 3 0) 1) x in
        let (z, p2) = T_and (eqb (get_or l 0 0) 67 && eqb (get_or l 1 0) 80) (eqb (get_or l 2 0) 83) y in
        let (p0, p1) = T_and (eqb (get_or l 0 0) 67) (eqb (get_or l 1 0) 80) z in
        five l h
        ∙ all (get_or l 0 0) (get_or l 1 0) (get_or l 2 0) (get_or l 3 0) (get_or l 4 0) (drop 5 l) (eqb→eq (get_or l 0 0) 67 p0) (eqb→eq (get_or l 1 0) 80 p1)
        (eqb→eq (get_or l 2 0) 83 p2) (eqb→eq (get_or l 3 0) 1 p3) (eqb→eq (get_or l 4 0) 0 p4)
    go false e = λ m f. T_false (tests l) e (subst (λ (k : List ℕ). T (tests k)) (sym f) tt)
