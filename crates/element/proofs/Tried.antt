-- Elements that a call takes, or refuses for their corners alone, by tests that compute; coordinates as they stand.
--   coords_within, within-at : numbers within a limit
--   listed, list_inside  : a coordinate list as long as the kind's, and within its limit
--   sound, list-accepted : that, and no two corners at one place
--   kind-of-nodes, is-kind : a kind and its number
--   accepts, accepted-kind : an element that `verdict` accepts
--   collapses, collapsed-kind : one that it refuses with 21
-- Assumes nothing.
use mathlib.Core.Path.{◌≡◌, refl}
use mathlib.Core.Bool.{Bool, true, not, ◌&&◌}
use mathlib.Core.List.{List, [], ◌∷◌}
use mathlib.Core.Logic.{inl, inr}
use Prim.Native.Nat.{ℕ, zero, suc, ◌*◌, ◌≤◌, zero-le}
use native.Mathlib.Nat as N
use lib.Dec.{T, leb, eqb, leb→le, eqb→eq}
use lib.IntN.{ℤ, nat_abs}
use lib.ListN.{length}
use Rattle.algebra.proofs.Truth.{T_and}
use Rattle.element.specs.Kinds.{Kind, six, eight, nine, ten, node_count, kind_of, NotKind, coordinate_limit, greatest_level}
use Rattle.element.specs.Control.{at}
use Rattle.element.specs.Corners.{Collapsed}
use Rattle.element.specs.Refusals.{Refused, Accepted, AboveLevel, WrongLength, Outside, verdict_codes}
use Rattle.element.proofs.Corners.{merged, merged-is, not-merged}

-- ---- the list
abbrev pub coords_within : ℕ → List ℤ → Bool
coords_within n [] = true
coords_within n (z ∷ xs) = leb (nat_abs z) n && coords_within n xs

pub within-at : (n : ℕ) (xs : List ℤ) → T (coords_within n xs) → (i : ℕ) → nat_abs (at xs i) ≤ n
within-at n [] t i = zero-le
within-at n (z ∷ xs) t zero = leb→le (nat_abs z) n (T_and (leb (nat_abs z) n) (coords_within n xs) t).0
within-at n (z ∷ xs) t (suc i) = within-at n xs (T_and (leb (nat_abs z) n) (coords_within n xs) t).1 i

abbrev pub listed : Kind → List ℤ → Bool
listed k xs = eqb (length xs) (2 * node_count k) && coords_within (coordinate_limit k) xs

pub list_inside : (k : Kind) (xs : List ℤ) → T (listed k xs) → ¬ WrongLength (node_count k) xs × ¬ Outside k xs
list_inside k xs t =
    let (a, b) = T_and (eqb (length xs) (2 * node_count k)) (coords_within (coordinate_limit k) xs) t in
    ((λ f. f (eqb→eq (length xs) (2 * node_count k) a)), (λ f. N.not-le_of_lt f.0.2 (within-at (coordinate_limit k) xs b f.0.0)))

abbrev pub sound : Kind → List ℤ → Bool
sound k xs = listed k xs && not (merged k xs)

pub list-accepted : (k : Kind) (xs : List ℤ) → T (sound k xs) → ¬ WrongLength (node_count k) xs × ¬ Outside k xs × ¬ Collapsed k xs
list-accepted k xs t =
    let (a, b) = T_and (listed k xs) (not (merged k xs)) t in
    let (many, inside) = list_inside k xs a in
    (many, inside, not-merged k xs b)

-- ---- the kind
pub kind-of-nodes : (k : Kind) → kind_of (node_count k) ≡ k
kind-of-nodes six = refl
kind-of-nodes eight = refl
kind-of-nodes nine = refl
kind-of-nodes ten = refl

pub is-kind : (k : Kind) → ¬ NotKind (node_count k)
is-kind six f = f.0.0 refl
is-kind eight f = f.0.1 refl
is-kind nine f = f.0.2 refl
is-kind ten f = f.1 refl

-- ---- with a level limit
level-within : (k : Kind) (l : ℕ) → T (leb l (greatest_level k)) → ¬ AboveLevel k l
level-within k l t h = N.not-le_of_lt h (leb→le l (greatest_level k) t)

abbrev pub accepts : Kind → ℕ → List ℤ → Bool
accepts k l xs = leb l (greatest_level k) && sound k xs

pub accepted-kind : (k : Kind) (l : ℕ) (xs : List ℤ) → T (accepts k l xs) → Accepted (verdict_codes (node_count k) l xs)
accepted-kind k l xs t =
    let (a, u) = T_and (leb l (greatest_level k)) (sound k xs) t in
    let (many, inside, corners) = list-accepted k xs u in
    rw (kind-of-nodes k)
    (is-kind k, (level-within k l a, (many, (inside, (corners, tt)))))

abbrev pub collapses : Kind → ℕ → List ℤ → Bool
collapses k l xs = leb l (greatest_level k) && (listed k xs && merged k xs)

pub collapsed-kind : (k : Kind) (l : ℕ) (xs : List ℤ) → T (collapses k l xs) → Refused (verdict_codes (node_count k) l xs) 21
collapsed-kind k l xs t =
    let (a, u) = T_and (leb l (greatest_level k)) (listed k xs && merged k xs) t in
    let (b, c) = T_and (listed k xs) (merged k xs) u in
    let (many, inside) = list_inside k xs b in
    rw (kind-of-nodes k)
    (inr (is-kind k, inr (level-within k l a, inr (many, inr (inside, inl (merged-is k xs c, refl))))))
