-- Straight elements at the ends of i32 and of their limits (02, Ask 7).
--   parts k        == into how many parts a kind's nodes part an edge
--   Spot           == a place in such parts of a width and of a height; spots k has those of a kind's nodes
--   box k x y w h  == the straight element of width w and height h whose first node is (x, y); parts are rounded down
--   least32, most32 n == the least i32, and the one n below the greatest
--   lowest, highest k   == an element of the greatest width and height from its first node on, at the lower and at the upper end of i32
--   wider, taller k     == one that is wider, or higher, by one
--   twice k        == one within the limit whose differences are twice the limit
--   across k       == one within the limit along x alone, and near its first node along y alone
--   wrapped k      == one from the one end of i32 to the other
--   ends k xs      == the first node, the x of the corner along x and the y of the corner along y
-- Definitions only.
use Rattle.std.specs.Prelude.{List, [], ◌∷◌, ℕ, ◌+◌, ◌*◌, ◌-◌, ◌/◌, ℤ, pos, neg_ℤ, ◌+ℤ◌}
use Rattle.element.specs.Kinds.{Kind, six, eight, nine, ten, coordinate_limit}
use Rattle.element.specs.Control.{at}

abbrev pub parts : Kind → ℕ
parts six = 2
parts eight = 2
parts nine = 2
parts ten = 3

abbrev pub Spot : Type 0
Spot = ℕ × ℕ

-- triangles: corners, then middles, or two on each edge and the centre; quads in rows
abbrev pub spots : Kind → List Spot
spots six = (0, 0) ∷ (2, 0) ∷ (0, 2) ∷ (1, 0) ∷ (1, 1) ∷ (0, 1) ∷ []
spots eight = (0, 0) ∷ (1, 0) ∷ (2, 0) ∷ (0, 1) ∷ (2, 1) ∷ (0, 2) ∷ (1, 2) ∷ (2, 2) ∷ []
spots nine = (0, 0) ∷ (1, 0) ∷ (2, 0) ∷ (0, 1) ∷ (1, 1) ∷ (2, 1) ∷ (0, 2) ∷ (1, 2) ∷ (2, 2) ∷ []
spots ten = (0, 0) ∷ (3, 0) ∷ (0, 3) ∷ (1, 0) ∷ (2, 0) ∷ (2, 1) ∷ (1, 2) ∷ (0, 2) ∷ (0, 1) ∷ (1, 1) ∷ []

abbrev pub spread : ℕ → ℤ → ℤ → ℕ → ℕ → List Spot → List ℤ
spread m x y w h [] = []
spread m x y w h (s ∷ ss) = (x +ℤ pos (s.0 * w / m)) ∷ (y +ℤ pos (s.1 * h / m)) ∷ spread m x y w h ss

abbrev pub box : Kind → ℤ → ℤ → ℕ → ℕ → List ℤ
box k x y w h = spread (parts k) x y w h (spots k)

abbrev pub least32 : ℤ
least32 = neg_ℤ (pos 2147483648)

abbrev pub most32 : ℕ → ℤ
most32 n = pos (2147483647 - n)

module _ (k : Kind) where
  abbrev pub C : ℕ
  C = coordinate_limit k

  abbrev pub lowest : List ℤ
  lowest = box k least32 least32 C C

  abbrev pub highest : List ℤ
  highest = box k (most32 C) (most32 C) C C

  abbrev pub wider : List ℤ
  wider = box k least32 least32 (C + 1) C

  abbrev pub taller : List ℤ
  taller = box k (most32 C) (most32 (C + 1)) C (C + 1)

  abbrev pub twice : List ℤ
  twice = box k (neg_ℤ (pos C)) (neg_ℤ (pos C)) (2 * C) (2 * C)

  abbrev pub across : List ℤ
  across = box k (neg_ℤ (pos C)) least32 (2 * C) C

  abbrev pub wrapped : List ℤ
  wrapped = box k least32 (pos 0) 4294967295 C

-- ---- where an element reaches
-- where the x of A1 or 20 stands, and the y of A2 or 02
abbrev pub right : Kind → ℕ
right six = 2
right eight = 4
right nine = 4
right ten = 2

abbrev pub top : Kind → ℕ
top six = 5
top eight = 11
top nine = 13
top ten = 5

abbrev pub ends : Kind → List ℤ → List ℤ
ends k xs = at xs 0 ∷ at xs 1 ∷ at xs (right k) ∷ at xs (top k) ∷ []
