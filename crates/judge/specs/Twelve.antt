-- The twelve elements of 01 ("Twelve elements to prove"): each with its limit, its control values, and its verdict or its refusal.
--   F t, G t s      == the triangles of the two families
--   grid9 k c       == the nine-node quad with nodes (k·i, k·j) and the given centre
--   Outcome         == a verdict, or the code of a refusal
--   Row             == an element, a limit, its values and the outcome
--   twelve          == the list
--   Says k xs L o   == the claim about an outcome: a verdict is that of an accepted element, and a code the one that refuses it
--   Holds r         == the claim about a row
-- Definitions only.
use Rattle.std.specs.Prelude.{◌≡◌, List, [], ◌∷◌, ◌++◌, ℕ, ◌+◌, ◌*◌, ℤ, pos, neg_ℤ, replicate}
use Rattle.element.specs.Kinds.{Kind, six, nine, node_count}
use Rattle.element.specs.Control.{control_values}
use Rattle.element.specs.Refusals.{Refused, Accepted, verdict_codes}
use Rattle.judge.specs.Verdict.{Answer, is_valid, is_invalid, is_undecided, Judges}
use Rattle.judge.specs.Elements.{subject}

abbrev pub n : ℕ → ℤ
n k = neg_ℤ (pos k)

-- "F(t): A0(0,0), A1(8,0), A2(0,8), M12(4,4), M02(0,4), M01(4,t)"
abbrev pub F : ℕ → List ℤ
F t = pos 0 ∷ pos 0 ∷ pos 8 ∷ pos 0 ∷ pos 0 ∷ pos 8 ∷ pos 4 ∷ pos t ∷ pos 4 ∷ pos 4 ∷ pos 0 ∷ pos 4 ∷ []

-- "G(t,s): A0(-8,0), A1(8,0), A2(0,16), M01(0,t), M12(4+s,8), M02(-4-s,8)"
abbrev pub G : ℕ → ℕ → List ℤ
G t s = n 8 ∷ pos 0 ∷ pos 8 ∷ pos 0 ∷ pos 0 ∷ pos 16 ∷ pos 0 ∷ pos t ∷ pos (4 + s) ∷ pos 8 ∷ n (4 + s) ∷ pos 8 ∷ []

abbrev pub grid9 : ℕ → ℕ → ℕ → List ℤ
grid9 k x y =
    pos 0 ∷ pos 0 ∷ pos k ∷ pos 0 ∷ pos (2 * k) ∷ pos 0
    ∷ pos 0 ∷ pos k ∷ pos x ∷ pos y ∷ pos (2 * k) ∷ pos k
    ∷ pos 0 ∷ pos (2 * k) ∷ pos k ∷ pos (2 * k) ∷ pos (2 * k) ∷ pos (2 * k) ∷ []

pub data Outcome : Type 0 where
  judged : Answer → Outcome
  refused : ℕ → Outcome

pub record Row : Type 0 where
  pub kind : Kind
  pub coords : List ℤ
  pub limit : ℕ
  pub values : List ℤ
  pub outcome : Outcome

abbrev pub row : Kind → List ℤ → ℕ → List ℤ → Outcome → Row
row k xs L c o = record { kind = k; coords = xs; limit = L; values = c; outcome = o }

abbrev pub G84 : List ℤ
G84 = pos 1024 ∷ pos 1024 ∷ pos 1536 ∷ n 1024 ∷ pos 256 ∷ pos 256 ∷ []

-- "rows J = 0, 3: all 576; rows 1, 2: 1344 832 320 -192"
abbrev pub off_centre : List ℤ
off_centre =
    replicate 4 (pos 576)
    ++ (pos 1344 ∷ pos 832 ∷ pos 320 ∷ n 192 ∷ pos 1344 ∷ pos 832 ∷ pos 320 ∷ n 192 ∷ [])
    ++ replicate 4 (pos 576)

-- "The case of six equal nodes in 01 now gives this code", 21 (02, Ask 9)
abbrev pub twelve : List Row
twelve =
    row six (F 0) 0 (replicate 6 (pos 128)) (judged (is_valid 0 1))
    ∷ row six (F 1) 3 (pos 128 ∷ pos 64 ∷ pos 128 ∷ pos 96 ∷ pos 96 ∷ pos 128 ∷ []) (judged (is_valid 0 1))
    ∷ row six (F 2) 3 (pos 128 ∷ pos 0 ∷ pos 128 ∷ pos 64 ∷ pos 64 ∷ pos 128 ∷ []) (judged (is_invalid 0 1 0 (pos 0)))
    ∷ row six (F 3) 3 (pos 128 ∷ n 64 ∷ pos 128 ∷ pos 32 ∷ pos 32 ∷ pos 128 ∷ []) (judged (is_invalid 0 1 0 (n 64)))
    ∷ row six (G 4 2) 0 (pos 512 ∷ pos 512 ∷ pos 1024 ∷ pos 0 ∷ pos 512 ∷ pos 512 ∷ []) (judged (is_valid 0 1))
    ∷ row six (G 3 4) 3 (pos 704 ∷ pos 704 ∷ pos 1536 ∷ n 64 ∷ pos 736 ∷ pos 736 ∷ []) (judged (is_valid 1 4))
    ∷ row six (G 7 4) 3 (pos 960 ∷ pos 960 ∷ pos 1536 ∷ n 832 ∷ pos 352 ∷ pos 352 ∷ []) (judged (is_valid 1 4))
    ∷ row six (G 8 4) 3 G84 (judged (is_invalid 1 1 0 (pos 0)))
    ∷ row six (G 8 4) 0 G84 (judged (is_undecided 0 1))
    ∷ row six (replicate 12 (pos 0)) 3 (replicate 6 (pos 0)) (refused 21)
    ∷ row nine (grid9 1 1 1) 2 (replicate 16 (pos 144)) (judged (is_valid 0 1))
    ∷ row nine (grid9 2 3 2) 2 off_centre (judged (is_invalid 1 2 1 (pos 0)))
    ∷ []

abbrev pub Says : Kind → List ℤ → ℕ → Outcome → Type 0
Says k xs L (judged a) = Accepted (verdict_codes (node_count k) L xs) × Judges (subject k xs) L a
Says k xs L (refused c) = Refused (verdict_codes (node_count k) L xs) c

abbrev pub Holds : Row → Type 0
Holds r = (control_values r.kind r.coords ≡ r.values) × Says r.kind r.coords r.limit r.outcome

abbrev pub AllHold : List Row → Type 0
AllHold [] = Unit {0}
AllHold (r ∷ rs) = Holds r × AllHold rs
