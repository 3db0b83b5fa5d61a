-- The sums that the code writes out are the halves of a line.
--   pair, three, middle, sums == those sums, as expressions
--   line-halved : they are the new values by the binomial weights
--   new-size    : new values have the factor 8
--   half-size   : and so have the halves of a cell
--   line-each   : a line of small values
--   line-held   : what the machine holds of a half of a line
-- Assumes nothing.
use mathlib.Core.Path.{◌≡◌, ◌∙◌, ap, subst}
use mathlib.Core.List.{List, [], ◌∷◌, map}
use Prim.Native.Nat.{ℕ, ◌+◌, ◌*◌, ◌<◌}
use lib.Dec.{lit<}
use lib.IntN.{ℤ, pos}
use lib.ListN.{get_or}
use mir.Syntax.{w64}
use mir.Val.{to_z, of_z}
use Rattle.algebra.specs.Expr.{Expr, var, con, ◌⊕◌, ◌⊗◌, look, evals}
use Rattle.algebra.specs.Within.{Within, Each}
use Rattle.algebra.proofs.Within.{got, each_nil, each-cons}
use Rattle.forms.specs.Rows.{Row, weigh}
use Rattle.forms.specs.Quads.{Half, lower, upper}
use Rattle.forms.proofs.Cells.{weigh-size}
use Rattle.cells.proofs.Sums.{sums-are}
use Rattle.quad_cuts.specs.Halves.{weights, line, new_value, Halved, half_u}
use Rattle.quad_cuts.specs.declared.by_halves.Line.{Line}
use Rattle.quad_cuts.proofs.Halves.{weights-add}

abbrev pair : ℕ → ℕ → Expr
pair i j = var i ⊕ var j

abbrev three : ℕ → ℕ → ℕ → Expr
three i j k = pair i j ⊕ pair j k

abbrev middle : Expr
middle = three 0 1 2 ⊕ three 1 2 3

abbrev times : ℕ → Expr → Expr
times n e = con (pos n) ⊗ e

abbrev sums : Half → List Expr
sums lower = times 8 (var 0) ∷ times 4 (pair 0 1) ∷ times 2 (three 0 1 2) ∷ middle ∷ []
sums upper = middle ∷ times 2 (three 1 2 3) ∷ times 4 (pair 2 3) ∷ times 8 (var 3) ∷ []

abbrev rows : Half → List Row
rows h = weights h 0 ∷ weights h 1 ∷ weights h 2 ∷ weights h 3 ∷ []

pub line-halved : (h : Half) (x y z w : ℤ) (n : Line) → n.a ∷ n.b ∷ n.c ∷ n.d ∷ [] ≡ evals (x ∷ y ∷ z ∷ w ∷ []) (sums h)
    → Halved h (x ∷ y ∷ z ∷ w ∷ []) n
unfolding weigh
line-halved h x y z w n e = record { a = at 0; b = at 1; c = at 2; d = at 3 }
  where
    ρ : List ℤ
    ρ = x ∷ y ∷ z ∷ w ∷ []

    go : (h : Half) → evals (x ∷ y ∷ z ∷ w ∷ []) (sums h) ≡ map (λ r. weigh r (look ρ)) (rows h)
    go lower = sums-are ρ (sums lower) (rows lower) tt
    go upper = sums-are ρ (sums upper) (rows upper) tt

    at : (k : ℕ) → get_or (n.a ∷ n.b ∷ n.c ∷ n.d ∷ []) k (pos 0) ≡ get_or (map (λ r. weigh r (look ρ)) (rows h)) k (pos 0)
    at k = ap (λ (l : List ℤ). get_or l k (pos 0)) (e ∙ go h)

-- each new value has the factor 8
pub new-size : (h : Half) (n a : ℕ) (f : ℕ → ℤ) → a < 4 → ((k : ℕ) → Within n (f k)) → Within (8 * n) (weigh (weights h a) f)
new-size h n a f k p = subst (λ (t : ℕ). Within (t * n) (weigh (weights h a) f)) (weights-add h a k) (weigh-size n (weights h a) f p)

-- ---- what the machine holds of a half of a line of the cell c
abbrev word : ℤ → ℤ
word z = to_z w64 (of_z w64 z)

pub record Held (h : Half) (l : List ℤ) (n : Line) : Type 0 where
  pub a : word n.a ≡ new_value h l 0
  pub b : word n.b ≡ new_value h l 1
  pub c : word n.c ≡ new_value h l 2
  pub d : word n.d ≡ new_value h l 3

abbrev size : ℕ
size = 576460752303423488

pub line-each : {n : ℕ} {c : List ℤ} → Each n c → (i j k l : ℕ) → Each n (line c i j k l)
line-each p i j k l = each-cons (p.at i) (each-cons (p.at j) (each-cons (p.at k) (each-cons (p.at l) each_nil)))

pub line-held : {c : List ℤ} → Each size c → (i j k l : ℕ) {h : Half} {n : Line} → Halved h (line c i j k l) n → Held h (line c i j k l) n
line-held {c} p i j k l {h} q =
    record {
      a = (got q.a (new-size h size 0 _ (lit< tt) (line-each p i j k l).at) tt).same;
      b = (got q.b (new-size h size 1 _ (lit< tt) (line-each p i j k l).at) tt).same;
      c = (got q.c (new-size h size 2 _ (lit< tt) (line-each p i j k l).at) tt).same;
      d = (got q.d (new-size h size 3 _ (lit< tt) (line-each p i j k l).at) tt).same;
    }

-- ---- a half of a cell
pub half-size : (h : Half) (n : ℕ) (c : List ℤ) → Each n c → Each (8 * n) (half_u h c)
half-size h n c p =
    (each-cons (new 0 0 (lit< tt)) (each-cons (new 1 0 (lit< tt)) (each-cons (new 2 0 (lit< tt)) (each-cons (new 3 0 (lit< tt))
    (each-cons (new 0 1 (lit< tt)) (each-cons (new 1 1 (lit< tt)) (each-cons (new 2 1 (lit< tt)) (each-cons (new 3 1 (lit< tt))
    (each-cons (new 0 2 (lit< tt)) (each-cons (new 1 2 (lit< tt)) (each-cons (new 2 2 (lit< tt)) (each-cons (new 3 2 (lit< tt))
    (each-cons (new 0 3 (lit< tt)) (each-cons (new 1 3 (lit< tt)) (each-cons (new 2 3 (lit< tt)) (each-cons (new 3 3 (lit< tt))
    each_nil))))))))))))))))
  where
    new : (a j : ℕ) → a < 4 → Within (8 * n) (weigh (weights h a) (λ i. get_or c (i + 4 * j) (pos 0)))
    new a j k = new-size h n a (λ i. get_or c (i + 4 * j) (pos 0)) k (λ i. p.at (i + 4 * j))
