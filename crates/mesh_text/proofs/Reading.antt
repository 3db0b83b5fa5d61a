-- Numbers of digits, read up to a bound.
--   reads-above    : reading on never lessens a number
--   reads-clip     : a number that is cut at a bound on the way is the number cut at the bound
-- Assumes nothing.
use mathlib.Core.Path.{◌≡◌, sym, ap, ◌∙◌}
use mathlib.Core.List.{List, [], ◌∷◌}
use Prim.Native.Nat.{ℕ, ◌+◌, ◌-◌, ◌*◌, ◌≤◌, ◌<◌, min}
use native.Mathlib.Numerals.{add-one}
use native.Mathlib.Omega.{arith}
use borrow.Author.Tests.{ltb-true, ltb-false}
use lib.Dec.{ltb}
use lib.ListN.{length, drop, get_or}
use lib.Seq.{drop-cons}
use Rattle.text.specs.Writing.{reads_on, reads}
use Rattle.mesh_text.proofs.Rows.{by-test}

pub reads-above : (v : ℕ) (w : List ℕ) → v ≤ reads_on v w
reads-above v [] = omega arith
reads-above v (b ∷ w) = omega (arith, reads-above (10 * v + (b - 48)) w)

pub reads-clip : (m v : ℕ) (w : List ℕ) → min m (reads_on (min m v) w) ≡ min m (reads_on v w)
reads-clip m v w =
    by-test (ltb v m) (min m (reads_on (min m v) w) ≡ min m (reads_on v w))
    (λ e. let h = ltb-true v m e in ap (λ n. min m (reads_on n w)) (omega arith))
    (λ e. let h = ltb-false v m e in
    let k : min m v ≡ m = omega arith in
    ap (λ n. min m (reads_on n w)) k ∙ omega (arith, reads-above m w, reads-above v w))

-- the loop: one digit more
pub reads-step : (m v i : ℕ) (w : List ℕ)
    → i < length w
    → min m (reads w) ≡ min m (reads_on v (drop i w))
    → min m (reads w) ≡ min m (reads_on (min m (10 * v + (get_or w i 0 - 48))) (drop (i + 1) w))
reads-step m v i w h e =
    e
    ∙ ap (λ l. min m (reads_on v l)) (drop-cons w i 0 h)
    ∙ ap (λ n. min m (reads_on (10 * v + (get_or w i 0 - 48)) (drop n w))) (sym (add-one i))
    ∙ sym (reads-clip m (10 * v + (get_or w i 0 - 48)) (drop (i + 1) w))
