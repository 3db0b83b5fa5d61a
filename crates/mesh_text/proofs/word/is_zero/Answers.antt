-- `mesh_text::word::is_zero` meets its contract: a size that is cut at a bound above 0 is 0 where the size is.
use mathlib.Core.Path.{◌≡◌, refl, sym, ap, ◌∙◌}
use mathlib.Core.Bool.{◌&&◌}
use Prim.Native.Nat.{ℕ, zero, suc, min}
use native.Mathlib.Omega.{arith}
use borrow.Author.Tests.{ne_eqb}
use lib.Dec.{eqb}
use Rattle.mesh_text.specs.Tests.{whole_b, size_of, zero_b}
use Rattle.mesh_text.proofs.word.is_zero.Goals as goal

clip-zero : (n : ℕ) → eqb (min 4294967295 n) 0 ≡ eqb n 0
clip-zero zero = refl
clip-zero (suc n) = ne_eqb (min 4294967295 (suc n)) 0 (λ e. absurd (omega arith)) ∙ sym (ne_eqb (suc n) 0 (λ e. absurd (omega arith)))

pub returns : goal.returns
unfolding zero_b
returns c =
    let w = c.args.w.now in
    ap (λ b. b && eqb c.size-n.result 0) c.is_whole-whole.ensures
    ∙ ap (λ n. whole_b w && eqb n 0) c.size-n.ensures
    ∙ ap (λ b. whole_b w && b) (clip-zero (size_of w))
