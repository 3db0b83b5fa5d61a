-- `mesh_text::word::is_minus` meets its contract, by the first byte.
use mathlib.Core.Path.{◌≡◌, refl, sym, ◌∙◌}
use mathlib.Core.Bool.{true, ◌&&◌}
use borrow.Author.Tests.{eqb-true, eqb-false, ne_eqb}
use lib.Dec.{eqb}
use Rattle.mesh_text.proofs.Rows.{by-test}
use mathlib.Core.List.{List, [], ◌∷◌}
use Prim.Native.Nat.{ℕ}
use Rattle.std.specs.Prelude.{nat_eq}
use Rattle.std.specs.List.{starts_with}
use Rattle.mesh_text.specs.Tests.{is_minus}
use Rattle.mesh_text.proofs.word.is_minus.Goals as goal

eq_turned : (b : ℕ) → (eqb 45 b && true) ≡ eqb b 45
eq_turned b = by-test (eqb b 45) ((eqb 45 b && true) ≡ eqb b 45)
    (λ e. rw (eqb-true b 45 e) refl)
    (λ e. rw (e, ne_eqb 45 b (λ z. eqb-false b 45 e (sym z))) refl)

minus_starts : (w : List ℕ) → starts_with nat_eq w (45 ∷ []) ≡ is_minus w
unfolding is_minus
minus_starts [] = refl
minus_starts (b ∷ w) = eq_turned b

pub returns : goal.returns
returns c = c.starts_with.ensures.value ∙ minus_starts c.args.w.now
