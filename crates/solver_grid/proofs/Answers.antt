-- The codes and the answers of the calls, case by case, over any relation of the numbers.
--   many_is   : what passes the first two codes has two numbers a node
--   room_fits : and what passes that of the room has room for them
--   refuses, lays : a refusal, and a success
-- Assumes nothing.
use Rattle.std.proofs.Common.{◌≡◌, ℕ, ◌*◌, ◌<◌, ◌≤◌, List, length, sym, refl, ap, subst}
use native.Mathlib.Nat as N
use Rattle.algebra.proofs.Truth.{not-not}
use Rattle.element.specs.Refusals.{Codes, Accepted, Coded}
use Rattle.element.proofs.Refusals.{coded-some}
use Rattle.solver_grid.specs.Calls.{scaled, list_codes, Filled, Kept, Laid}
use Rattle.solver_grid.specs.declared.Scaled.{Scaled}

pub many_is : (n many : ℕ) → Accepted (list_codes n many) → many ≡ 2 * n
many_is n many a = not-not many (2 * n) a.1.0

pub room_fits : (n many room : ℕ) → many ≡ 2 * n → ¬ (room < 2 * n) → many ≤ room
room_fits n many room e h = N.le_of_suc-le-suc (N.lt_of_not-le (λ k. h (subst (λ m. room < m) e k)))

pub refuses : {B : Type 0} (o : Codes ℕ) (before : List B) (r : Scaled) {c : ℕ} → r ≡ scaled c 0 → Coded o c → ¬ (c ≡ 0) → Kept o before r before
refuses o before r e p h =
    subst (λ q. Kept o before q before) (sym e) (record { refused = coded-some p h; zeros = refl; untouched = refl })

pub lays : {A B : Type 0} (R : A → B → Type 0) (o : Codes ℕ) (n : ℕ) (xs : List A) (before : List B) (r : Scaled) {after : List B}
    → r ≡ scaled 0 (length xs)
    → Accepted o
    → length xs ≡ 2 * n
    → Filled R (length xs) xs before after
    → Laid R o n xs before r after
lays R o n xs before r {after} e a m f =
    subst (λ q. Laid R o n xs before q after) (sym e)
    (record { accepted = a; answer = ap (scaled 0) m; filled = subst (λ k. Filled R k xs before after) m f })
