-- Orders of codes of a list and of the moved list, where neither has 3 or 4.
--   list-refused, list-accepted : 21 stays, and what stands behind it counts
--   verdict-refused, verdict-accepted : `verdict` refuses and accepts the two alike
--   stored-accepted : and so does what takes the kinds of a block alone
-- n is the number given as the kind, xs the coordinate list, (a, b) the vector taken from each node. Assumes nothing.
use mathlib.Core.List.{List}
use mathlib.Core.Logic.{inl, inr}
use Prim.Native.Nat.{ℕ}
use lib.IntN.{ℤ}
use Rattle.element.specs.Kinds.{NotKind, kind_of}
use Rattle.element.specs.Origin.{moved_by}
use Rattle.element.specs.Refusals.{Codes, no_more, Refused, Accepted, element_codes, level_codes, verdict_codes, stored_codes}
use Rattle.element.proofs.Stored.{stored-kind}
use Rattle.element.proofs.Corners.{collapsed-moved, moved-collapsed}
use Rattle.faults.proofs.Limits.{kind-long}
use Rattle.origin.specs.Lists.{Sound}

module _ (n : ℕ) (xs : List ℤ) (a b : ℤ) (s : Sound n xs) (t : Sound n (moved_by a b xs)) where
  abbrev ys : List ℤ
  ys = moved_by a b xs

  module _ (k : ¬ NotKind n) (o p : Codes ℕ) where
    pub list-refused : (c : ℕ) → (Refused o c → Refused p c) → Refused (element_codes n xs o) c → Refused (element_codes n (moved_by a b xs) p) c
    list-refused c u (inl r) = absurd (s.0 r.0)
    list-refused c u (inr (f, inl r)) = absurd (s.1 r.0)
    list-refused c u (inr (f, inr (g, inl (d, e)))) = inr (t.0, inr (t.1, inl (collapsed-moved a b (kind_of n) xs (kind-long n xs k f) d, e)))
    list-refused c u (inr (f, inr (g, inr (d, r)))) =
        inr (t.0, inr (t.1, inr ((λ h. d (moved-collapsed a b (kind_of n) xs (kind-long n xs k f) h), u r))))

    pub list-accepted : (Accepted o → Accepted p) → Accepted (element_codes n xs o) → Accepted (element_codes n (moved_by a b xs) p)
    list-accepted u (f, (g, (d, r))) = (t.0, (t.1, ((λ h. d (moved-collapsed a b (kind_of n) xs (kind-long n xs k f) h)), u r)))

  module _ (l : ℕ) where
    pub verdict-refused : (c : ℕ) → Refused (verdict_codes n l xs) c → Refused (verdict_codes n l (moved_by a b xs)) c
    verdict-refused c (inl r) = inl r
    verdict-refused c (inr (f, inl r)) = inr (f, inl r)
    verdict-refused c (inr (f, inr (g, r))) = inr (f, inr (g, list-refused f no_more no_more c (λ q. q) r))

    level-accepted : ¬ NotKind n → Accepted (level_codes n l xs) → Accepted (level_codes n l ys)
    level-accepted f (g, r) = (g, list-accepted f no_more no_more (λ q. q) r)

    pub verdict-accepted : Accepted (verdict_codes n l xs) → Accepted (verdict_codes n l (moved_by a b xs))
    verdict-accepted (f, r) = (f, level-accepted f r)

    pub stored-accepted : Accepted (stored_codes n l xs) → Accepted (stored_codes n l (moved_by a b xs))
    stored-accepted (f, r) = (f, level-accepted (stored-kind f) r)
