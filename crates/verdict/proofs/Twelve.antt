-- The twelve elements of 01, and the ten-node triangles of 02, as answers of the call `verdict`: it answers what the list says, in every field.
--   accepted-called, element-called : the call of an accepted element has the element's verdict as its answer, and no other
--   refused-called   : one that the order refuses has that refusal, and no other
--   twelve-called, tens-called : the claim, for each list
-- Assumes nothing.
use mathlib.Core.Path.{refl, sym, subst}
use mathlib.Core.List.{List, [], ◌∷◌}
use mathlib.Core.Logic.{inl, inr}
use Prim.Native.Nat.{ℕ}
use lib.Dec.{T}
use lib.IntN.{ℤ}
use Rattle.element.specs.Kinds.{Kind, node_count, kind_of}
use Rattle.element.specs.Refusals.{Refused, Accepted, verdict_codes}
use Rattle.element.proofs.Tried.{kind-of-nodes, accepts, accepted-kind}
use Rattle.judge.specs.Verdict.{Answer, Judges}
use Rattle.judge.specs.Elements.{subject}
use Rattle.judge.specs.Twelve.{Outcome, judged, refused, Row, twelve, Says, AllHold}
use Rattle.judge.specs.Tens.{tens}
use Rattle.judge.proofs.Twelve.{twelve-hold}
use Rattle.judge.proofs.Tens.{tens-hold}
use Rattle.verdict.specs.Calls.{given, refusal, VerdictOf, Only}
use Rattle.verdict.specs.Twelve.{told_of, AllCalled}
use Rattle.verdict.proofs.Judging.{refused-told}
use Rattle.verdict.proofs.Outcomes.{verdict-unique}

-- ---- one element
pub accepted-called : (k : Kind) (l : ℕ) (xs : List ℤ) (a : Answer) → Accepted (verdict_codes (node_count k) l xs)
    → Judges (subject k xs) l a
    → Only (VerdictOf (node_count k) l xs) (given a)
accepted-called k l xs a t j = record { allowed = v; no_other = λ s w. verdict-unique (node_count k) l xs s (given a) w v }
  where
    v : VerdictOf (node_count k) l xs (given a)
    v =
        inr (record {
          accepted = t;
          answer = a;
          judges = subst (λ (x : Kind). Judges (subject x xs) l a) (sym (kind-of-nodes k)) j;
          told = refl;
        })

pub element-called : (k : Kind) (l : ℕ) (xs : List ℤ) (a : Answer) → T (accepts k l xs)
    → Judges (subject k xs) l a
    → Only (VerdictOf (node_count k) l xs) (given a)
element-called k l xs a t j = accepted-called k l xs a (accepted-kind k l xs t) j

pub refused-called : (n l : ℕ) (xs : List ℤ) (c : ℕ) → Refused (verdict_codes n l xs) c → Only (VerdictOf n l xs) (refusal c)
refused-called n l xs c q =
    record {
      allowed = inl (record { refused = q; zeros = refl });
      no_other = refused-told (verdict_codes n l xs) (subject (kind_of n) xs) l c q;
    }

-- ---- the list
called : (k : Kind) (l : ℕ) (xs : List ℤ) (o : Outcome) → Says k xs l o → Only (VerdictOf (node_count k) l xs) (told_of o)
called k l xs (judged a) h = accepted-called k l xs a h.0 h.1
called k l xs (refused c) h = refused-called (node_count k) l xs c h

all-called : (rs : List Row) → AllHold rs → AllCalled rs
all-called [] h = tt
all-called (r ∷ rs) h = (called r.kind r.limit r.coords r.outcome h.0.1, all-called rs h.1)

pub twelve-called : AllCalled twelve
twelve-called = all-called twelve twelve-hold

pub tens-called : AllCalled tens
tens-called = all-called tens tens-hold
