-- `write_sheet` and `check_sheet` do not move with the origin (02, Ask 7).
--   written-moved  : answer and buffer of `write_sheet` are the same, in every field and byte, refused or not
--   checked-moved  : the answer of `check_sheet` to the same bytes is the same
-- Both speak of the cells alone, so of the control values. n is the number given as the kind, l the level limit, xs the coordinate list,
-- (a, b) the vector taken from each node. Assumes nothing.
use mathlib.Core.Path.{◌≡◌, sym, subst}
use mathlib.Core.List.{List}
use mathlib.Core.Logic.{inl, inr}
use Prim.Native.Nat.{ℕ}
use lib.IntN.{ℤ}
use lib.ListN.{length}
use Rattle.forms.specs.Cuttings.{Cutting}
use Rattle.element.specs.Kinds.{Kind, NotKind, kind_of}
use Rattle.element.specs.Jacobian.{jacobian}
use Rattle.element.specs.Control.{control_values}
use Rattle.element.specs.Origin.{moved_by}
use Rattle.element.specs.Refusals.{Codes, no_more, code, Refused, Accepted}
use Rattle.element.proofs.Stored.{stored-kind}
use Rattle.judge.specs.Verdict.{Answer, Passing, Valid}
use Rattle.judge.specs.Elements.{subject, subject_by}
use Rattle.sheet.specs.Calls.{Shown, check_codes, ChecksSheet, LeastCutting, NotValid, Short, write_codes, WritesSheet}
use Rattle.sheet.specs.declared.CheckedSheet.{CheckedSheet}
use Rattle.sheet.specs.declared.WrittenSheet.{WrittenSheet}
use Rattle.sheet.proofs.Checker.{check-unique}
use Rattle.sheet.proofs.Writer.{write-unique}
use Rattle.origin.specs.Lists.{Sound}
use Rattle.origin.proofs.Orders.{list-refused, list-accepted, stored-accepted}
use Rattle.origin.proofs.Subjects.{valid_same}
use Rattle.origin.proofs.Values.{element-values}

-- ---- from the values
module _ (k : Kind) (us vs : List ℤ) (e : control_values k us ≡ control_values k vs) where
  passing-as : (t : Cutting) → Passing (subject k us) t → Passing (subject k vs) t
  passing-as t p = subst (λ (c : List ℤ). Passing (subject_by k (jacobian k vs) c) t) e p

  pub shown-as : {l : ℕ} {m : List ℕ} → Shown k l us m → Shown k l vs m
  shown-as p = record { cutting = p.cutting; passing = passing-as p.cutting p.passing; within = p.within; bytes = p.bytes }

  pub valid-as : (l : ℕ) (x : Answer) → Valid (subject k us) l x → Valid (subject k vs) l x
  valid-as l x v =
      subst (λ (c : List ℤ). Valid (subject_by k (jacobian k vs) c) l x) e (valid_same k (jacobian k us) (jacobian k vs) (control_values k us) l x v)

  pub least-as : (l : ℕ) (t : Cutting) → LeastCutting (subject k us) l t → LeastCutting (subject k vs) l t
  least-as l t p =
      record {
        passing = passing-as t p.passing;
        within = p.within;
        fewest = λ u q h. p.fewest u (subst (λ (c : List ℤ). Passing (subject_by k (jacobian k us) c) u) (sym e) q) h;
      }

module _ (k : Kind) (us vs : List ℤ) (e : control_values k us ≡ control_values k vs) (l room : ℕ) where
  abbrev own : List ℤ → Codes ℕ
  own ws = code 20 (NotValid k l ws) (code 5 (Short k l ws room) no_more)

  pub own-refused : (c : ℕ) → Refused (own us) c → Refused (own vs) c
  own-refused c (inl (f, q)) = inl ((λ (x, v). f (x, valid-as k vs us (sym e) l x v)), q)
  own-refused c (inr (f, inl ((t, p, h), q))) =
      inr ((λ g. f (λ (x, v). g (x, valid-as k us vs e l x v))), inl ((t, least-as k us vs e l t p, h), q))
  own-refused c (inr (f, inr (g, r))) = absurd r

  pub own-accepted : Accepted (own us) → Accepted (own vs)
  own-accepted (f, (g, u)) =
      ((λ h. f (λ (x, v). h (x, valid-as k us vs e l x v))), ((λ (t, p, h). g (t, least-as k vs us (sym e) l t p, h)), u))

-- ---- the calls
module _ (n l : ℕ) (xs : List ℤ) (a b : ℤ) (s : Sound n xs) (t : Sound n (moved_by a b xs)) where
  abbrev ys : List ℤ
  ys = moved_by a b xs

  same : ¬ NotKind n → control_values (kind_of n) xs ≡ control_values (kind_of n) ys
  same f = sym (element-values n xs a b s f)

  module _ (before : List ℕ) where
    abbrev later : List ℤ → Codes ℕ
    later ws = code 20 (NotValid (kind_of n) l ws) (code 5 (Short (kind_of n) l ws (length before)) no_more)

    write-refused : (c : ℕ) → Refused (write_codes n l xs (length before)) c → Refused (write_codes n l ys (length before)) c
    write-refused c (inl r) = inl r
    write-refused c (inr (f, inl r)) = inr (f, inl r)
    write-refused c (inr (f, inr (g, r))) =
        inr (f, inr (g, list-refused n xs a b s t (stored-kind f) (later xs) (later ys) c (own-refused (kind_of n) xs ys (same (stored-kind f)) l (length before) c) r))

    write-accepted : Accepted (write_codes n l xs (length before)) → Accepted (write_codes n l ys (length before))
    write-accepted (f, (g, u)) =
        (f, (g, list-accepted n xs a b s t (stored-kind f) (later xs) (later ys) (own-accepted (kind_of n) xs ys (same (stored-kind f)) l (length before)) u))

    write_as : (r : WrittenSheet) (o : List ℕ) → WritesSheet n l xs before r o → WritesSheet n l ys before r o
    write_as r o (inl q) = inl (record { refused = write-refused r.code q.refused; zeros = q.zeros; untouched = q.untouched })
    write_as r o (inr q) =
        inr (record {
          accepted = write-accepted q.accepted;
          cutting = q.cutting;
          least = least-as (kind_of n) xs ys (same (stored-kind q.accepted.0)) l q.cutting q.least;
          answer = q.answer;
          filled = q.filled;
        })

    pub written-moved : (r r' : WrittenSheet) (o o' : List ℕ) → WritesSheet n l xs before r o
        → WritesSheet n l (moved_by a b xs) before r' o'
        → (r ≡ r') × (o ≡ o')
    written-moved r r' o o' q w = write-unique n l ys before r r' o o' (write_as r o q) w

  module _ (m : List ℕ) where
    abbrev last : List ℤ → Codes ℕ
    last ws = code 20 (¬ Shown (kind_of n) l ws m) no_more

    check-refused : (c : ℕ) → Refused (check_codes n l xs m) c → Refused (check_codes n l ys m) c
    check-refused c (inl r) = inl r
    check-refused c (inr (f, inl r)) = inr (f, inl r)
    check-refused c (inr (f, inr (g, r))) = inr (f, inr (g, list-refused n xs a b s t (stored-kind f) (last xs) (last ys) c go r))
      where
        go : Refused (last xs) c → Refused (last ys) c
        go (inl (h, q)) = inl ((λ p. h (shown-as (kind_of n) ys xs (sym (same (stored-kind f))) p)), q)
        go (inr (h, q)) = absurd q

    check-as : (r : CheckedSheet) → ChecksSheet n l xs m r → ChecksSheet n l ys m r
    check-as r (inl q) = inl (record { refused = check-refused r.code q.refused; zeros = q.zeros })
    check-as r (inr q) =
        inr (record {
          accepted = stored-accepted n xs a b s t l q.accepted;
          shown = shown-as (kind_of n) xs ys (same (stored-kind q.accepted.0)) q.shown;
          answer = q.answer;
        })

    pub checked-moved : (r r' : CheckedSheet) → ChecksSheet n l xs m r → ChecksSheet n l (moved_by a b xs) m r' → r ≡ r'
    checked-moved r r' q w = check-unique n l ys m r r' (check-as r q) w
