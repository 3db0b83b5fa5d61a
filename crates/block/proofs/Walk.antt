-- The walks over the records of a block, fault by fault: once for every order of the records' faults.
--   Passed o k   == no record before record k has a fault of its order
--   passed_none, passed_to, passed-more : none; some more, and one more
--   each-refused, each-passed, each-accepted, each-some : the orders of n records, one behind the other
--   low-more     : the least id of the next record
--   header_refused, walk_refused, walk-accepted, signs-refused, signs-accepted : what the check answers, from the header and the records
--   unsigned-passed : up to the next signed record no record differs from its sign
--   form-header, form-at, accepted-form, accepted-header, accepted-at, accepted-kept : in a block without a fault neither the header nor a
--   record has one
--   form-some, block-some : no fault of a block has the code 0
-- Assumes nothing.
use mathlib.Core.Path.{◌≡◌, sym, ap, subst}
use mathlib.Core.List.{List}
use mathlib.Core.Logic.{⊎_elim}
use Prim.Native.Nat.{ℕ, zero, suc, ◌+◌, ◌≤◌, ◌<◌}
use native.Mathlib.Nat as N
use native.Mathlib.Numerals.{add-one}
use native.Mathlib.Omega.{arith}
use native.Mathlib.Decide.{dec_le}
use lib.Dec.{T}
use Rattle.element.specs.Refusals.{Codes, Refused, Accepted}
use Rattle.element.proofs.Refusals.{numbered, refused-some, refused-then, past-then, accepted-then, then-accepted, then-refused}
use Rattle.signs.specs.Signs.{Differs}
use Rattle.signs.proofs.Kept.{unsigned-kept}
use Rattle.block.specs.Block.{count_of, record_at}
use Rattle.block.specs.Faults.{Fault, naming, each, header_codes, lowest, codes_at, form_codes, sign_at, block_codes}
use Rattle.block.specs.Calls.{NextSigned}
use Rattle.block.proofs.Orders.{refused-of, accepted-of, of-accepted, of-refused}

pub record Passed (o : ℕ → Codes ℕ) (k : ℕ) : Type 0 where
  pub all : (j : ℕ) → j < k → Accepted (o j)

module _ (o : ℕ → Codes ℕ) where
  pub passed_none : Passed o 0
  passed_none = record { all = λ j h. absurd (N.not-suc-le-zero h) }

  pub passed_to : {k : ℕ} (n : ℕ) → Passed o k → ((j : ℕ) → k ≤ j → j < n → Accepted (o j)) → Passed o n
  passed_to {k} n p a = record { all = λ j h. go j h (dec_le (suc j) k) }
    where
      go : (j : ℕ) → j < n → Dec (j < k) → Accepted (o j)
      go j h (yes i) = p.all j i
      go j h (no i) = a j (N.le_of_suc-le-suc (N.lt_of_not-le i)) h

  pub passed-more : {k : ℕ} → Passed o k → Accepted (o k) → Passed o (k + 1)
  passed-more {k} p a = passed_to (k + 1) p (λ j h i. subst (λ (m : ℕ). Accepted (o m)) (let e : k ≡ j = omega arith in e) a)

  pub each-refused : (n j k c : ℕ) → j ≤ k → k < j + n → Passed o k → Refused (o k) c → Refused (each o n j) (record { code = c; number = k })
  each-refused zero j k c h i p r = absurd (omega arith)
  each-refused (suc n) j k c h i p r = go (dec_le (suc j) k) (λ q. each-refused n (suc j) k c q (omega arith) p r)
    where
      later : Codes Fault
      later = each o n (suc j)

      go : Dec (j < k) → (j < k → Refused later (record { code = c; number = k })) → Refused (each o (suc n) j) (record { code = c; number = k })
      go (yes q) f = past-then (naming j (o j)) later (record { code = c; number = k }) (accepted-of j (o j) (p.all j q)) (f q)
      go (no q) f =
          let e : k ≡ j = omega arith in
          refused-then (naming j (o j)) later (record { code = c; number = k })
          (subst (λ (m : ℕ). Refused (naming j (o j)) (record { code = c; number = m })) (sym e)
          (refused-of j (o j) c (subst (λ (m : ℕ). Refused (o m) c) e r)))

  pub each-passed : (n j : ℕ) → Passed o (j + n) → Accepted (each o n j)
  each-passed zero j p = tt
  each-passed (suc n) j p =
      accepted-then (naming j (o j)) (each o n (suc j)) (accepted-of j (o j) (p.all j (omega arith)))
      (each-passed n (suc j) (record { all = λ i h. p.all i (omega arith) }))

  pub each-accepted : (n j k : ℕ) → j ≤ k → k < j + n → Accepted (each o n j) → Accepted (o k)
  each-accepted zero j k h i a = absurd (omega arith)
  each-accepted (suc n) j k h i a =
      let t = then-accepted (naming j (o j)) (each o n (suc j)) a in
      go (dec_le (suc j) k) (λ q. each-accepted n (suc j) k q (omega arith) t.1) (of-accepted j (o j) t.0)
    where
      go : Dec (j < k) → (j < k → Accepted (o k)) → Accepted (o j) → Accepted (o k)
      go (yes q) f b = f q
      go (no q) f b = subst (λ (m : ℕ). Accepted (o m)) (let e : j ≡ k = omega arith in e) b

  pub each-some : ((k : ℕ) → T (numbered (o k))) → (n j : ℕ) (f : Fault) → Refused (each o n j) f → ¬ (f.code ≡ 0)
  each-some t zero j f r = absurd r
  each-some t (suc n) j f r =
      ⊎_elim (λ q. refused-some (o j) f.code (t j) (of-refused j (o j) f q)) (λ q. each-some t n (suc j) f q)
      (then-refused (naming j (o j)) (each o n (suc j)) f r)

pub low-more : (l : List ℕ) (k n : ℕ) → n ≡ (record_at l k).id → n + 1 ≡ lowest l (k + 1)
low-more l k n e = rw (add-one n, add-one k) (ap suc e)

module _ (l : List ℕ) where
  abbrev header : Codes Fault
  header = naming 0 (header_codes l)

  abbrev records : Codes Fault
  records = each (codes_at l) (count_of l) 0

  abbrev signs : Codes Fault
  signs = each (sign_at l) (count_of l) 0

  -- ---- the form
  pub header_refused : (c : ℕ) → Refused (header_codes l) c → Refused (form_codes l) (record { code = c; number = 0 })
  header_refused c r = refused-then header records (record { code = c; number = 0 }) (refused-of 0 (header_codes l) c r)

  pub walk_refused : (k c : ℕ) → Accepted (header_codes l) → k < count_of l → Passed (codes_at l) k → Refused (codes_at l k) c
      → Refused (form_codes l) (record { code = c; number = k })
  walk_refused k c a h p r =
      past-then header records (record { code = c; number = k }) (accepted-of 0 (header_codes l) a)
      (each-refused (codes_at l) (count_of l) 0 k c (omega arith) (omega arith) p r)

  pub walk-accepted : Accepted (header_codes l) → Passed (codes_at l) (count_of l) → Accepted (form_codes l)
  walk-accepted a p =
      accepted-then header records (accepted-of 0 (header_codes l) a)
      (each-passed (codes_at l) (count_of l) 0 (record { all = λ i h. p.all i (omega arith) }))

  pub form-header : Accepted (form_codes l) → Accepted (header_codes l)
  form-header a = of-accepted 0 (header_codes l) (then-accepted header records a).0

  pub form-at : Accepted (form_codes l) → (k : ℕ) → k < count_of l → Accepted (codes_at l k)
  form-at a k h = each-accepted (codes_at l) (count_of l) 0 k (omega arith) (omega arith) (then-accepted header records a).1

  pub form-some : (f : Fault) → Refused (form_codes l) f → ¬ (f.code ≡ 0)
  form-some f r =
      ⊎_elim (λ q. refused-some (header_codes l) f.code tt (of-refused 0 (header_codes l) f q)) (λ q. each-some (codes_at l) (λ k. tt) (count_of l) 0 f q)
      (then-refused header records f r)

  -- ---- the signs
  pub form-refused : (f : Fault) → Refused (form_codes l) f → Refused (block_codes l) f
  form-refused f r = refused-then (form_codes l) signs f r

  -- a record that is not signed has no such fault
  pub unsigned-passed : {k : ℕ} (n m : ℕ) → Passed (sign_at l) k → NextSigned l k m n → Passed (sign_at l) n
  unsigned-passed n m p s = passed_to (sign_at l) n p (λ j h i. (unsigned-kept (record_at l j) (s.none_before j h i), tt))

  pub signs-refused : (k : ℕ) → Accepted (form_codes l) → k < count_of l → Passed (sign_at l) k → Refused (sign_at l k) 19
      → Refused (block_codes l) (record { code = 19; number = k })
  signs-refused k a h p r =
      past-then (form_codes l) signs (record { code = 19; number = k }) a
      (each-refused (sign_at l) (count_of l) 0 k 19 (omega arith) (omega arith) p r)

  pub signs-accepted : Accepted (form_codes l) → Passed (sign_at l) (count_of l) → Accepted (block_codes l)
  signs-accepted a p =
      accepted-then (form_codes l) signs a (each-passed (sign_at l) (count_of l) 0 (record { all = λ i h. p.all i (omega arith) }))

  -- ---- the whole
  pub accepted-form : Accepted (block_codes l) → Accepted (form_codes l)
  accepted-form a = (then-accepted (form_codes l) signs a).0

  pub accepted-header : Accepted (block_codes l) → Accepted (header_codes l)
  accepted-header a = form-header (accepted-form a)

  pub accepted-at : Accepted (block_codes l) → (k : ℕ) → k < count_of l → Accepted (codes_at l k)
  accepted-at a = form-at (accepted-form a)

  pub accepted-kept : Accepted (block_codes l) → (k : ℕ) → k < count_of l → ¬ Differs (record_at l k)
  accepted-kept a k h = (each-accepted (sign_at l) (count_of l) 0 k (omega arith) (omega arith) (then-accepted (form_codes l) signs a).1).0

  pub block-some : (f : Fault) → Refused (block_codes l) f → ¬ (f.code ≡ 0)
  block-some f r =
      ⊎_elim (λ q. form-some f q) (λ q. each-some (sign_at l) (λ k. tt) (count_of l) 0 f q) (then-refused (form_codes l) signs f r)
