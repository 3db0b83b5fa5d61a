-- What the contract of `straighten_record` comes to: one outcome, a refused call leaves every byte, and each code by what it is given for.
--   chosen-one      : of one record one set is chosen
--   mend-unique     : the answer and the bytes left are determined by the bytes given and the record's number
--   mend-is, mend-accepts : a success, by the code 0 and by an order without a fault
--   mend-keeps      : a refused call leaves every byte
--   fetch-first     : the codes of a fetch of the record come first
--   kind-first      : then 1 for every other kind, signed or not, with the record's number
--   none-valid      : and then 22 where no set gives valid, unless the record is signed valid
--   signed-valid-none : which comes back with none replaced, and the block as it was
--   mend-codes      : of a record that can be fetched there is no other code
--   as-straighten   : what is told of a record that is not signed valid is what `straighten` tells of its triangle at its stored limit
-- Over the contract alone. Assumes nothing.
use mathlib.Core.Path.{◌≡◌, refl, sym, ◌∙◌, ap, subst}
use mathlib.Core.List.{List}
use mathlib.Core.Logic.{◌⊎◌, inl, inr}
use Prim.Native.Nat.{ℕ}
use Rattle.element.specs.Refusals.{Refused, Accepted, level_codes}
use Rattle.element.proofs.Refusals.{refused-accepted, then-past, one-outcome}
use Rattle.middles.specs.declared.Replaced.{Replaced}
use Rattle.middles.specs.Sets.{none}
use Rattle.straighten.specs.declared.Straightened.{Straightened}
use Rattle.straighten.specs.Calls.{NoneValid, given, refusal, StraightenOf}
use Rattle.straighten.proofs.Outcomes.{chosen-only}
use Rattle.record.specs.declared.Record.{Record}
use Rattle.record.specs.Record.{used, WellFormed}
use Rattle.block.specs.Block.{record_at}
use Rattle.block.specs.Faults.{Fault, naming, fetch_codes}
use Rattle.block.proofs.Orders.{of-refused}
use Rattle.mending.specs.declared.Mended.{Mended}
use Rattle.mending.specs.Orders.{SignedValid, Hopeless, own_codes, mend_codes, ChosenFor}
use Rattle.mending.specs.Changes.{mended_bytes}
use Rattle.mending.specs.Calls.{answer_of, NotMended, IsMended, Mends}
use Rattle.mending.specs.Steps.{Tells}
use Rattle.mending.proofs.Answers.{straight-refused, straight-told, record-mends}
use Rattle.mending.proofs.Orders.{mend-fetch, mend-own, mend-accepted, mend-some, own-accepted, own-hopeless, own-only}

pub chosen-one : (r : Record) (s t : Replaced) → ChosenFor r s → ChosenFor r t → s ≡ t
chosen-one r s t (inl (g, e)) (inl (h, f)) = e ∙ sym f
chosen-one r s t (inl (g, e)) (inr (h, f)) = absurd (h g)
chosen-one r s t (inr (g, e)) (inl (h, f)) = absurd (g h)
chosen-one r s t (inr (g, e)) (inr (h, f)) = chosen-only r.limit (used r) s t e f

module _ (l : List ℕ) (k : ℕ) where
  abbrev fault : Mended → Fault
  fault r = record { code = r.code; number = r.number }

  -- ---- one outcome
  abbrev Outcome : Type 0
  Outcome = Mended × List ℕ

  abbrev left : Fault → Outcome
  left f = (answer_of f.code f.number (refusal f.code), l)

  success-one : (c d : Outcome) → IsMended l k c.0 c.1 → IsMended l k d.0 d.1 → c ≡ d
  success-one c d p q =
      let e = chosen-one (record_at l k) p.set q.set p.chosen q.chosen in
      let told = p.told ∙ ap (λ (s : Replaced). answer_of 0 0 (given (used (record_at l k)) s)) e ∙ sym q.told in
      let written = p.written ∙ ap (mended_bytes l k) e ∙ sym q.written in
      λ i. (told i, written i)

  pub mend-unique : (r s : Mended) (a b : List ℕ) → Mends l k r a → Mends l k s b → (r ≡ s) × (a ≡ b)
  mend-unique r s a b p q =
      let e = one-outcome {R = λ (c : Outcome). NotMended l k c.0 c.1} {S = λ (c : Outcome). IsMended l k c.0 c.1} (mend_codes l k) left
      (λ c n. (fault c.0, n.refused, λ i. (n.zeros i, n.untouched i))) (λ c n. n.accepted) success-one (r, a) (s, b) p q in
      (ap (λ (c : Outcome). c.0) e, ap (λ (c : Outcome). c.1) e)

  pub mend-is : (r : Mended) (a : List ℕ) → Mends l k r a → r.code ≡ 0 → IsMended l k r a
  mend-is r a (inl p) e = absurd (mend-some l k (fault r) p.refused e)
  mend-is r a (inr p) e = p

  pub mend-accepts : (r : Mended) (a : List ℕ) → Mends l k r a → Accepted (mend_codes l k) → IsMended l k r a
  mend-accepts r a (inl p) t = absurd (refused-accepted (mend_codes l k) (fault r) p.refused t)
  mend-accepts r a (inr p) t = p

  pub mend-keeps : (r : Mended) (a : List ℕ) → Mends l k r a → ¬ (r.code ≡ 0) → a ≡ l
  mend-keeps r a (inl p) h = p.untouched
  mend-keeps r a (inr p) h = absurd (h (ap (λ (m : Mended). m.code) p.told))

  -- ---- the codes
  module _ (r : Mended) (a : List ℕ) (m : Mends l k r a) where
    refused-with : (f : Fault) → Refused (mend_codes l k) f → (r ≡ answer_of f.code f.number (refusal f.code)) × (a ≡ l)
    refused-with f q =
        mend-unique r (answer_of f.code f.number (refusal f.code)) a l m (inl (record { refused = q; zeros = refl; untouched = refl }))

    -- "the block's codes and 12"
    pub fetch-first : (f : Fault) → Refused (fetch_codes l k) f → (r ≡ answer_of f.code f.number (refusal f.code)) × (a ≡ l)
    fetch-first f q = refused-with f (mend-fetch l k f q)

    module _ (t : Accepted (fetch_codes l k)) where
      -- "1 for other kinds"
      pub kind-first : ¬ ((record_at l k).kind ≡ 6) → (r ≡ answer_of 1 k (refusal 1)) × (a ≡ l)
      kind-first f = refused-with (record { code = 1; number = k }) (mend-own l k 1 t (inl (f, refl)))

      -- there is no other code
      pub mend-codes : {v : ℕ} → WellFormed v (record_at l k) → ¬ (r.code ≡ 0)
          → (¬ ((record_at l k).kind ≡ 6) × (r ≡ answer_of 1 k (refusal 1)))
          ⊎ (((record_at l k).kind ≡ 6) × Hopeless (record_at l k) × (r ≡ answer_of 22 k (refusal 22)))
      mend-codes w h = by (own-only (record_at l k) w r.code q)
        where
          own : Mends l k r a → Refused (own_codes (record_at l k)) r.code
          own (inl p) =
              of-refused k (own_codes (record_at l k)) (fault r)
              (then-past (fetch_codes l k) (naming k (own_codes (record_at l k))) (fault r) (λ s. refused-accepted (fetch_codes l k) (fault r) s t) p.refused).1
          own (inr p) = absurd (h (ap (λ (m : Mended). m.code) p.told))

          q : Refused (own_codes (record_at l k)) r.code
          q = own m

          is : (c : ℕ) → r.code ≡ c → r ≡ answer_of c k (refusal c)
          is c e = (refused-with (record { code = c; number = k }) (mend-own l k c t (subst (Refused (own_codes (record_at l k))) e q))).0

          by : (¬ ((record_at l k).kind ≡ 6) × (r.code ≡ 1)) ⊎ (((record_at l k).kind ≡ 6) × Hopeless (record_at l k) × (r.code ≡ 22))
              → (¬ ((record_at l k).kind ≡ 6) × (r ≡ answer_of 1 k (refusal 1)))
              ⊎ (((record_at l k).kind ≡ 6) × Hopeless (record_at l k) × (r ≡ answer_of 22 k (refusal 22)))
          by (inl (f, e)) = inl (f, is 1 e)
          by (inr (f, g, e)) = inr (f, g, is 22 e)

      module _ (six : (record_at l k).kind ≡ 6) (fit : Accepted (level_codes (record_at l k).kind (record_at l k).limit (used (record_at l k)))) where
        -- "22 exactly when none of the eight sets gives valid"
        pub none-valid : ¬ SignedValid (record_at l k) → NoneValid (record_at l k).limit (used (record_at l k)) → (r ≡ answer_of 22 k (refusal 22)) × (a ≡ l)
        none-valid g f = refused-with (record { code = 22; number = k }) (mend-own l k 22 t (own-hopeless (record_at l k) six fit (g, f)))

        -- "never for a record signed valid, where no set is tried": what is told is the triangle, as it is
        pub signed-valid-none : SignedValid (record_at l k) → (r ≡ answer_of 0 0 (given (used (record_at l k)) none)) × (a ≡ l)
        signed-valid-none g =
            mend-unique r (answer_of 0 0 (given (used (record_at l k)) none)) a l m
            (inr
            (record {
              accepted = mend-accepted l k t (own-accepted (record_at l k) six fit (λ h. h.0 g));
              set = none;
              chosen = inl (g, refl);
              told = refl;
              written = refl;
            }))

        -- "A second call does it to record k of a block, at its stored limit": it tells what `straighten` tells of the record's triangle
        pub as-straighten : ¬ SignedValid (record_at l k) → (s : Straightened) → StraightenOf 6 (record_at l k).limit (used (record_at l k)) s
            → (s.code ≡ 0 → r ≡ answer_of 0 0 s) × (¬ (s.code ≡ 0) → r ≡ answer_of s.code k s)
        as-straighten g s p = (
          (λ e. same (straight-told (record_at l k) k six fit g p e refl)),
          λ e. same (straight-refused (record_at l k) k six fit g p e refl),
        )
          where
            same : {x : Mended} → Tells (record_at l k) k x → r ≡ x
            same {x} u = let (b, n) = record-mends l k t u in (mend-unique r x a b m n).0
