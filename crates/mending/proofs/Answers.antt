-- The answers about one record, and about record k of a block.
--   other-kind, signed-valid, straight-refused, straight-told : the ways out of the function on a record
--   fetch-refused, record-tried : and of the one on a block
--   record-mends    : what is told of a record that can be fetched is what the call answers
-- Assumes nothing.
use mathlib.Core.Path.{◌≡◌, refl, sym, ◌∙◌, ap, subst}
use mathlib.Core.List.{List}
use mathlib.Core.Logic.{◌⊎◌, inl, inr}
use Prim.Native.Nat.{ℕ}
use Rattle.element.specs.Refusals.{Codes, no_more, code, Refused, Accepted, level_codes, six_codes}
use Rattle.element.proofs.Refusals.{refused-accepted, then-refused}
use Rattle.middles.specs.Sets.{none}
use Rattle.straighten.specs.declared.Straightened.{Straightened}
use Rattle.straighten.specs.Calls.{NoneValid, given, refusal, NotStraightened, StraightenOf}
use Rattle.straighten.proofs.Outcomes.{straightened-is}
use Rattle.record.specs.declared.Record.{Record}
use Rattle.record.specs.Record.{used}
use Rattle.block.specs.Block.{record_at}
use Rattle.block.specs.Faults.{fetch_codes}
use Rattle.mending.specs.declared.Mended.{Mended}
use Rattle.mending.specs.Orders.{SignedValid, own_codes}
use Rattle.mending.specs.Changes.{mended_bytes}
use Rattle.mending.specs.Calls.{answer_of, Mends}
use Rattle.mending.specs.Steps.{Tells, Tried}
use Rattle.mending.proofs.Orders.{mend-fetch, mend-own, mend-accepted, own-accepted, own-hopeless}

-- ---- one record
module _ (r : Record) (k : ℕ) where
  pub other-kind : {m : Mended} → ¬ (r.kind ≡ 6) → m ≡ answer_of 1 k (refusal 1) → Tells r k m
  other-kind f e = subst (Tells r k) (sym e) (inl (record { refused = inl (f, refl); zeros = refl }))

  module _ (six : r.kind ≡ 6) (a : Accepted (level_codes r.kind r.limit (used r))) where
    pub signed-valid : {m : Mended} → SignedValid r → m ≡ answer_of 0 0 (given (used r) none) → Tells r k m
    signed-valid g e = inr (record { accepted = own-accepted r six a (λ h. h.0 g); set = none; chosen = inl (g, refl); told = e })

    module _ (g : ¬ SignedValid r) {t : Straightened} (p : StraightenOf 6 r.limit (used r) t) where
      abbrev last : Codes ℕ
      last = code 22 (NoneValid r.limit (used r)) no_more

      -- the triangle has no fault of its own, so that 22 alone is left
      refused_as : NotStraightened 6 r.limit (used r) t → Refused (own_codes r) t.code
      refused_as q = go (then-refused (six_codes 6 r.limit (used r)) last t.code q.refused)
        where
          good : Accepted (six_codes 6 r.limit (used r))
          good = ((λ f. f refl), subst (λ (n : ℕ). Accepted (level_codes n r.limit (used r))) six a)

          go : Refused (six_codes 6 r.limit (used r)) t.code ⊎ Refused last t.code → Refused (own_codes r) t.code
          go (inl q) = absurd (refused-accepted (six_codes 6 r.limit (used r)) t.code q good)
          go (inr (inl (f, e))) = subst (Refused (own_codes r)) (sym e) (own-hopeless r six a (g, f))
          go (inr (inr (f, e))) = absurd e

      pub straight-refused : {m : Mended} → ¬ (t.code ≡ 0) → m ≡ answer_of t.code k t → Tells r k m
      straight-refused {m} h e = go p
        where
          go : StraightenOf 6 r.limit (used r) t → Tells r k m
          go (inl q) = subst (Tells r k) (sym e) (inl (record { refused = refused_as q; zeros = ap (answer_of t.code k) q.zeros }))
          go (inr q) = absurd (h (ap (λ (s : Straightened). s.code) q.told))

      pub straight-told : {m : Mended} → t.code ≡ 0 → m ≡ answer_of 0 0 t → Tells r k m
      straight-told h e =
          let q = straightened-is 6 r.limit (used r) t p h in
          inr
          (record {
            accepted = own-accepted r six a (λ f. f.1 q.set q.chosen.valid);
            set = q.set;
            chosen = inr (g, q.chosen);
            told = e ∙ ap (answer_of 0 0) q.told;
          })

-- ---- record k of a block
module _ (l : List ℕ) (k : ℕ) where
  pub fetch-refused : {c n : ℕ} {m : Mended} → Refused (fetch_codes l k) (record { code = c; number = n }) → m ≡ answer_of c n (refusal c) → Tried l k m
  fetch-refused {c} {n} q e =
      subst (Tried l k) (sym e) (inl (record { refused = mend-fetch l k (record { code = c; number = n }) q; zeros = refl; untouched = refl }))

  module _ (a : Accepted (fetch_codes l k)) where
    pub record-tried : {m : Mended} → Tells (record_at l k) k m → Tried l k m
    record-tried {m} (inl q) =
        subst (Tried l k) (sym q.zeros) (inl (record { refused = mend-own l k m.code a q.refused; zeros = refl; untouched = refl }))
    record-tried (inr q) =
        inr
        (mended_bytes l k q.set, record { accepted = mend-accepted l k a q.accepted; set = q.set; chosen = q.chosen; told = q.told; written = refl })

    -- so what is told of the record is what the call answers
    pub record-mends : {m : Mended} → Tells (record_at l k) k m → (b : List ℕ) × Mends l k m b
    record-mends t = go (record-tried t)
      where
        go : {m : Mended} → Tried l k m → (b : List ℕ) × Mends l k m b
        go (inl p) = (l, inl p)
        go (inr (b, p)) = (b, inr p)
