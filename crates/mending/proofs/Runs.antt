-- What `straighten_record` comes to over a block (02, Ask 12).
--   mend-holds      : afterwards the block is a block of the same version, of the same records but one
--   mend-checks     : so it is accepted, with the same count
--   mend-reads      : record k reads with the nodes replaced: id, kind and level limit stay, and the sign too unless a node is replaced
--   mend-unsigned   : a record with a replaced node is unsigned
--   mend-others     : every other record reads as before
--   mend-same       : with none replaced no byte changes
--   mend-valid      : the record is valid at its stored limit, or where it is signed at its signed level: at the limit at which it is judged
--   mend-positive   : so J > 0, from its nodes, at every rational point of the closed triangle
--   mend-fewest, mend-differing : no set with fewer nodes gives valid, and of those with as many none whose first differing node is replaced
--   mend-again      : straightened again, nothing changes
-- Assumes nothing.
use mathlib.Core.Path.{◌≡◌, refl, sym, ◌∙◌, ap, subst}
use mathlib.Core.Bool.{Bool, true, false, cond}
use mathlib.Core.List.{List}
use mathlib.Core.Logic.{inl, inr}
use Prim.Native.Nat.{ℕ, ◌≤◌, ◌<◌}
use native.Mathlib.Nat as N
use native.Mathlib.Decide.{ℕ_discrete}
use native.Mathlib.Omega.{arith}
use borrow.Author.Tests.{ne_eqb}
use lib.Dec.{eqb}
use lib.IntN.{ℤ, pos}
use lib.ListN.{length, set, length-set}
use lib.Signed.{◌<ℤ◌}
use Rattle.element.specs.Kinds.{kind_of}
use Rattle.element.specs.Kinds as kinds
use Rattle.element.specs.Places.{Place}
use Rattle.element.specs.Jacobian.{jacobian}
use Rattle.element.specs.Refusals.{Accepted}
use Rattle.element.proofs.Numbers.{kind-six}
use Rattle.endian.specs.Numbers.{Bytes}
use Rattle.judge.specs.Verdict.{ValidUnder}
use Rattle.judge.specs.Elements.{subject}
use Rattle.judge.proofs.Demands.{valid-positive}
use Rattle.middles.specs.declared.Replaced.{Replaced}
use Rattle.middles.specs.Middles.{replacing}
use Rattle.middles.specs.Sets.{none, size, FirstReplaced}
use Rattle.middles.proofs.Orders.{size_none}
use Rattle.middles.proofs.Triangles.{replaced-none}
use Rattle.straighten.specs.Calls.{GivesValid, given}
use Rattle.straighten.proofs.Outcomes.{valid-chosen}
use Rattle.record.specs.declared.Record.{Record}
use Rattle.record.specs.Record.{used, WellFormed}
use Rattle.record.proofs.Signs.{known-sign}
use Rattle.signs.specs.Signs.{element, limit_of, Differs}
use Rattle.signs.proofs.Kept.{unsigned-kept, limit-signed, signed-under, signed-never}
use Rattle.block.specs.declared.Checked.{Checked}
use Rattle.block.specs.declared.Fetched.{Fetched}
use Rattle.block.specs.Block.{record_of, Holds, version_of, record_at, records_in}
use Rattle.block.specs.Calls.{Checks, fetched, Fetches}
use Rattle.block.proofs.Answers.{fetch-accepted}
use Rattle.block.proofs.Blocks.{block-count, held-record, holds-accepted, accepted-holds}
use Rattle.block.proofs.Demands.{checked-block, fetched-record}
use Rattle.block.proofs.Changes.{replaced-this, replaced-other, replaced-holds}
use Rattle.mending.specs.declared.Mended.{Mended}
use Rattle.mending.specs.Orders.{SignedValid, Hopeless, own_codes, ChosenFor}
use Rattle.mending.specs.Changes.{mended_bytes, mended_record}
use Rattle.mending.specs.Calls.{answer_of, IsMended, Mends}
use Rattle.mending.specs.Steps.{as_record}
use Rattle.mending.proofs.Orders.{mend-sound, mend-accepted, own-taken, own-accepted, formed-level}
use Rattle.mending.proofs.Records.{used-long, used-mended, mended-none, mended-formed, mended-bytes}
use Rattle.mending.proofs.Outcomes.{mend-unique}

-- ---- a record's sign
two-signs : (b : Bool) → cond b 0 2 ≤ 2
two-signs true = omega arith
two-signs false = omega arith

-- a valid record that is not signed valid is not signed
not-signed : {v : ℕ} (r : Record) → WellFormed v r → ¬ Differs r → ¬ SignedValid r → (L : ℕ) → ValidUnder (element r) L → r.signed ≡ 0
not-signed {v} r w kept f L u = go (ℕ_discrete r.signed 0) (ℕ_discrete r.signed 2)
  where
    go : Dec (r.signed ≡ 0) → Dec (r.signed ≡ 2) → r.signed ≡ 0
    go (yes e) d = e
    go (no h) (yes e) = absurd (signed-never r h kept e L u)
    go (no h) (no g) = absurd (f (let n = known-sign v r.signed r.level w.sign_known in omega (arith, two-signs (eqb v 1))))

limit-unsigned : (r : Record) → r.signed ≡ 0 → limit_of r ≡ r.limit
limit-unsigned r e = ap (λ (n : ℕ). cond (eqb n 0) r.limit r.level) e

-- ---- one record of a block, with the set that is chosen for it
module _ {v : ℕ} (r : Record) (w : WellFormed v r) (kept : ¬ Differs r) (six : r.kind ≡ 6) (s : Replaced) (c : ChosenFor r s) where
  abbrev new : Record
  new = mended_record r s

  unsigned : ¬ (size s ≡ 0) → (new.signed ≡ 0) × (new.level ≡ 0)
  unsigned f =
      let e = ne_eqb (size s) 0 f in
      (ap (λ (b : Bool). cond b r.signed 0) e, ap (λ (b : Bool). cond b r.level 0) e)

  -- by whether a node is replaced
  either : (P : Record → Type 0) → (s ≡ none → P r) → (¬ (size s ≡ 0) → P new) → P new
  either P f g = go (ℕ_discrete (size s) 0)
    where
      go : Dec (size s ≡ 0) → P new
      go (yes e) = let n = size_none s e in subst P (sym (mended-none r w six s n)) (f n)
      go (no h) = g h

  new-kept : ¬ Differs new
  new-kept = either (λ q. ¬ Differs q) (λ e. kept) (λ f. unsigned-kept new (unsigned f).0)

  -- the triangle as a subject of the verdict
  as-six : (xs : List ℤ) (L : ℕ) → ValidUnder (subject kinds.six xs) L → ValidUnder (subject (kind_of r.kind) xs) L
  as-six xs L u = subst (λ k. ValidUnder (subject k xs) L) (sym (kind-six r.kind six)) u

  pub new-valid : ValidUnder (element new) (limit_of new)
  new-valid = by c
    where
      -- nothing is replaced, and the triangle is valid as it stands
      as-it-is : ¬ SignedValid r → GivesValid r.limit (used r) s → s ≡ none → ValidUnder (element r) (limit_of r)
      as-it-is f u e =
          let t = as-six (used r) r.limit
          (subst (λ (xs : List ℤ). ValidUnder (subject kinds.six xs) r.limit) (ap (replacing (used r)) e ∙ replaced-none (used r) (used-long r w six s)) u) in
          subst (ValidUnder (element r)) (sym (limit-unsigned r (not-signed r w kept f r.limit t))) t

      replaced : GivesValid r.limit (used r) s → ¬ (size s ≡ 0) → ValidUnder (element new) (limit_of new)
      replaced u f =
          subst (ValidUnder (element new)) (sym (limit-unsigned new (unsigned f).0))
          (subst (λ (xs : List ℤ). ValidUnder (subject (kind_of r.kind) xs) r.limit) (sym (used-mended r w six s)) (as-six (replacing (used r) s) r.limit u))

      by : ChosenFor r s → ValidUnder (element new) (limit_of new)
      by (inl (g, e)) =
          let h : ¬ (r.signed ≡ 0) = λ z. absurd (omega arith) in
          subst (λ (q : Record). ValidUnder (element q) (limit_of q)) (sym (mended-none r w six s e))
          (subst (ValidUnder (element r)) (sym (limit-signed r h)) (signed-under r h kept g))
      by (inr (g, x)) = either (λ q. ValidUnder (element q) (limit_of q)) (as-it-is g x.valid) (replaced x.valid)

-- ---- a success over a block
module _ {l : List ℕ} {k : ℕ} {r : Mended} {a : List ℕ} (p : Bytes l) (q : IsMended l k r a) where
  abbrev old : List Record
  old = records_in l

  abbrev this : Record
  this = record_of old k

  abbrev mended : Record
  mended = mended_record this q.set

  pub before-mend : Holds (version_of l) l old
  before-mend = accepted-holds l p (mend-sound l k q.accepted).0

  pub below : k < length old
  below = rw (← (block-count before-mend)) (mend-sound l k q.accepted).1

  pub found : record_at l k ≡ this
  found = held-record before-mend k below

  pub formed : WellFormed (version_of l) this
  formed = before-mend.formed k below

  is-six : this.kind ≡ 6
  is-six = sym (ap (λ (x : Record). x.kind) found) ∙ (own-taken (record_at l k) (mend-sound l k q.accepted).2).0

  chosen : ChosenFor this q.set
  chosen = subst (λ (x : Record). ChosenFor x q.set) found q.chosen

  -- "after it the block is accepted"
  pub mend-holds : Holds (version_of l) a (set old k mended)
  mend-holds =
      replaced-holds before-mend k below mended refl (mended-formed this formed is-six q.set)
      (new-kept this formed (before-mend.kept k below) is-six q.set chosen)
      (q.written ∙ mended-bytes before-mend k below is-six q.set)

  pub mend-checks : (c d : Checked) → Checks l c → Checks a d → d ≡ c
  mend-checks c d x y =
      checked-block mend-holds d y ∙ ap (λ (n : ℕ). record { code = 0; number = 0; count = n }) (length-set old k mended) ∙ sym (checked-block before-mend c x)

  inside : k < length (set old k mended)
  inside = rw (length-set old k mended) below

  this-now : record_of (set old k mended) k ≡ mended
  this-now = replaced-this old k below mended

  pub mend-reads : (f g : Fetched) → Fetches l k f → Fetches a k g → g ≡ fetched 0 0 (mended_record (as_record f) q.set)
  mend-reads f g x y =
      fetched-record mend-holds k inside g y ∙ ap (fetched 0 0) this-now
      ∙ ap (λ (z : Fetched). fetched 0 0 (mended_record (as_record z) q.set)) (sym (fetched-record before-mend k below f x))

  -- "a record with a replaced node becomes unsigned"
  pub mend-unsigned : ¬ (size q.set ≡ 0) → (g : Fetched) → Fetches a k g → (g.signed ≡ 0) × (g.level ≡ 0)
  mend-unsigned h g y =
      let e = fetched-record mend-holds k inside g y ∙ ap (fetched 0 0) this-now in
      let z = unsigned this formed (before-mend.kept k below) is-six q.set chosen h in
      (ap (λ (x : Fetched). x.signed) e ∙ z.0, ap (λ (x : Fetched). x.level) e ∙ z.1)

  -- "every other record reads as before"
  pub mend-others : (m : ℕ) → ¬ (m ≡ k) → m < length (records_in l) → (f g : Fetched) → Fetches l m f → Fetches a m g → g ≡ f
  mend-others m n b f g x y =
      fetched-record mend-holds m (rw (length-set old k mended) b) g y ∙ ap (fetched 0 0) (replaced-other old k below mended m n)
      ∙ sym (fetched-record before-mend m b f x)

  pub mend-same : q.set ≡ none → a ≡ l
  mend-same e = q.written ∙ ap (mended_bytes l k) e

  -- ---- valid
  -- "what comes back is valid at the limit (a record signed valid: at its signed level)"
  pub mend-valid : ValidUnder (element (mended_record (record_of (records_in l) k) q.set)) (limit_of (mended_record (record_of (records_in l) k) q.set))
  mend-valid = new-valid this formed (before-mend.kept k below) is-six q.set chosen

  pub mend-positive : (x : Place kinds.six) → pos 0 <ℤ jacobian kinds.six (replacing (used (record_of (records_in l) k)) q.set) x
  mend-positive =
      let (b, v) = subst (λ n. ValidUnder (subject n (used mended)) (limit_of mended)) (kind-six this.kind is-six) mend-valid in
      subst (λ (xs : List ℤ). (x : Place kinds.six) → pos 0 <ℤ jacobian kinds.six xs x) (used-mended this formed is-six q.set)
      (valid-positive kinds.six (used mended) (limit_of mended) b v)

  -- "no set with fewer replacements gives valid"; of a record signed valid none is tried
  pub mend-fewest : (s : Replaced) → size s < size q.set → ¬ GivesValid (record_at l k).limit (used (record_at l k)) s
  mend-fewest s h v = go q.chosen
    where
      go : ChosenFor (record_at l k) q.set → ⊥
      go (inl (g, e)) = N.not-suc-le-zero (subst (λ (t : Replaced). size s < size t) e h)
      go (inr (g, c)) = c.first s v (inl h)

  pub mend-differing : ¬ SignedValid (record_at l k) → (s : Replaced) → size s ≡ size q.set
      → GivesValid (record_at l k).limit (used (record_at l k)) s
      → ¬ FirstReplaced s q.set
  mend-differing f s e v d = go q.chosen
    where
      go : ChosenFor (record_at l k) q.set → ⊥
      go (inl (g, z)) = f g
      go (inr (g, c)) = c.first s v (inr (e, d))

  -- ---- again
  pub now : record_at a k ≡ mended
  now = held-record mend-holds k inside ∙ this-now

  formed-now : WellFormed (version_of l) mended
  formed-now = mended-formed this formed is-six q.set

  chosen-now : ChosenFor mended none
  chosen-now = go (ℕ_discrete mended.signed 1)
    where
      go : Dec (mended.signed ≡ 1) → ChosenFor mended none
      go (yes g) = inl (g, refl)
      go (no g) =
          let z = not-signed mended formed-now (new-kept this formed (before-mend.kept k below) is-six q.set chosen) g (limit_of mended) mend-valid in
          let u = subst (ValidUnder (element mended)) (limit-unsigned mended z) mend-valid in
          inr (
            g,
            valid-chosen mended.limit (used mended) (used-long mended formed-now is-six none)
                (subst (λ n. ValidUnder (subject n (used mended)) mended.limit) (kind-six this.kind is-six) u),
          )

  not-hopeless : ChosenFor mended none → ¬ Hopeless mended
  not-hopeless (inl (g, e)) h = h.0 g
  not-hopeless (inr (g, c)) h = h.1 none c.valid

  pub mend-again : (s : Mended) (b : List ℕ) → Mends a k s b
      → (s ≡ answer_of 0 0 (given (replacing (used (record_of (records_in l) k)) q.set) none)) × (b ≡ a)
  mend-again s b m =
      let u = mend-unique a k s (answer_of 0 0 (given (used mended) none)) b a m
      (inr
      (record {
        accepted = mend-accepted a k (fetch-accepted a k (holds-accepted mend-holds) (rw (block-count mend-holds) inside))
            (subst (λ (x : Record). Accepted (own_codes x)) (sym now) (own-accepted mended is-six (formed-level mended formed-now) (not-hopeless chosen-now)));
        set = none;
        chosen = subst (λ (x : Record). ChosenFor x none) (sym now) chosen-now;
        told = ap (λ (x : Record). answer_of 0 0 (given (used x) none)) (sym now);
        written = refl;
      })) in
      (u.0 ∙ ap (λ (xs : List ℤ). answer_of 0 0 (given xs none)) (used-mended this formed is-six q.set), u.1)
