-- Only the replaced nodes' bytes change and, where a node is replaced, the two bytes of the sign (02, Ask 12).
--   node-bytes, bytes-node : the bytes of node i are the i-th eight behind the first eight of its record
--   sign-bytes, bytes-sign : those of the sign are its seventh and its eighth
--   over-kept       : bytes written over a part of a list leave all others
--   mended-length   : the block keeps its length
--   mended-kept     : and every byte that is not in a replaced node or in the sign of a record with one
--   mend-length, mend-touched : so it is with what the call leaves
--   mend-sign-kept  : of an unsigned record the bytes of the sign are kept too
--   mend-one-kept   : and so in a block of version 1, where only the replaced nodes' bytes change
-- Assumes nothing.
use mathlib.Core.Path.{◌≡◌, refl, sym, ◌∙◌, ap, subst}
use mathlib.Core.Bool.{Bool, true, false, cond}
use mathlib.Core.List.{List, [], ◌∷◌, ◌++◌}
use mathlib.Core.Logic.{◌⊎◌, inl, inr, ⊎_elim}
use Prim.Native.Nat.{ℕ, ◌+◌, ◌*◌, ◌-◌, ◌/◌, ◌≤◌, ◌<◌}
use native.Mathlib.Nat as N
use native.Mathlib.Decide.{dec_le, dec_lt, ℕ_discrete}
use native.Mathlib.Omega.{arith}
use borrow.Author.Tests.{eqb-false}
use lib.Dec.{eqb}
use lib.IntN.{ℤ}
use lib.ListN.{length, get_or, take, drop, get_or-append}
use lib.Seq.{length-take-le, get_or-take, get_or-drop, get_or-append-add}
use Rattle.algebra.proofs.Truth.{not-not}
use Rattle.endian.specs.Numbers.{Bytes, over}
use Rattle.endian.proofs.Writes.{length_over}
use Rattle.middles.specs.declared.Replaced.{Replaced}
use Rattle.middles.specs.Middles.{Middle, M01, M12, M02, middle_of, has, spot}
use Rattle.middles.specs.Sets.{size}
use Rattle.record.specs.declared.Record.{Record}
use Rattle.record.specs.Record.{used, numbers_bytes, WellFormed}
use Rattle.record.proofs.Signs.{zero-signs}
use Rattle.block.specs.Block.{place, version_of, record_at}
use Rattle.block.specs.Changes.{with_sign}
use Rattle.mending.specs.declared.Mended.{Mended}
use Rattle.mending.specs.Changes.{with_node, with_middle, without_sign, mended_bytes, mended_record, InNode, InSign, Touched}
use Rattle.mending.specs.Calls.{IsMended}
use Rattle.mending.proofs.Orders.{mend-room}
use Rattle.mending.proofs.Runs.{found, formed, now}

-- ---- which bytes these are
module _ (k b : ℕ) where
  pub node-bytes : (i : ℕ) → InNode k i b → (place k + 8 ≤ b) × ((b - (place k + 8)) / 8 ≡ i)
  node-bytes i (g, h) = (omega arith, omega arith)

  pub bytes-node : place k + 8 ≤ b → InNode k ((b - (place k + 8)) / 8) b
  bytes-node g = (omega arith, omega arith)

  pub sign-bytes : InSign k b → (b ≡ place k + 6) ⊎ (b ≡ place k + 7)
  sign-bytes (g, h) = go (ℕ_discrete b (place k + 6))
    where
      go : Dec (b ≡ place k + 6) → (b ≡ place k + 6) ⊎ (b ≡ place k + 7)
      go (yes e) = inl e
      go (no e) = inr (omega arith)

  pub bytes-sign : (b ≡ place k + 6) ⊎ (b ≡ place k + 7) → InSign k b
  bytes-sign (inl e) = (omega arith, omega arith)
  bytes-sign (inr e) = (omega arith, omega arith)

-- ---- bytes written over others
pub over-kept : (l : List ℕ) (at : ℕ) (w : List ℕ) (i : ℕ) → at + length w ≤ length l → (i < at) ⊎ (at + length w ≤ i) → get_or (over l at w) i 0 ≡ get_or l i 0
over-kept l at w i h (inl b) =
    let e = length-take-le at l (omega arith) in
    get_or-append (take at l) (w ++ drop (at + length w) l) 0 i (omega arith) ∙ get_or-take at l i 0 b
over-kept l at w i h (inr b) =
    let e = length-take-le at l (omega arith) in
    let n = i - (at + length w) in
    ap (λ (j : ℕ). get_or (over l at w) j 0) (let q : i ≡ length (take at l) + (length w + n) = omega arith in q)
    ∙ get_or-append-add (take at l) (w ++ drop (at + length w) l) (length w + n) 0
    ∙ get_or-append-add w (drop (at + length w) l) n 0
    ∙ get_or-drop (at + length w) l n 0
    ∙ ap (λ (j : ℕ). get_or l j 0) (let q : at + length w + n ≡ i = omega arith in q)

-- what is not within is before or behind
outside : (a n i : ℕ) → ¬ ((a ≤ i) × (i < a + n)) → (i < a) ⊎ (a + n ≤ i)
outside a n i f = go (dec_lt i a)
  where
    go : Dec (i < a) → (i < a) ⊎ (a + n ≤ i)
    go (yes h) = inl h
    go (no h) = inr (N.le_of_suc-le-suc (N.lt_of_not-le (λ b. f (N.le_of_suc-le-suc (N.lt_of_not-le h), b))))

-- ---- a node, and the sign
module _ (k : ℕ) (l : List ℕ) (h : place k + 80 ≤ length l) where
  module _ (xs : List ℤ) (s : Replaced) (m : Middle) where
    spot-small : spot m < 9
    spot-small = go m
      where
        go : (m : Middle) → spot m < 9
        go M01 = omega arith
        go M12 = omega arith
        go M02 = omega arith

    middle-length : length (with_middle l k xs s m) ≡ length l
    middle-length = go (has s m)
      where
        go : (b : Bool) → length (cond b (with_node l k (spot m) (middle_of xs m)) l) ≡ length l
        go true = let n = spot-small in length_over (numbers_bytes ((middle_of xs m).x ∷ (middle_of xs m).y ∷ [])) l (place k + (8 + 8 * spot m)) (omega arith)
        go false = refl

    middle-kept : (i : ℕ) → (has s m ≡ true → ¬ InNode k (spot m) i) → get_or (with_middle l k xs s m) i 0 ≡ get_or l i 0
    middle-kept i f = go (has s m) f
      where
        go : (b : Bool) → (b ≡ true → ¬ InNode k (spot m) i) → get_or (cond b (with_node l k (spot m) (middle_of xs m)) l) i 0 ≡ get_or l i 0
        go true f =
            let n = spot-small in
            over-kept l (place k + (8 + 8 * spot m)) (numbers_bytes ((middle_of xs m).x ∷ (middle_of xs m).y ∷ [])) i (omega arith)
            (outside (place k + (8 + 8 * spot m)) 8 i (λ b. f refl (b.0, let c = b.1 in omega arith)))
        go false f = refl

  sign-length : (s : Replaced) → length (without_sign l k s) ≡ length l
  sign-length s = go (eqb (size s) 0)
    where
      go : (b : Bool) → length (cond b l (with_sign l k 0 0)) ≡ length l
      go true = refl
      go false = length_over (0 ∷ 0 ∷ []) l (place k + 6) (omega arith)

  sign_kept : (s : Replaced) (i : ℕ) → (¬ (size s ≡ 0) → ¬ InSign k i) → get_or (without_sign l k s) i 0 ≡ get_or l i 0
  sign_kept s i f = go (eqb (size s) 0) (eqb-false (size s) 0)
    where
      go : (b : Bool) → (b ≡ false → ¬ (size s ≡ 0)) → get_or (cond b l (with_sign l k 0 0)) i 0 ≡ get_or l i 0
      go true g = refl
      go false g = over-kept l (place k + 6) (0 ∷ 0 ∷ []) i (omega arith) (outside (place k + 6) 2 i (λ b. f (g refl) (b.0, let c = b.1 in omega arith)))

-- ---- the block
module _ (l : List ℕ) (k : ℕ) (s : Replaced) (h : place k + 80 ≤ length l) where
  abbrev xs : List ℤ
  xs = used (record_at l k)

  abbrev one : List ℕ
  one = with_middle l k xs s M01

  abbrev two : List ℕ
  two = with_middle one k xs s M12

  abbrev three : List ℕ
  three = with_middle two k xs s M02

  one-room : place k + 80 ≤ length one
  one-room = rw (middle-length k l h xs s M01) h

  two-room : place k + 80 ≤ length two
  two-room = rw (middle-length k one one-room xs s M12) one-room

  three-room : place k + 80 ≤ length three
  three-room = rw (middle-length k two two-room xs s M02) two-room

  pub mended-length : length (mended_bytes l k s) ≡ length l
  mended-length =
      sign-length k three three-room s ∙ middle-length k two two-room xs s M02 ∙ middle-length k one one-room xs s M12 ∙ middle-length k l h xs s M01

  pub mended-kept : (i : ℕ) → ¬ Touched k s i → get_or (mended_bytes l k s) i 0 ≡ get_or l i 0
  mended-kept i f =
      sign_kept k three three-room s i (λ n b. f (inr (n, b)))
      ∙ middle-kept k two two-room xs s M02 i (λ e b. f (inl (M02, e, b)))
      ∙ middle-kept k one one-room xs s M12 i (λ e b. f (inl (M12, e, b)))
      ∙ middle-kept k l h xs s M01 i (λ e b. f (inl (M01, e, b)))

-- ---- the call
module _ {l : List ℕ} {k : ℕ} {r : Mended} {a : List ℕ} (q : IsMended l k r a) where
  pub mend-length : length a ≡ length l
  mend-length = ap length q.written ∙ mended-length l k q.set (mend-room l k q.accepted)

  pub mend-touched : (i : ℕ) → ¬ Touched k q.set i → get_or a i 0 ≡ get_or l i 0
  mend-touched i f = ap (λ (x : List ℕ). get_or x i 0) q.written ∙ mended-kept l k q.set (mend-room l k q.accepted) i f

  module _ (p : Bytes l) where
    sign-stays : (i : ℕ) → (record_at l k).signed ≡ 0 → (record_at l k).level ≡ 0 → InSign k i → get_or a i 0 ≡ get_or l i 0
    sign-stays i e f h = go (sign-bytes k i h)
      where
        zero-kept : (b : Bool) (n : ℕ) → n ≡ 0 → cond b n 0 ≡ n
        zero-kept true n g = refl
        zero-kept false n g = sym g

        same : (g : Record → ℕ) → g (mended_record (record_at l k) q.set) ≡ g (record_at l k) → g (record_at a k) ≡ g (record_at l k)
        same g t = ap g (now p q ∙ ap (λ (r : Record). mended_record r q.set) (sym (found p q))) ∙ t

        at : (n : ℕ) → i ≡ n → get_or a n 0 ≡ get_or l n 0 → get_or a i 0 ≡ get_or l i 0
        at n g t = ap (λ (j : ℕ). get_or a j 0) g ∙ t ∙ ap (λ (j : ℕ). get_or l j 0) (sym g)

        go : (i ≡ place k + 6) ⊎ (i ≡ place k + 7) → get_or a i 0 ≡ get_or l i 0
        go (inl g) = at (place k + 6) g (same (λ r. r.signed) (zero-kept (eqb (size q.set) 0) (record_at l k).signed e))
        go (inr g) = at (place k + 7) g (same (λ r. r.level) (zero-kept (eqb (size q.set) 0) (record_at l k).level f))

    well-formed : WellFormed (version_of l) (record_at l k)
    well-formed = subst (WellFormed (version_of l)) (sym (found p q)) (formed p q)

    pub mend-sign-kept : (record_at l k).signed ≡ 0 → (i : ℕ) → InSign k i → get_or a i 0 ≡ get_or l i 0
    mend-sign-kept e i h = sign-stays i e (not-not (record_at l k).level 0 (λ f. well-formed.sign_known (inr (e, f)))) h

    pub mend-one-kept : version_of l ≡ 1 → (i : ℕ) → ((m : Middle) → has q.set m ≡ true → ¬ InNode k (spot m) i) → get_or a i 0 ≡ get_or l i 0
    mend-one-kept e i f = go (dec_le (place k + 6) i) (dec_lt i (place k + 8))
      where
        unsigned : (record_at l k).signed ≡ 0
        unsigned =
            let w = subst (λ (v : ℕ). WellFormed v (record_at l k)) e well-formed in
            (zero-signs (record_at l k).signed (record_at l k).level w.sign_known).0

        elsewhere : ¬ InSign k i → get_or a i 0 ≡ get_or l i 0
        elsewhere h = mend-touched i (λ t. ⊎_elim (λ x. f x.0 x.1 x.2) (λ x. h x.1) t)

        go : Dec (place k + 6 ≤ i) → Dec (i < place k + 8) → get_or a i 0 ≡ get_or l i 0
        go (yes x) (yes y) = mend-sign-kept unsigned i (x, y)
        go (yes x) (no y) = elsewhere (λ h. y h.1)
        go (no x) d = elsewhere (λ h. x h.0)
