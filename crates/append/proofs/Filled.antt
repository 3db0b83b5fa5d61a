-- A run of appends without a fault, and the buffer that it leaves.
--   Ran v b used gs rs m a == the run over gs, behind the block of rs, answers m bytes used, and leaves the block of all records in a, in
--                    the same version
--   ran-none, ran  : none to append, and all that pass
--   ran-filled, ran-exact : the buffer that it leaves is the one filled at once, and the bytes used are 80 more for each
-- Assumes nothing.
use mathlib.Core.Path.{◌≡◌, refl, sym, ap, ap₂, ◌∙◌, subst}
use mathlib.Core.List.{List, [], ◌∷◌, ◌++◌, append-nil, append_assoc}
use mathlib.Core.Logic.{inr}
use Prim.Native.Nat.{ℕ, suc, ◌+◌, ◌-◌, ◌*◌, ◌≤◌}
use native.Mathlib.Omega.{arith}
use lib.ListN.{length, take, drop, length-append, take-append-drop}
use lib.Seq.{drop-drop, get_or-append-add}
use Rattle.endian.specs.Numbers.{over}
use Rattle.record.specs.declared.Record.{Record}
use Rattle.record.specs.Record.{WellFormed, blank}
use Rattle.block.specs.Block.{header, records_bytes, block_bytes, Holds}
use Rattle.block.proofs.Blocks.{records-more, records-length, block-count}
use Rattle.append.specs.Calls.{with_count}
use Rattle.append.specs.Series.{Given, Series, ended, onward, given, records, filled, IdsFit, Passes, empty, first}
use Rattle.append.proofs.Runs.{block-over, appended-rest}
use Rattle.append.proofs.States.{State, answered, added, appended, state-next}

-- ---- call by call
pub record Ran (v : ℕ) (b : List ℕ) (used : ℕ) (gs : List Given) (rs : List Record) (m : ℕ) (a : List ℕ) : Type 0 where
  pub end_is : m ≡ used + 80 * length gs
  pub series : Series b used gs (answered m) a
  pub holds : Holds v (take m a) (rs ++ records gs)
  pub rest : drop m a ≡ drop m b

behind : (k m : ℕ) (x y : List ℕ) → k ≤ m → drop k x ≡ drop k y → drop m x ≡ drop m y
behind k m x y h e =
    let q : m ≡ k + (m - k) = omega arith in
    ap (λ (i : ℕ). drop i x) q ∙ sym (drop-drop (m - k) k x) ∙ ap (drop (m - k)) e ∙ drop-drop (m - k) k y ∙ ap (λ (i : ℕ). drop i y) (sym q)

pub ran-none : {v : ℕ} {b : List ℕ} {used : ℕ} {rs : List Record} → Holds v (take used b) rs → Ran v b used [] rs used b
ran-none {rs = rs} h = record { end_is = omega arith; series = ended; holds = rw (append-nil rs) h; rest = refl }

pub ran : {v : ℕ} {b : List ℕ} {used : ℕ} {rs : List Record} {low count room : ℕ} {gs : List Given}
    → State v b used rs low count room
    → IdsFit gs
    → Passes low count room gs
    → (m : ℕ) × (a : List ℕ) × Ran v b used gs rs m a
ran {b = b} {used = used} s f empty = (used, b, ran-none s.held)
ran {b = b} {used = used} {rs = rs} s f (first {g = g} {gs = gs} a p) =
    let n = ran {b = added b used g} (state-next s g f.0 a) f.1 p in
    let q = n.2 in (
      n.0,
      n.1,
      record {
        end_is = q.end_is ∙ omega arith;
        series = onward (inr (appended s g a)) refl q.series;
        holds = rw (append_assoc rs (given g ∷ []) (records gs)) at q.holds;
        rest = q.rest
            ∙ behind (used + 80) n.0 (added b used g) b (omega (arith, q.end_is)) (appended-rest s.held f.0 (appended s g a));
      },
    )

-- ---- the buffer that it leaves
records-count : (gs : List Given) → length (records gs) ≡ length gs
records-count [] = refl
records-count (g ∷ gs) = ap suc (records-count gs)

module _ {v : ℕ} {b : List ℕ} {used : ℕ} {gs : List Given} {rs : List Record} {m : ℕ} {a : List ℕ}
    (h : Holds v (take used b) rs) (r : Ran v b used gs rs m a) where
  abbrev new : List Record
  new = records gs

  new-length : length (records_bytes new) ≡ 80 * length gs
  new-length =
      records-length new (λ k i. subst (WellFormed v) (get_or-append-add rs new k blank) (r.holds.formed (length rs + k) (omega (arith, length-append rs new))))
      ∙ ap (λ (n : ℕ). 80 * n) (records-count gs)

  all-written : header v (length rs + length gs) ++ (records_bytes rs ++ records_bytes new) ≡ block_bytes v (rs ++ new)
  all-written =
      ap₂ (λ (n : ℕ) (s : List ℕ). header v n ++ s) (sym (length-append rs new ∙ ap (λ (n : ℕ). length rs + n) (records-count gs)))
      (sym (records-more rs new))

  filled-bytes : filled b used gs ≡ block_bytes v (rs ++ new) ++ drop m b
  filled-bytes =
      ap (λ (n : ℕ). with_count (over b used (records_bytes new)) (n + length gs)) (block-count h)
      ∙ block-over v b used rs (records_bytes new) (length rs + length gs) h.written
      ∙ ap₂ (λ (s : List ℕ) (i : ℕ). s ++ drop i b) all-written (ap (λ (n : ℕ). used + n) new-length ∙ sym r.end_is)

  pub ran-filled : a ≡ filled b used gs
  ran-filled =
      sym (take-append-drop m a) ∙ ap₂ (λ (s t : List ℕ). s ++ t) r.holds.written r.rest ∙ sym filled-bytes

  pub ran-exact : Ran v b used gs rs (used + 80 * length gs) (filled b used gs)
  ran-exact = subst (λ (n : ℕ). Ran v b used gs rs n (filled b used gs)) r.end_is (subst (Ran v b used gs rs m) ran-filled r)
