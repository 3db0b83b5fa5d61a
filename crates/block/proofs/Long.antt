-- Bytes that are longer than any block: what a check says of them hangs on their first nine bytes alone. So the answer for the
-- first n bytes of an input, n above the length of a block of 800 records, is that for the whole input.
--   long-refused   : two such lists with the same first nine bytes have the same fault
--   prefix-refused  : a fault of the first n bytes is a fault of the whole
--   prefix-accepted : and where they have none, they are the whole
-- Assumes nothing.
use mathlib.Core.Path.{◌≡◌, sym, ap, ◌∙◌, subst}
use mathlib.Core.List.{List}
use mathlib.Core.Logic.{◌⊎◌, inl, inr}
use Prim.Native.Nat.{ℕ, ◌≤◌, ◌<◌}
use native.Mathlib.Omega.{arith}
use native.Mathlib.Decide.{dec_le}
use lib.ListN.{length, take}
use lib.Seq.{length-take-le, take_all, take-take}
use Rattle.element.specs.Refusals.{Refused, Accepted}
use Rattle.endian.specs.Numbers.{number, part}
use Rattle.endian.proofs.Places.{part-part}
use Rattle.block.specs.Block.{count_of, place}
use Rattle.block.specs.Faults.{Fault, NotBlock, OtherVersion, WrongSize, block_codes}
use Rattle.block.proofs.Header.{header-few, header-size}
use Rattle.block.proofs.Walk.{accepted-header}

-- "count above 800, or length not 9 + 80·count"
long-size : (l : List ℕ) → place 800 < length l → WrongSize l
long-size l h = go (dec_le (count_of l) 800)
  where
    go : Dec (count_of l ≤ 800) → WrongSize l
    go (yes k) = inr (λ e. absurd (omega arith))
    go (no k) = inl (omega arith)

module _ (l m : List ℕ) (h : place 800 < length l) (k : place 800 < length m) (e : take 9 l ≡ take 9 m) where
  same-mark : NotBlock l → NotBlock m
  same-mark (inl s) = absurd (omega arith)
  same-mark (inr f) =
      inr (λ g. f (sym (take-take 3 9 l (omega arith)) ∙ ap (take 3) e ∙ take-take 3 9 m (omega arith) ∙ g))

  same_version : OtherVersion 1 2 l → OtherVersion 1 2 m
  same_version f =
      subst (λ (v : ℕ). (v < 1) ⊎ (2 < v))
      (ap number (sym (part-part 3 2 0 9 l (omega arith)) ∙ ap (part 3 2) e ∙ part-part 3 2 0 9 m (omega arith))) f

pub long-refused : (l m : List ℕ) → place 800 < length l
    → place 800 < length m
    → take 9 l ≡ take 9 m
    → (f : Fault)
    → Refused (block_codes l) f
    → Refused (block_codes m) f
long-refused l m h k e f (inl (a, q)) = inl (same-mark l m h k e a, q)
long-refused l m h k e f (inr (a, inl (b, q))) = inr ((λ x. a (same-mark m l k h (sym e) x)), inl (same_version l m h k e b, q))
long-refused l m h k e f (inr (a, inr (b, inl (c, q)))) =
    inr ((λ x. a (same-mark m l k h (sym e) x)), inr ((λ x. b (same_version m l k h (sym e) x)), inl (long-size m k, q)))
long-refused l m h k e f (inr (a, inr (b, inr (c, r)))) = absurd (c (long-size l h))

module _ (n : ℕ) (l : List ℕ) (h : place 800 < n) where
  -- all of the input, or a part that is longer than any block
  whole-or-long : (take n l ≡ l) ⊎ ((place 800 < length (take n l)) × (place 800 < length l))
  whole-or-long = go (dec_le (length l) n)
    where
      go : Dec (length l ≤ n) → (take n l ≡ l) ⊎ ((place 800 < length (take n l)) × (place 800 < length l))
      go (yes k) = inl (take_all n l k)
      go (no k) = inr (omega (arith, length-take-le n l (omega arith)), omega arith)

  pub prefix-refused : (f : Fault) → Refused (block_codes (take n l)) f → Refused (block_codes l) f
  prefix-refused f r = go whole-or-long
    where
      go : (take n l ≡ l) ⊎ ((place 800 < length (take n l)) × (place 800 < length l)) → Refused (block_codes l) f
      go (inl e) = subst (λ (b : List ℕ). Refused (block_codes b) f) e r
      go (inr (a, b)) = long-refused (take n l) l a b (take-take 9 n l (omega arith)) f r

  pub prefix-accepted : Accepted (block_codes (take n l)) → take n l ≡ l
  prefix-accepted a = go whole-or-long
    where
      go : (take n l ≡ l) ⊎ ((place 800 < length (take n l)) × (place 800 < length l)) → take n l ≡ l
      go (inl e) = e
      go (inr (b, c)) = absurd (let t = accepted-header (take n l) a in omega (arith, header-few (take n l) t, header-size (take n l) t))
