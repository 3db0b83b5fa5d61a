-- A run of appends that stops, parted at the one that is refused.
--   Split low count room gs c == gs are some that pass, one that is refused with the code c, and those behind it
--   stops-split    : what stops is parted so
--   Left v b used gs low count room == what a run over gs without a fault leaves, with the numbers that are carried on
--   state-left     : the run over some that pass, from a state on
--   series-split   : over a good block: those before are appended, and the call of the one is refused
--   series-then    : where those before are appended and the next call is refused the run stops there
-- Assumes nothing.
use mathlib.Core.Path.{◌≡◌, refl, ap, subst}
use mathlib.Core.List.{List, [], ◌∷◌, ◌++◌}
use mathlib.Core.Logic.{inl, inr}
use Prim.Native.Nat.{ℕ, ◌+◌, ◌-◌, ◌*◌}
use native.Mathlib.Omega.{arith}
use lib.ListN.{length, take}
use Rattle.element.specs.Refusals.{Refused, Accepted}
use Rattle.endian.specs.Numbers.{Bytes}
use Rattle.record.specs.declared.Record.{Record}
use Rattle.block.specs.Block.{count_of}
use Rattle.block.specs.Faults.{lowest}
use Rattle.append.specs.declared.Appended.{Appended}
use Rattle.append.specs.Append.{buffer_codes}
use Rattle.append.specs.Calls.{Appends}
use Rattle.append.specs.Series.{Given, Series, ended, stopped, onward, IdsFit, next_codes, low_after, Stops, here, later, Passes, empty, first}
use Rattle.append.proofs.States.{State, state-good, answered, refused-at, added, appended, state-next}

-- ---- what stops
pub record Split (low count room : ℕ) (gs : List Given) (c : ℕ) : Type 0 where
  pub before : List Given
  pub one : Given
  pub after : List Given
  pub whole : gs ≡ before ++ (one ∷ after)
  pub passes : Passes low count room before
  pub refused : Refused (next_codes (low_after low before) (count + length before) (room - 80 * length before) one) c

-- the same numbers, counted another way
refused-same : {l n m i j c : ℕ} (g : Given) → n ≡ i → m ≡ j → Refused (next_codes l n m g) c → Refused (next_codes l i j g) c
refused-same {l} {n} {m} {i} {j} {c} g e f r =
    subst (λ x. Refused (next_codes l i x g) c) f (subst (λ x. Refused (next_codes l x m g) c) e r)

pub stops-split : {low count room : ℕ} {gs : List Given} {c : ℕ} → Stops low count room gs c → Split low count room gs c
stops-split (here {g = g} {gs = gs} r) =
    record { before = []; one = g; after = gs; whole = refl; passes = empty; refused = refused-same g (omega arith) (omega arith) r }
stops-split (later {g = g} a t) =
    let s = stops-split t in
    record {
      before = g ∷ s.before;
      one = s.one;
      after = s.after;
      whole = ap (λ l. g ∷ l) s.whole;
      passes = first a s.passes;
      refused = refused-same s.one (omega arith) (omega arith) s.refused;
    }

-- ---- those before
pub record Left (v : ℕ) (b : List ℕ) (used : ℕ) (gs : List Given) (low count room : ℕ) : Type 0 where
  pub left : List ℕ
  pub up : ℕ
  pub held : List Record
  pub series : Series b used gs (answered up) left
  pub state : State v left up held (low_after low gs) (count + length gs) (room - 80 * length gs)

state-same : {v : ℕ} {b : List ℕ} {used : ℕ} {rs : List Record} {l n m i j : ℕ} → n ≡ i → m ≡ j → State v b used rs l n m → State v b used rs l i j
state-same {v} {b} {used} {rs} {l} {n} {m} {i} {j} e f s = subst (λ x. State v b used rs l i x) f (subst (λ x. State v b used rs l x m) e s)

pub state-left : {v : ℕ} {b : List ℕ} {used : ℕ} {rs : List Record} {low count room : ℕ} {gs : List Given}
    → State v b used rs low count room
    → IdsFit gs
    → Passes low count room gs
    → Left v b used gs low count room
state-left {v} {b} {used} {rs} s f empty =
    record { left = b; up = used; held = rs; series = ended; state = state-same (omega arith) (omega arith) s }
state-left {b = b} {used = used} s f (first {g = g} a p) =
    let n = state-left {b = added b used g} (state-next s g f.0 a) f.1 p in
    record {
      left = n.left;
      up = n.up;
      held = n.held;
      series = onward (inr (appended s g a)) refl n.series;
      state = state-same (omega arith) (omega arith) n.state;
    }

-- ---- over a block
module _ (b : List ℕ) (used : ℕ) where
  abbrev low : ℕ
  low = lowest (take used b) (count_of (take used b))

  abbrev count : ℕ
  count = count_of (take used b)

  pub series-split : {before : List Given} {g : Given} {c : ℕ}
      → Bytes b
      → Accepted (buffer_codes b used)
      → IdsFit before
      → Passes low count (length b - used) before
      → Refused (next_codes (low_after low before) (count + length before) (length b - used - 80 * length before) g) c
      → (left : List ℕ) × ((up : ℕ) × (Series b used before (record { code = 0; number = 0; used = up }) left
      × Appends left up g.id g.kind g.limit g.coords (record { code = c; number = 0; used = 0 }) left))
  series-split {before} {g} {c} p ok f t r =
      let n = state-left (state-good b used p ok) f t in
      (n.left, (n.up, (n.series, inl (record { refused = refused-at n.state g c r; no_used = refl; untouched = refl }))))

-- ---- the other way
then-stops : {b : List ℕ} {used : ℕ} {before : List Given} {s : Appended} {left : List ℕ} {g : Given} {r : Appended} {a : List ℕ} (after : List Given)
    → Series b used before s left
    → s.code ≡ 0
    → Appends left s.used g.id g.kind g.limit g.coords r a
    → ¬ (r.code ≡ 0)
    → Series b used (before ++ (g ∷ after)) r a
then-stops after ended e q n = stopped q n
then-stops after (stopped p h) e q n = absurd (h e)
then-stops after (onward p z t) e q n = onward p z (then-stops after t e q n)

pub series-then : {b : List ℕ} {used : ℕ} {before : List Given} {up : ℕ} {left : List ℕ} {g : Given} {r : Appended} {a : List ℕ} (after : List Given)
    → Series b used before (record { code = 0; number = 0; used = up }) left
    → Appends left up g.id g.kind g.limit g.coords r a
    → ¬ (r.code ≡ 0)
    → Series b used (before ++ (g ∷ after)) r a
series-then after s q n = then-stops after s refl q n
