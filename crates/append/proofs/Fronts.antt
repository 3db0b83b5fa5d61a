-- A run of appends as a loop walks it: what passed so far, and what comes next.
--   carried_none   : what is carried over none
--   passes_append, stops-append : what passed so far, and then the rest
--   passes-room, passes-few : what those that pass have met
-- Assumes nothing.
use mathlib.Core.Path.{◌≡◌, refl}
use mathlib.Core.List.{List, [], ◌∷◌, ◌++◌}
use Prim.Native.Nat.{ℕ, suc, ◌+◌, ◌-◌, ◌*◌, ◌≤◌}
use native.Mathlib.Nat as N
use native.Mathlib.Omega.{arith}
use lib.ListN.{length}
use Rattle.append.specs.Series.{Given, Carried, Stops, later, Passes, empty, first}

pub carried_none : {low count room : ℕ} → Carried low count room [] low count room
carried_none = record { low_is = refl; count_is = omega arith; room_is = omega arith }

-- ---- so far, and then the rest
less : {low count room l n m : ℕ} {g : Given} {hs : List Given} → Carried low count room (g ∷ hs) l n m
    → Carried (suc g.id) (suc count) (room - 80) hs l n m
less k = record { low_is = k.low_is; count_is = omega (arith, k.count_is); room_is = omega (arith, k.room_is) }

pub passes_append : {low count room : ℕ} {hs gs : List Given} {l n m : ℕ}
    → Carried low count room hs l n m
    → Passes low count room hs
    → Passes l n m gs
    → Passes low count room (hs ++ gs)
passes_append {low} {count} {room} {gs = gs} {l} {n} {m} k empty t =
    let e : n ≡ count = omega (arith, k.count_is) in
    let f : m ≡ room = omega (arith, k.room_is) in
    rw k.low_is at (rw e at (rw f at t))
passes_append k (first a p) t = first a (passes_append (less k) p t)

pub stops-append : {low count room : ℕ} {hs gs : List Given} {l n m c : ℕ}
    → Carried low count room hs l n m
    → Passes low count room hs
    → Stops l n m gs c
    → Stops low count room (hs ++ gs) c
stops-append {low} {count} {room} {gs = gs} {l} {n} {m} k empty t =
    let e : n ≡ count = omega (arith, k.count_is) in
    let f : m ≡ room = omega (arith, k.room_is) in
    rw k.low_is at (rw e at (rw f at t))
stops-append k (first a p) t = later a (stops-append (less k) p t)

-- ---- what those that pass have met
pub passes-room : {low count room : ℕ} {gs : List Given} → Passes low count room gs → 80 * length gs ≤ room
passes-room empty = omega arith
passes-room (first a p) = omega (arith, passes-room p, N.lt_of_not-le a.1.1.1.1.1.1.1.0)

pub passes-few : {low count room : ℕ} {gs : List Given} → count ≤ 800 → Passes low count room gs → count + length gs ≤ 800
passes-few h empty = omega arith
passes-few h (first a p) =
    let n = N.lt_of_not-le a.1.1.1.1.1.1.0 in
    omega (arith, passes-few n p)
