-- A run of appends by the numbers that are carried on: its answer and its buffer are those of the calls, one after another.
--   series-unique  : answer and buffer of a run are determined by its arguments
--   stops-some, stops-unique, stops-passes : the code is not 0, is one, and none where all pass
--   state-stops, state-passes : the run, from a state on
--   series-refused : where `used` or the block has a fault, the first call is refused with it
--   series-stops   : over a good block: the code of the first that is refused, and zero in all other fields
--   series-passes  : or the bytes used, with the buffer filled at once
--   filled_none    : which is the buffer itself where nothing is appended
--   series-reads   : after a run without a refusal the block of the old records and the new is read back
--   series-behind  : and all bytes behind it stay
--   series-holds, series-rest : it holds the block of the old records and the new, and all bytes behind stay
-- Assumes nothing.
use mathlib.Core.Path.{◌≡◌, refl, sym, ap, ◌∙◌, subst}
use mathlib.Core.List.{List, [], ◌∷◌, ◌++◌, append-nil, append_assoc}
use mathlib.Core.Logic.{inl, inr}
use Prim.Native.Nat.{ℕ, ◌+◌, ◌-◌, ◌*◌, ◌≤◌}
use native.Mathlib.Omega.{arith}
use lib.ListN.{length, take, drop}
use lib.Seq.{drop-drop}
use Rattle.element.specs.Refusals.{Refused, Accepted}
use Rattle.element.proofs.Refusals.{refused-unique, refused-accepted, refused-some}
use Rattle.endian.specs.Numbers.{Bytes}
use Rattle.record.specs.declared.Record.{Record}
use Rattle.block.specs.Block.{Holds, count_of}
use Rattle.block.specs.Faults.{Fault, lowest}
use Rattle.append.specs.declared.Appended.{Appended}
use Rattle.append.specs.Append.{buffer_codes}
use Rattle.append.specs.Series.{Given, Series, ended, stopped, onward, given, records, filled, IdsFit, next_codes, Stops, here, later, Passes, first}
use Rattle.append.proofs.Orders.{buffer-refused, append-some}
use Rattle.append.proofs.Outcomes.{appends-unique, appended-is}
use Rattle.append.proofs.Runs.{appended-holds, appended-rest}
use Rattle.append.proofs.States.{State, state-of, state-good, refused-at, added, appended, state-next}
use Rattle.append.proofs.Filled.{Ran, ran-none, ran, ran-filled, ran-exact}

-- ---- one outcome
pub series-unique : {b : List ℕ} {used : ℕ} {gs : List Given} {r s : Appended} {a c : List ℕ}
    → Series b used gs r a
    → Series b used gs s c
    → (r ≡ s) × (a ≡ c)
series-unique ended ended = (refl, refl)
series-unique {b} {used} {gs} {r} {s} {a} {c} (stopped {g = g} p h) (stopped q k) =
    appends-unique b used g.id g.kind g.limit g.coords r s a c p q
series-unique {b} {used} {gs} {r} {s} {a} {c} (stopped {g = g} p h) (onward {r = t} {a = d} q e u) =
    absurd (h (ap (λ (x : Appended). x.code) (appends-unique b used g.id g.kind g.limit g.coords r t a d p q).0 ∙ e))
series-unique {b} {used} {gs} {r} {s} {a} {c} (onward {g = g} {r = t} {a = d} p e u) (stopped q h) =
    absurd (h (sym (ap (λ (x : Appended). x.code) (appends-unique b used g.id g.kind g.limit g.coords t s d c p q).0) ∙ e))
series-unique {b} {used} {gs} {r} {s} {a} {c} (onward {g = g} {gs = hs} {r = t} {a = d} p e u) (onward {r = v} {a = f} q k w) =
    let n = appends-unique b used g.id g.kind g.limit g.coords t v d f p q in
    series-unique u (subst (λ (m : ℕ). Series d m hs s c) (ap (λ (x : Appended). x.used) (sym n.0))
    (subst (λ (l : List ℕ). Series l v.used hs s c) (sym n.1) w))

-- ---- one code, or none
pub stops-some : {low count room : ℕ} {gs : List Given} {c : ℕ} → Stops low count room gs c → ¬ (c ≡ 0)
stops-some {low} {count} {room} {gs} {c} (here {g = g} r) = refused-some (next_codes low count room g) c tt r
stops-some (later a t) = stops-some t

pub stops-unique : {low count room : ℕ} {gs : List Given} {c d : ℕ} → Stops low count room gs c → Stops low count room gs d → c ≡ d
stops-unique {low} {count} {room} {gs} {c} {d} (here {g = g} r) (here q) = refused-unique (next_codes low count room g) c d r q
stops-unique {low} {count} {room} {gs} {c} {d} (here {g = g} r) (later a t) = absurd (refused-accepted (next_codes low count room g) c r a)
stops-unique {low} {count} {room} {gs} {c} {d} (later {g = g} a t) (here r) = absurd (refused-accepted (next_codes low count room g) d r a)
stops-unique (later a t) (later w u) = stops-unique t u

pub stops-passes : {low count room : ℕ} {gs : List Given} {c : ℕ} → Stops low count room gs c → Passes low count room gs → ⊥
stops-passes {low} {count} {room} {gs} {c} (here {g = g} r) (first a p) = refused-accepted (next_codes low count room g) c r a
stops-passes (later a t) (first w p) = stops-passes t p

-- ---- from a state on
pub state-stops : {v : ℕ} {b : List ℕ} {used : ℕ} {rs : List Record} {low count room : ℕ} {gs : List Given} {c : ℕ}
    → State v b used rs low count room
    → IdsFit gs
    → Stops low count room gs c
    → (a : List ℕ) × Series b used gs (record { code = c; number = 0; used = 0 }) a
state-stops {v} {b} {used} {rs} {low} {count} {room} {gs} {c} s f (here {g = g} r) = (
  b,
  stopped (inl (record { refused = refused-at s g c r; no_used = refl; untouched = refl }))
      (refused-some (next_codes low count room g) c tt r),
)
state-stops {b = b} {used = used} s f (later {g = g} a t) =
    let n = state-stops {b = added b used g} (state-next s g f.0 a) f.1 t in
    (n.0, onward (inr (appended s g a)) refl n.1)

pub state-passes : {v : ℕ} {b : List ℕ} {used : ℕ} {rs : List Record} {low count room : ℕ} {gs : List Given}
    → State v b used rs low count room
    → IdsFit gs
    → Passes low count room gs
    → Ran v b used gs rs (used + 80 * length gs) (filled b used gs)
state-passes s f p = ran-exact s.held (ran s f p).2

-- ---- over a block
module _ (b : List ℕ) (used : ℕ) where
  pub series-refused : {g : Given} {gs : List Given} (f : Fault)
      → Refused (buffer_codes b used) f
      → Series b used (g ∷ gs) (record { code = f.code; number = f.number; used = 0 }) b
  series-refused {g} f r =
      let q = buffer-refused b used g.id g.kind g.limit g.coords f r in
      stopped (inl (record { refused = q; no_used = refl; untouched = refl })) (append-some b used g.id g.kind g.limit g.coords f q)

  pub series-stops : {gs : List Given} {c : ℕ}
      → Bytes b
      → Accepted (buffer_codes b used)
      → IdsFit gs
      → Stops (lowest (take used b) (count_of (take used b))) (count_of (take used b)) (length b - used) gs c
      → (a : List ℕ) × Series b used gs (record { code = c; number = 0; used = 0 }) a
  series-stops p ok f t = state-stops (state-good b used p ok) f t

  pub series-passes : {gs : List Given}
      → Bytes b
      → Accepted (buffer_codes b used)
      → IdsFit gs
      → Passes (lowest (take used b) (count_of (take used b))) (count_of (take used b)) (length b - used) gs
      → Series b used gs (record { code = 0; number = 0; used = used + 80 * length gs }) (filled b used gs)
  series-passes p ok f t = (state-passes (state-good b used p ok) f t).series

  pub filled_none : Bytes b → Accepted (buffer_codes b used) → filled b used [] ≡ b
  filled_none p ok = let h = (state-good b used p ok).held in sym (ran-filled {used = used} h (ran-none {used = used} h))

  pub series-holds : {v : ℕ} {gs : List Given} {rs : List Record}
      → used ≤ length b
      → Holds v (take used b) rs
      → IdsFit gs
      → Passes (lowest (take used b) (count_of (take used b))) (count_of (take used b)) (length b - used) gs
      → Holds v (take (used + 80 * length gs) (filled b used gs)) (rs ++ records gs)
  series-holds w h f t = (state-passes (state-of w h) f t).holds

  pub series-rest : {v : ℕ} {gs : List Given} {rs : List Record}
      → used ≤ length b
      → Holds v (take used b) rs
      → IdsFit gs
      → Passes (lowest (take used b) (count_of (take used b))) (count_of (take used b)) (length b - used) gs
      → drop (used + 80 * length gs) (filled b used gs) ≡ drop (used + 80 * length gs) b
  series-rest w h f t = (state-passes (state-of w h) f t).rest

-- ---- what a run leaves is read back
pub series-reads : {v : ℕ} {b : List ℕ} {used : ℕ} {gs : List Given} {r : Appended} {a : List ℕ} {rs : List Record}
    → Series b used gs r a
    → r.code ≡ 0
    → IdsFit gs
    → Holds v (take used b) rs
    → Holds v (take r.used a) (rs ++ records gs)
series-reads {rs = rs} ended e f h = rw (append-nil rs) h
series-reads (stopped p n) e f h = absurd (n e)
series-reads {v} {b} {used} {rs = rs} (onward {g = g} {gs = gs} {r = r} {a = a} p z s) e f h =
    let q = appended-is b used g.id g.kind g.limit g.coords r a p z in
    let k : Holds v (take (used + 80) a) (rs ++ (given g ∷ [])) = appended-holds h f.0 q in
    let m = subst (λ n. Holds v (take n a) (rs ++ (given g ∷ []))) (ap (λ x. x.used) (sym q.answer)) k in
    subst (Holds v _) (append_assoc rs (given g ∷ []) (records gs)) (series-reads s e f.1 m)

-- ---- and all bytes behind it stay
drop-further : (m n : ℕ) (a b : List ℕ) → m ≤ n → drop m a ≡ drop m b → drop n a ≡ drop n b
drop-further m n a b h e =
    let k : m + (n - m) ≡ n = omega arith in
    ap (λ i. drop i a) (sym k) ∙ sym (drop-drop (n - m) m a) ∙ ap (drop (n - m)) e ∙ drop-drop (n - m) m b ∙ ap (λ i. drop i b) k

pub series-behind : {v : ℕ} {b : List ℕ} {used : ℕ} {gs : List Given} {r : Appended} {a : List ℕ} {rs : List Record}
    → Series b used gs r a
    → r.code ≡ 0
    → IdsFit gs
    → Holds v (take used b) rs
    → (used ≤ r.used) × (drop r.used a ≡ drop r.used b)
series-behind ended e f h = (omega arith, refl)
series-behind (stopped p n) e f h = absurd (n e)
series-behind {v} {b} {used} {rs = rs} (onward {g = g} {gs = gs} {r = r} {s = s} {a = a} p z o) e f h =
    let q = appended-is b used g.id g.kind g.limit g.coords r a p z in
    let u : r.used ≡ used + 80 = ap (λ x. x.used) q.answer in
    let k : Holds v (take (used + 80) a) (rs ++ (given g ∷ [])) = appended-holds h f.0 q in
    let i = series-behind o e f.1 (subst (λ n. Holds v (take n a) (rs ++ (given g ∷ []))) (sym u) k) in
    (omega (arith, u, i.0), i.1 ∙ drop-further (used + 80) s.used a b (omega (arith, u, i.0)) (appended-rest h f.0 q))
