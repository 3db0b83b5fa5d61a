-- The list of a block is one text, and the calls `write_list` and `write_floor_list` have one outcome: a block has one reading, an element
-- one verdict, a refusal one code.
--   line-unique, lines-unique : a record has one line, and so have records
--   lists-unique      : bytes have one list
--   write-unique      : so a call has one answer, and leaves one content of the buffer
--   write-list-unique, write-floor-list-unique : that, of the two calls
--   write-within      : the length that it answers lies in the buffer
--   write-text        : and in a buffer of 71,680 characters the list stands up to it
--   lists-prefix, write-prefix : the list of the first n bytes of an input, n above the length of any block, is that of the input
--   floor-codes       : a record of a block is refused by a floor with 1, 2, 16 or 17
-- For every profile. Assumes nothing.
use mathlib.Core.Path.{◌≡◌, refl, sym, ◌∙◌, ap, ap₂, subst}
use mathlib.Core.List.{List, ◌++◌}
use mathlib.Core.Logic.{◌⊎◌, inl, inr}
use Prim.Native.Nat.{ℕ, ◌≤◌, ◌<◌}
use native.Mathlib.Omega.{arith}
use lib.ListN.{length, take}
use Rattle.element.specs.Kinds.{kind_of}
use Rattle.element.specs.Refusals.{Refused}
use Rattle.element.proofs.Refusals.{refused-unique, refused-accepted}
use Rattle.endian.specs.Numbers.{over}
use Rattle.endian.proofs.Writes.{length_over}
use Rattle.judge.specs.Verdict.{Answer}
use Rattle.judge.proofs.Faithful.{element-faithful}
use Rattle.judge.proofs.Unique.{judges-unique}
use Rattle.floor.specs.Floor as floor
use Rattle.floor.specs.Calls.{floor_codes}
use Rattle.floor.proofs.Values.{floor-faithful}
use Rattle.record.specs.declared.Record.{Record}
use Rattle.record.specs.Record.{used, WellFormed}
use Rattle.signs.specs.Signs.{element, limit_of}
use Rattle.signs.proofs.Verdicts.{formed-accepted}
use Rattle.block.specs.Block.{place}
use Rattle.block.specs.Faults.{Fault, block_codes}
use Rattle.block.proofs.Blocks.{holds-accepted, one-version, one-reading}
use Rattle.block.proofs.Long.{prefix-refused, prefix-accepted}
use Rattle.lines.specs.Words.{first_line, refused_line, refused_record}
use Rattle.list.specs.declared.Listed.{Listed}
use Rattle.floor.specs.declared.Profile.{Profile}
use Rattle.floor.specs.declared.Profile.TheVariants.{Plain, Floor}
use Rattle.list.specs.Listing.{Line, line_of, FloorLine, judged, refused, LineBy, plain, floored, Lines, no_more, ◌then◌, Lists, listed}
use Rattle.list.specs.Calls.{WritesBy, WritesList, WritesFloorList}
use Rattle.list.proofs.Steps.{take-over}

line-unique : {r : Record} {t u : List ℕ} → Line r t → Line r u → t ≡ u
line-unique {r} p q =
    p.text
    ∙ ap (λ (a : Answer). line_of r a r.signed)
    (judges-unique (element r) (element-faithful (kind_of r.kind) (used r)) (limit_of r) p.verdict q.verdict p.judged q.judged)
    ∙ sym q.text

floor-line-unique : {p : ℕ} {r : Record} {t u : List ℕ} → FloorLine p r t → FloorLine p r u → t ≡ u
floor-line-unique {p} {r} (judged a f j) (judged b g k) =
    ap (λ (a : Answer). line_of r a 0) (judges-unique (floor.floored p (used r)) (floor-faithful p (used r)) r.limit a b j k)
floor-line-unique {p} {r} (judged a f j) (refused c k) = absurd (refused-accepted (floor_codes r.kind r.limit (used r) p) c k f)
floor-line-unique {p} {r} (refused c k) (judged a f j) = absurd (refused-accepted (floor_codes r.kind r.limit (used r) p) c k f)
floor-line-unique {p} {r} (refused c k) (refused d m) =
    ap (refused_record r.id r.kind) (refused-unique (floor_codes r.kind r.limit (used r) p) c d k m)

pub line-by-unique : {q : Profile} {r : Record} {t u : List ℕ} → LineBy q r t → LineBy q r u → t ≡ u
line-by-unique (plain a) (plain b) = line-unique a b
line-by-unique (floored a) (floored b) = floor-line-unique a b

-- ---- for every profile
module _ (q : Profile) where
  pub lines-unique : {rs : List Record} {t u : List ℕ} → Lines q rs t → Lines q rs u → t ≡ u
  lines-unique no_more no_more = refl
  lines-unique (◌then◌ {t = t} {u = u} p ps) (◌then◌ {t = v} {u = w} r rs) =
      ap (λ (x : List ℕ). x ++ u) (line-by-unique p r) ∙ ap (λ (x : List ℕ). v ++ x) (lines-unique ps rs)

  lines-as : {rs ss : List Record} {t : List ℕ} → rs ≡ ss → Lines q rs t → Lines q ss t
  lines-as {t = t} e ls = subst (λ (rs : List Record). Lines q rs t) e ls

  pub lists-unique : {l t u : List ℕ} → Lists q l t → Lists q l u → t ≡ u
  lists-unique {l} (refused {f = f} a) (refused {f = g} b) = ap (λ (h : Fault). refused_line h.code h.number) (refused-unique (block_codes l) f g a b)
  lists-unique {l} (refused {f = f} a) (listed h ls) = absurd (refused-accepted (block_codes l) f a (holds-accepted h))
  lists-unique {l} (listed h ls) (refused {f = f} a) = absurd (refused-accepted (block_codes l) f a (holds-accepted h))
  lists-unique (listed {v = v} {rs = rs} {t = t} h ls) (listed {v = w} {rs = ss} {t = u} g ms) =
      let e = one-reading h g in
      ap₂ (λ (n : ℕ) (xs : List Record). first_line n (length xs) ++ t) (one-version h g) e
      ∙ ap (λ (x : List ℕ). first_line w (length ss) ++ x) (lines-unique (lines-as e ls) ms)

  -- the answer, and what is left of the buffer
  pub write-unique : (l o : List ℕ) (o' o'' : List ℕ) (r s : Listed) → WritesBy q l o o' r → WritesBy q l o o'' s → (r ≡ s) × (o' ≡ o'')
  write-unique l o o' o'' r s (inl a) (inl b) =
      let e = lists-unique a.lists b.lists in
      (a.answer ∙ ap (λ (t : List ℕ). record { code = 0; number = 0; length = length t }) e ∙ sym b.answer, a.content ∙ ap (over o 0) e ∙ sym b.content)
  write-unique l o o' o'' r s (inl a) (inr b) =
      let e = ap length (lists-unique a.lists b.lists) in let h = a.room in let k = b.room in absurd (omega arith)
  write-unique l o o' o'' r s (inr a) (inl b) =
      let e = ap length (lists-unique a.lists b.lists) in let h = a.room in let k = b.room in absurd (omega arith)
  write-unique l o o' o'' r s (inr a) (inr b) = (a.answer ∙ sym b.answer, a.content ∙ sym b.content)

  pub write-within : (l o o' : List ℕ) (r : Listed) → WritesBy q l o o' r → r.length ≤ length o'
  write-within l o o' r (inl a) =
      let e = ap (λ (x : Listed). x.length) a.answer in
      let h = a.room in
      let k = ap length a.content ∙ length_over a.text o 0 (omega arith) in
      omega arith
  write-within l o o' r (inr a) = let e = ap (λ (x : Listed). x.length) a.answer in omega arith

  pub write-text : {l o o' : List ℕ} {r : Listed} → 71680 ≤ length o → WritesBy q l o o' r → Lists q l (take r.length o')
  write-text {l} {o} {o'} {r} h (inl a) =
      subst (Lists q l) (sym (ap₂ (λ (n : ℕ) (s : List ℕ). take n s) (ap (λ (x : Listed). x.length) a.answer) a.content ∙ take-over o a.text)) a.lists
  write-text h (inr a) = let k = a.room in let m = a.within in absurd (omega arith)

  -- ---- the first bytes of an input
  pub lists-prefix : (n : ℕ) (l t : List ℕ) → place 800 < n → Lists q (take n l) t → Lists q l t
  lists-prefix n l t h (refused {f = f} r) = refused (prefix-refused n l h f r)
  lists-prefix n l t h (listed {t = u} p ls) =
      subst (λ (b : List ℕ). Lists q b t) (prefix-accepted n l h (holds-accepted p)) (listed p ls)

  pub write-prefix : (n : ℕ) (l o o' : List ℕ) (r : Listed) → place 800 < n → WritesBy q (take n l) o o' r → WritesBy q l o o' r
  write-prefix n l o o' r h (inl p) =
      inl (record { text = p.text; lists = lists-prefix n l p.text h p.lists; room = p.room; answer = p.answer; content = p.content })
  write-prefix n l o o' r h (inr p) =
      inr (record { text = p.text; lists = lists-prefix n l p.text h p.lists; within = p.within; room = p.room; answer = p.answer; content = p.content })

-- ---- the two calls
pub write-list-unique : (l o : List ℕ) (o' o'' : List ℕ) (r s : Listed) → WritesList l o o' r → WritesList l o o'' s → (r ≡ s) × (o' ≡ o'')
write-list-unique = write-unique Plain

pub write-floor-list-unique : (p : ℕ) (l o : List ℕ) (o' o'' : List ℕ) (r s : Listed) → WritesFloorList p l o o' r
    → WritesFloorList p l o o'' s
    → (r ≡ s) × (o' ≡ o'')
write-floor-list-unique p = write-unique (Floor p)

-- ---- a record that a floor refuses: its length, its coordinates and its corners have no fault
pub floor-codes : {m : ℕ} (p c : ℕ) (r : Record) → WellFormed m r
    → Refused (floor_codes r.kind r.limit (used r) p) c
    → (c ≡ 1) ⊎ (c ≡ 2) ⊎ (c ≡ 16) ⊎ (c ≡ 17)
floor-codes p c r w (inl (f, e)) = inl e
floor-codes p c r w (inr (f, inl (g, e))) = inr (inl e)
floor-codes p c r w (inr (f, inr (g, inl (h, e)))) = absurd ((formed-accepted r w r.limit w.level_allowed).1.1.0 h)
floor-codes p c r w (inr (f, inr (g, inr (h, inl (o, e))))) = absurd (w.inside o)
floor-codes p c r w (inr (f, inr (g, inr (h, inr (o, inl (d, e)))))) = absurd (w.corners_differ d)
floor-codes p c r w (inr (f, inr (g, inr (h, inr (o, inr (d, inl (n, e))))))) = inr (inr (inl e))
floor-codes p c r w (inr (f, inr (g, inr (h, inr (o, inr (d, inr (n, inl (s, e)))))))) = inr (inr (inr e))
floor-codes p c r w (inr (f, inr (g, inr (h, inr (o, inr (d, inr (n, inr (s, none)))))))) = absurd none
