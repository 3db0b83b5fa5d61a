-- Nothing signed reopens, as the list shows it (02, Ask 4: "A signed record is judged with its signed level as limit, so a lowered limit
-- can't reopen it").
--   line-limit     : the line of a signed record is the same whatever its stored limit
--   line-signed    : in a block it shows the signed word with the signed level, and never undecided
--   line_stays     : and the verdict under every limit of that level or more
--   kept-list      : two blocks that differ in the stored limit of one signed record alone have the same list
--   limit-list     : so has a block with another stored limit of a signed record, up to the kind's greatest: it is accepted
--   limit-writes   : and the call `write_list` answers and leaves the same for both
-- Assumes nothing.
use mathlib.Core.Path.{◌≡◌, sym, ap, ap₂, ◌∙◌, subst}
use mathlib.Core.List.{List, [], ◌∷◌, ◌++◌}
use mathlib.Core.Logic.{inl, inr}
use Prim.Native.Nat.{ℕ, zero, suc, ◌≤◌, ◌<◌}
use native.Mathlib.Nat as N
use native.Mathlib.Omega.{arith}
use lib.ListN.{length, set, length-set}
use Rattle.element.specs.Kinds.{kind_of}
use Rattle.element.specs.Refusals.{AboveLevel}
use Rattle.element.proofs.Refusals.{refused-accepted}
use Rattle.judge.specs.Verdict.{undecided, Answer, Judges}
use Rattle.record.specs.declared.Record.{Record}
use Rattle.signs.specs.Signs.{element, Agrees}
use Rattle.signs.proofs.Kept.{limit-signed, signed-agrees, signed-settled, signed-stays}
use Rattle.block.specs.Block.{record_of, Holds}
use Rattle.block.specs.Faults.{block_codes}
use Rattle.block.specs.Changes.{with_limit, limited_to}
use Rattle.block.proofs.Blocks.{holds-accepted, one-version, one-reading}
use Rattle.block.proofs.Changes.{limit-holds}
use Rattle.lines.specs.Words.{first_line}
use Rattle.floor.specs.declared.Profile.TheVariants.{Plain}
use Rattle.list.specs.declared.Listed.{Listed}
use Rattle.list.specs.Listing.{Line, line_of, plain, Lines, no_more, ◌then◌, Lists, refused, listed}
use Rattle.list.specs.Calls.{WritesList}
use Rattle.list.proofs.Outcomes.{write-list-unique}

-- ---- one line
pub line-limit : {r : Record} {t : List ℕ} → ¬ (r.signed ≡ 0) → (m : ℕ) → Line r t → Line (limited_to r m) t
line-limit {r} s m p =
    record {
      verdict = p.verdict;
      judged = subst (λ (n : ℕ). Judges (element r) n p.verdict) (limit-signed r s ∙ sym (limit-signed (limited_to r m) s)) p.judged;
      text = p.text;
    }

module _ {v : ℕ} {l : List ℕ} {rs : List Record} (h : Holds v l rs) (k : ℕ) (i : k < length rs) (s : ¬ ((record_of rs k).signed ≡ 0))
    {t : List ℕ} (p : Line (record_of rs k) t) where
  abbrev this : Record
  this = record_of rs k

  at_level : Judges (element this) this.level p.verdict
  at_level = subst (λ (n : ℕ). Judges (element this) n p.verdict) (limit-signed this s) p.judged

  pub line-signed : Agrees (record_of rs k) p.verdict × ¬ (p.verdict.word ≡ undecided)
  line-signed = (signed-agrees this s (h.kept k i) p.verdict at_level, signed-settled this s (h.kept k i) p.verdict at_level)

  pub line_stays : (L : ℕ) (b : Answer) → (record_of rs k).level ≤ L
      → Judges (element (record_of rs k)) L b
      → t ≡ line_of (record_of rs k) b (record_of rs k).signed
  line_stays L b q j = p.text ∙ ap (λ (a : Answer). line_of this a this.signed) (sym (signed-stays this s (h.kept k i) L p.verdict b q at_level j))

-- ---- the list
-- another record k that has the same line
lines-set : {t : List ℕ} (rs : List Record) (k : ℕ) (q : Record) → k < length rs
    → ((u : List ℕ) → Line (record_of rs k) u → Line q u)
    → Lines Plain rs t
    → Lines Plain (set rs k q) t
lines-set [] k q i f no_more = absurd (N.not-suc-le-zero i)
lines-set (r ∷ rs) zero q i f (plain {t = u} p then ps) = plain (f u p) then ps
lines-set (r ∷ rs) (suc k) q i f (p then ps) = p then lines-set rs k q (omega arith) f ps

module _ {v : ℕ} {l : List ℕ} {rs : List Record} (h : Holds v l rs) (k : ℕ) (i : k < length rs) (s : ¬ ((record_of rs k).signed ≡ 0)) (m : ℕ) where
  pub kept-list : {a t : List ℕ} → Holds v a (set rs k (limited_to (record_of rs k) m)) → Lists Plain l t → Lists Plain a t
  kept-list {a} g (refused {f = f} r) = absurd (refused-accepted (block_codes l) f r (holds-accepted h))
  kept-list {a} g (listed {v = w} {rs = qs} {t = t} b ls) =
      let e = one-reading b h in
      let lines = lines-set rs k (limited_to (record_of rs k) m) i (λ u p. line-limit s m p) (subst (λ (xs : List Record). Lines Plain xs t) e ls) in
      subst (Lists Plain a)
      (ap₂ (λ (x y : ℕ). first_line x y ++ t) (one-version h b) (length-set rs k (limited_to (record_of rs k) m) ∙ ap length (sym e)))
      (listed g lines)

module _ {v : ℕ} {l : List ℕ} {rs : List Record} (h : Holds v l rs) (k : ℕ) (i : k < length rs) (s : ¬ ((record_of rs k).signed ≡ 0)) (m : ℕ)
    (b : ¬ AboveLevel (kind_of (record_of rs k).kind) m) where
  pub limit-list : {t : List ℕ} → Lists Plain l t → Lists Plain (with_limit l k m) t
  limit-list = kept-list h k i s m (limit-holds h k i s m b)

  pub limit-writes : (o o' o'' : List ℕ) (r q : Listed) → WritesList l o o' r → WritesList (with_limit l k m) o o'' q → (r ≡ q) × (o' ≡ o'')
  limit-writes o o' o'' r q x y = write-list-unique (with_limit l k m) o o' o'' r q (moved x) y
    where
      moved : WritesList l o o' r → WritesList (with_limit l k m) o o' r
      moved (inl f) = inl (record { text = f.text; lists = limit-list f.lists; room = f.room; answer = f.answer; content = f.content })
      moved (inr f) = inr (record { text = f.text; lists = limit-list f.lists; within = f.within; room = f.room; answer = f.answer; content = f.content })
