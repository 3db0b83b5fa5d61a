-- What the list shows of a block in which a record was straightened (02, Ask 12).
--   relined         : with another record k the lines of all others stay
--   mend-list       : the list of the block afterwards is the list before with another line of record k
--   mend-line       : which shows the record valid
-- Assumes nothing.
use mathlib.Core.Path.{◌≡◌, refl, sym, ◌∙◌, ap, ap₂, subst}
use mathlib.Core.List.{List, [], ◌∷◌, ◌++◌, append_assoc}
use Prim.Native.Nat.{ℕ, zero, suc, ◌<◌}
use native.Mathlib.Nat as N
use native.Mathlib.Omega.{arith}
use lib.ListN.{length, set, length-set}
use Rattle.element.specs.Kinds.{kind_of}
use Rattle.element.proofs.Refusals.{refused-accepted}
use Rattle.endian.specs.Numbers.{Bytes}
use Rattle.judge.specs.Verdict.{valid}
use Rattle.judge.proofs.Faithful.{element-faithful}
use Rattle.judge.proofs.Unique.{valid-word}
use Rattle.record.specs.declared.Record.{Record}
use Rattle.record.specs.Record.{used}
use Rattle.signs.specs.Signs.{element, limit_of}
use Rattle.block.specs.Block.{record_of, Holds, version_of, records_in}
use Rattle.block.specs.Faults.{block_codes}
use Rattle.block.proofs.Blocks.{holds-accepted, one-version, one-reading}
use Rattle.lines.specs.Words.{first_line}
use Rattle.floor.specs.declared.Profile.TheVariants.{Plain}
use Rattle.list.specs.Listing.{Line, plain, Lines, no_more, ◌then◌, Lists, refused, listed}
use Rattle.list.proofs.Outcomes.{line-by-unique, lines-unique}
use Rattle.mending.specs.declared.Mended.{Mended}
use Rattle.mending.specs.Changes.{mended_record}
use Rattle.mending.specs.Calls.{IsMended}
use Rattle.mending.specs.Lists.{Relined, Relisted}
use Rattle.mending.proofs.Runs.{before-mend, below, mend-holds, mend-valid}

-- ---- lines
pub relined : (rs : List Record) (k : ℕ) (q : Record) {t u : List ℕ} → k < length rs → Lines Plain rs t
    → Lines Plain (set rs k q) u
    → Relined rs k q t u
relined [] k q i no_more ls = absurd (N.not-suc-le-zero i)
relined (r ∷ rs) zero q i (◌then◌ {t = o} {u = b} (plain p) ps) (◌then◌ {t = n} {u = c} (plain m) ms) =
    record {
      front = [];
      old = o;
      new = n;
      back = b;
      before = no_more;
      old_line = p;
      new_line = m;
      behind = ps;
      was = refl;
      is = ap (λ (x : List ℕ). n ++ x) (lines-unique Plain ms ps);
    }
relined (r ∷ rs) (suc k) q i (◌then◌ {t = o} {u = b} p ps) (◌then◌ {t = n} {u = c} m ms) =
    let x = relined rs k q (omega arith) ps ms in
    record {
      front = o ++ x.front;
      old = x.old;
      new = x.new;
      back = x.back;
      before = p then x.before;
      old_line = x.old_line;
      new_line = x.new_line;
      behind = x.behind;
      was = ap (λ (y : List ℕ). o ++ y) x.was ∙ sym (append_assoc o x.front (x.old ++ x.back));
      is = ap₂ (λ (y z : List ℕ). y ++ z) (line-by-unique m p) x.is ∙ sym (append_assoc o x.front (x.new ++ x.back));
    }

-- ---- a list whose records are known
read-list : {v : ℕ} {l : List ℕ} {rs : List Record} {t : List ℕ} → Holds v l rs → Lists Plain l t
    → (u : List ℕ) × Lines Plain rs u × (t ≡ first_line v (length rs) ++ u)
read-list {l = l} h (refused {f = f} a) = absurd (refused-accepted (block_codes l) f a (holds-accepted h))
read-list h (listed {v = w} {rs = ss} {t = u} g ls) =
    let e = one-reading g h in
    (u, subst (λ (xs : List Record). Lines Plain xs u) e ls, ap₂ (λ (n : ℕ) (xs : List Record). first_line n (length xs) ++ u) (one-version g h) e)

-- ---- a success over a block
module _ {l : List ℕ} {k : ℕ} {r : Mended} {a : List ℕ} (p : Bytes l) (q : IsMended l k r a) where
  abbrev mended : Record
  mended = mended_record (record_of (records_in l) k) q.set

  pub mend-list : {t u : List ℕ} → Lists Plain l t → Lists Plain a u
      → Relisted (version_of l) (records_in l) k (mended_record (record_of (records_in l) k) q.set) t u
  mend-list x y =
      let (t, ts, e) = read-list (before-mend p q) x in
      let (u, us, f) = read-list (mend-holds p q) y in
      record {
        lines = t;
        relines = u;
        relined = relined (records_in l) k mended (below p q) ts us;
        was = e;
        is = f ∙ ap (λ (n : ℕ). first_line (version_of l) n ++ u) (length-set (records_in l) k mended);
      }

  -- "the list shows the record valid"
  pub mend-line : {t : List ℕ} → (x : Line (mended_record (record_of (records_in l) k) q.set) t) → x.verdict.word ≡ valid
  mend-line x =
      valid-word (element mended) (element-faithful (kind_of mended.kind) (used mended)) (limit_of mended) x.verdict (mend-valid p q) x.judged
