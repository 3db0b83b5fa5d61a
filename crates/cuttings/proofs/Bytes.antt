-- Cuttings as bytes: the same bytes are the same cutting, however it goes on; and how many bytes there are.
--   bytes-unique   : two cuttings with something behind them that are the same bytes are one, and so is what is behind
--   sheet-unique   : the same sheet is the same cutting
--   sheet-size     : the sheet of a cutting into m cells has 5 + (4m - 1) / 3 bytes
-- The bytes of a cell that is kept, and of one that is cut, stand in Heads. Assumes nothing.
use mathlib.Core.Path.{◌≡◌, refl, sym, ◌∙◌}
use mathlib.Core.List.{List, [], ◌∷◌, ◌++◌, append-nil}
use Prim.Native.Nat.{ℕ, ◌+◌, ◌*◌}
use native.Mathlib.Omega.{arith}
use lib.ListN.{length, length-append}
use Rattle.forms.specs.Cuttings.{Cutting, keep, cut, leaves}
use Rattle.forms.proofs.Cuttings.{leaves-positive}
pub use Rattle.cuttings.proofs.Heads.{bytes-keep, bytes_cut}
use Rattle.cuttings.specs.Bytes.{cutting_bytes, sheet_bytes, sheet_size}

pub head-is : {x y : ℕ} {l m : List ℕ} → x ∷ l ≡ y ∷ m → x ≡ y
head-is e = cc

pub tail-is : {x y : ℕ} {l m : List ℕ} → x ∷ l ≡ y ∷ m → l ≡ m
tail-is e = cc

pub bytes-unique : (t u : Cutting) (l m : List ℕ) → cutting_bytes t ++ l ≡ cutting_bytes u ++ m → (t ≡ u) × (l ≡ m)
bytes-unique keep keep l m e = (refl, tail-is (sym (bytes-keep l) ∙ e ∙ bytes-keep m))
bytes-unique keep (cut a b c d) l m e =
    absurd (let z : ◌≡◌ {A = ℕ} 0 1 = head-is (sym (bytes-keep l) ∙ e ∙ bytes_cut a b c d m) in omega arith)
bytes-unique (cut a b c d) keep l m e =
    absurd (let z : ◌≡◌ {A = ℕ} 1 0 = head-is (sym (bytes_cut a b c d l) ∙ e ∙ bytes-keep m) in omega arith)
bytes-unique (cut a b c d) (cut a' b' c' d') l m e =
    let f = tail-is (sym (bytes_cut a b c d l) ∙ e ∙ bytes_cut a' b' c' d' m) in
    let (p, g) = bytes-unique a a' _ _ f in
    let (q, h) = bytes-unique b b' _ _ g in
    let (r, i) = bytes-unique c c' _ _ h in
    let (s, j) = bytes-unique d d' _ _ i in
    ((cc), j)

pub sheet-unique : (t u : Cutting) → sheet_bytes t ≡ sheet_bytes u → t ≡ u
sheet-unique t u e =
    let f = tail-is (tail-is (tail-is (tail-is (tail-is e)))) in
    (bytes-unique t u [] [] (append-nil (cutting_bytes t) ∙ f ∙ sym (append-nil (cutting_bytes u)))).0

-- ---- how many: a cell of the four that a cut makes adds a byte, and one more for three
bytes-many : (t : Cutting) → 3 * length (cutting_bytes t) + 1 ≡ 4 * leaves t
unfolding cutting_bytes leaves
bytes-many keep = refl
bytes-many (cut a b c d) =
    let k = bytes-many a in let l = bytes-many b in let m = bytes-many c in let n = bytes-many d in
    simp length-append (omega arith)

pub sheet-size : (t : Cutting) → length (sheet_bytes t) ≡ sheet_size (leaves t)
sheet-size t = let a = bytes-many t in let b = leaves-positive t in omega arith
