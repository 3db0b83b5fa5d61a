-- The first byte of a cutting, and what is behind it.
--   bytes-keep, bytes_cut : the bytes of a cell that is kept, and of one that is cut, with something behind them
-- Assumes nothing.
use mathlib.Core.Path.{◌≡◌, refl}
use mathlib.Core.List.{List, ◌∷◌, ◌++◌, append_assoc}
use Prim.Native.Nat.{ℕ}
use Rattle.forms.specs.Cuttings.{Cutting, keep, cut}
use Rattle.cuttings.specs.Bytes.{cutting_bytes}

pub bytes-keep : (l : List ℕ) → cutting_bytes keep ++ l ≡ 0 ∷ l
unfolding cutting_bytes
bytes-keep l = refl

pub bytes_cut : (a b c d : Cutting) (l : List ℕ)
    → cutting_bytes (cut a b c d) ++ l ≡ 1 ∷ (cutting_bytes a ++ (cutting_bytes b ++ (cutting_bytes c ++ (cutting_bytes d ++ l))))
unfolding cutting_bytes
bytes_cut a b c d l = simp append_assoc
