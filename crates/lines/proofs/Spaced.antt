-- Numbers with a space before each.
--   spaced-front : the first numbers, and one more
--   spaced-after : numbers and what follows them, as pieces of a line
--   spaced-line  : the same, where the line ends behind them
-- Assumes nothing.
use mathlib.Core.Path.{◌≡◌, refl, sym, ap, ◌∙◌}
use mathlib.Core.List.{List, [], ◌∷◌, ◌++◌, map, append_assoc, append-nil}
use Prim.Native.Nat.{ℕ, ◌+◌, ◌<◌}
use native.Mathlib.Numerals.{add-one}
use lib.ListN.{length, take, get_or}
use lib.Seq.{take-suc}
use Rattle.text.specs.Writing.{decimal}
use Rattle.lines.specs.Words.{Piece, number, after, spaced}

spaced-more : (ns : List ℕ) (n : ℕ) → spaced (ns ++ (n ∷ [])) ≡ spaced ns ++ (32 ∷ decimal n)
spaced-more [] n = ap (λ (t : List ℕ). 32 ∷ t) (append-nil (decimal n))
spaced-more (m ∷ ns) n =
    ap (λ (t : List ℕ). 32 ∷ t) (ap (λ (t : List ℕ). decimal m ++ t) (spaced-more ns n) ∙ sym (append_assoc (decimal m) (spaced ns) (32 ∷ decimal n)))

pub spaced-front : (ns : List ℕ) (i : ℕ) → i < length ns → spaced (take (i + 1) ns) ≡ spaced (take i ns) ++ (32 ∷ decimal (get_or ns i 0))
spaced-front ns i h =
    ap (λ (k : ℕ). spaced (take k ns)) (add-one i) ∙ ap spaced (take-suc ns i 0 h) ∙ spaced-more (take i ns) (get_or ns i 0)

pub spaced-after : (ns : List ℕ) (e : List Piece) → spaced ns ++ after e ≡ after (map number ns ++ e)
spaced-after [] e = refl
spaced-after (n ∷ ns) e =
    ap (λ (t : List ℕ). 32 ∷ t) (append_assoc (decimal n) (spaced ns) (after e) ∙ ap (λ (t : List ℕ). decimal n ++ t) (spaced-after ns e))

pub spaced-line : (ns : List ℕ) → spaced ns ++ (10 ∷ []) ≡ after (map number ns)
spaced-line ns = spaced-after ns [] ∙ ap after (append-nil (map number ns))
