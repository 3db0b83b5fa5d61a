-- What is no number, and its pattern.
--   only_nan    : the test tells it
--   nan_value   : its pattern is that of what is no number
--   nan_pattern : and the other way round
-- Assumes nothing.
use mathlib.Core.Path.{◌≡◌, refl}
use lib.Dec.{T}
use lib.Ieee.{Float, nan, inf, fin, binary64, of_bits, to_bits, is_nan}

pub only_nan : (x : Float) → T (is_nan x) → x ≡ nan
unfolding is_nan
only_nan nan t = refl
only_nan (inf s) t = absurd t
only_nan (fin s m e) t = absurd t

pub nan_value : of_bits binary64 9221120237041090560 ≡ nan
unfolding of_bits
nan_value = refl

pub nan_pattern : to_bits binary64 nan ≡ 9221120237041090560
unfolding to_bits
nan_pattern = refl
