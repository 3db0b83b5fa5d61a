-- A number of 32 bits is one of 64.
-- Assumes nothing.
use native.Mathlib.Nat.{lt_trans}
use lib.Dec.{lit<}
use lib.IntN.{ℤ}
use mir.Syntax.{w32, w64}
use mir.Val.{SFits}

pub wider : {z : ℤ} → SFits w32 z → SFits w64 z
wider p = record { sfits = lt_trans p.sfits (lit< tt) }
