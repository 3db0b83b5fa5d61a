-- Two subjects, of which one is judged no worse than the other.
--   Eases s t      == what passes of s passes of t, and what is bad of t is bad of s
--   Milder a b     == the answer b is valid, at no deeper level and with no more cells than a
--   Sterner a b    == the answer b is invalid, at no deeper level than a
-- Definitions only.
use Rattle.std.specs.Prelude.{◌≡◌, ℕ, ◌≤◌}
use Rattle.forms.specs.Cuttings.{Cutting}
use Rattle.judge.specs.Verdict.{valid, invalid, Answer, Subject, AllPass, Passing}

pub record Eases (s t : Subject) : Type 0 where
  pub level : (d : ℕ) → AllPass s d → AllPass t d
  pub cutting : (u : Cutting) → Passing s u → Passing t u
  pub bad : (d i j : ℕ) → t.Bad d i j → s.Bad d i j

pub record Milder (a b : Answer) : Type 0 where
  pub word : b.word ≡ valid
  pub level : b.level ≤ a.level
  pub cells : b.cells ≤ a.cells

pub record Sterner (a b : Answer) : Type 0 where
  pub word : b.word ≡ invalid
  pub level : b.level ≤ a.level
