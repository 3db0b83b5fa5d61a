-- Elements that are refused for their corners alone (02, Asks 9 and 11).
--   Case          == a kind, its coordinates and its control values
--   diagonals     == two quads whose corners 00 and 22 stand at one place
--   looped        == a ten-node triangle whose corners A0 and A1 stand at one place
--   Spurned q     == the element would be valid, at level 0 and with one cell, and is refused with 21, under every limit of its kind
--   AllSpurned qs == that, of each
-- Definitions only.
use Rattle.std.specs.Prelude.{◌≡◌, List, [], ◌∷◌, ℕ, ◌≤◌, ℤ, pos}
use Rattle.element.specs.Kinds.{Kind, eight, nine, ten, node_count, greatest_level}
use Rattle.element.specs.Control.{control_values}
use Rattle.element.specs.Refusals.{Refused, verdict_codes}
use Rattle.judge.specs.Verdict.{is_valid, Judges}
use Rattle.judge.specs.Elements.{subject}
use Rattle.judge.specs.Twelve.{n}

pub record Case : Type 0 where
  pub kind : Kind
  pub coords : List ℤ
  pub values : List ℤ

abbrev pub nodes9 : List ℤ
nodes9 =
    pos 1981 ∷ pos 2000 ∷ pos 2000 ∷ pos 1337 ∷ pos 1814 ∷ pos 1308
    ∷ pos 2000 ∷ n 2000 ∷ pos 1000 ∷ pos 572 ∷ pos 1537 ∷ pos 1798
    ∷ n 879 ∷ n 963 ∷ n 2000 ∷ pos 1883 ∷ pos 1981 ∷ pos 2000 ∷ []

abbrev pub values9 : List ℤ
values9 =
    pos 93116484 ∷ pos 23165856 ∷ pos 3573540 ∷ pos 99504
    ∷ pos 232618656 ∷ pos 55577564 ∷ pos 171069072 ∷ pos 54037020
    ∷ pos 2276301588 ∷ pos 1263731120 ∷ pos 260214836 ∷ pos 35293824
    ∷ pos 744083712 ∷ pos 2357966844 ∷ pos 893113584 ∷ pos 199075644 ∷ []

abbrev pub nodes8 : List ℤ
nodes8 =
    pos 2000 ∷ pos 1363 ∷ n 358 ∷ pos 2000 ∷ n 1718 ∷ n 369
    ∷ pos 1776 ∷ pos 1445 ∷ pos 1368 ∷ n 1165 ∷ pos 1771 ∷ pos 1261
    ∷ pos 1847 ∷ pos 1210 ∷ pos 2000 ∷ pos 1363 ∷ []

abbrev pub values8 : List ℤ
values8 =
    pos 14318640 ∷ pos 173554752 ∷ pos 1030197840 ∷ pos 2709543456
    ∷ pos 5565168 ∷ pos 72698944 ∷ pos 353042832 ∷ pos 971892384
    ∷ pos 8207568 ∷ pos 22119808 ∷ pos 18194416 ∷ pos 121726944
    ∷ pos 590544 ∷ pos 162048 ∷ pos 3997296 ∷ pos 137391840 ∷ []

abbrev pub diagonals : List Case
diagonals = record { kind = nine; coords = nodes9; values = values9 } ∷ record { kind = eight; coords = nodes8; values = values8 } ∷ []

abbrev pub nodes10 : List ℤ
nodes10 =
    pos 1000 ∷ pos 258 ∷ pos 1000 ∷ pos 258 ∷ n 170 ∷ n 1000
    ∷ pos 1000 ∷ pos 57 ∷ pos 984 ∷ pos 102 ∷ pos 357 ∷ pos 726 ∷ n 341 ∷ pos 1000 ∷ pos 173 ∷ n 1000 ∷ pos 829 ∷ n 1000
    ∷ pos 569 ∷ n 200 ∷ []

abbrev pub values10 : List ℤ
values10 =
    pos 119552544 ∷ pos 33030072 ∷ pos 20784600 ∷ pos 22297464 ∷ pos 77826960
    ∷ pos 45446076 ∷ pos 254001636 ∷ pos 427299516 ∷ pos 686114604
    ∷ pos 1482525504 ∷ pos 1453751928 ∷ pos 1791734040
    ∷ pos 3697393500 ∷ pos 3165662628
    ∷ pos 135733536 ∷ []

abbrev pub looped : List Case
looped = record { kind = ten; coords = nodes10; values = values10 } ∷ []

pub record Spurned (q : Case) : Type 0 where
  pub formed : control_values q.kind q.coords ≡ q.values
  pub valid : (L : ℕ) → Judges (subject q.kind q.coords) L (is_valid 0 1)
  pub refused : (L : ℕ) → L ≤ greatest_level q.kind → Refused (verdict_codes (node_count q.kind) L q.coords) 21

abbrev pub AllSpurned : List Case → Type 0
AllSpurned [] = Unit {0}
AllSpurned (q ∷ qs) = Spurned q × AllSpurned qs
