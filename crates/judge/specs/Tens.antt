-- Ten-node triangles to prove (02, Ask 11): each with its limit, its control values, and its verdict.
--   curved x4 x5 y5 x6 y6 x9 y9 == corners (0,0), (9,0), (0,9), node 4 at (x4,0), nodes 5, 6 and the centre as given, and straight else
--   straight10       == all straight: nodes a third apart, the centre in the middle
--   in_order ps xs    == the nodes ps of xs, in this order
--   foreign xs       == xs in another program's order: edges 12, 02 and 01, each from its lower corner on
--   tens             == straight; valid at level 1, and at level 2; bad at a corner with J zero there; bad at the middle of the edge 12;
--                       open at level 2; and the straight one in the other order
-- Definitions only.
use Rattle.std.specs.Prelude.{List, [], ◌∷◌, ℕ, ℤ, pos, replicate}
use Rattle.element.specs.Kinds.{ten}
use Rattle.element.specs.Nodes.{node}
use Rattle.judge.specs.Verdict.{is_valid, is_invalid, is_undecided}
use Rattle.judge.specs.Twelve.{n, judged, Row, row}

abbrev pub curved : ℕ → ℕ → ℕ → ℕ → ℕ → ℕ → ℕ → List ℤ
curved x4 x5 y5 x6 y6 x9 y9 =
    pos 0 ∷ pos 0 ∷ pos 9 ∷ pos 0 ∷ pos 0 ∷ pos 9
    ∷ pos 3 ∷ pos 0 ∷ pos x4 ∷ pos 0 ∷ pos x5 ∷ pos y5 ∷ pos x6 ∷ pos y6 ∷ pos 0 ∷ pos 6 ∷ pos 0 ∷ pos 3
    ∷ pos x9 ∷ pos y9 ∷ []

abbrev pub straight10 : List ℤ
straight10 = curved 6 6 3 3 6 3 3

abbrev pub in_order : List ℕ → List ℤ → List ℤ
in_order [] xs = []
in_order (k ∷ ks) xs = (node xs k).x ∷ (node xs k).y ∷ in_order ks xs

abbrev pub foreign : List ℤ → List ℤ
foreign = in_order (0 ∷ 1 ∷ 2 ∷ 5 ∷ 6 ∷ 8 ∷ 7 ∷ 3 ∷ 4 ∷ 9 ∷ [])

abbrev pub tens : List Row
tens =
    row ten straight10 2 (replicate 15 (pos 15552)) (judged (is_valid 0 1))
    ∷ row ten (curved 5 6 3 3 6 2 2) 2
    (pos 23328 ∷ n 9720 ∷ pos 11664 ∷ n 11664 ∷ pos 31104 ∷ pos 9720 ∷ pos 0 ∷ pos 9720 ∷ pos 44712
    ∷ pos 3888 ∷ pos 15552 ∷ pos 46656 ∷ pos 5832 ∷ pos 36936 ∷ pos 15552 ∷ [])
    (judged (is_valid 1 4))
    ∷ row ten (curved 6 5 4 2 5 3 3) 2
    (pos 15552 ∷ pos 15552 ∷ pos 19440 ∷ pos 27216 ∷ pos 38880 ∷ pos 19440 ∷ pos 11664 ∷ pos 5832 ∷ pos 1944
    ∷ pos 19440 ∷ pos 1944 ∷ pos 19440 ∷ pos 15552 ∷ n 13608 ∷ pos 7776 ∷ [])
    (judged (is_valid 2 7))
    ∷ row ten (curved 8 6 3 3 6 3 3) 3
    (pos 0 ∷ pos 31104 ∷ pos 38880 ∷ pos 23328 ∷ n 15552 ∷ pos 3888 ∷ pos 27216 ∷ pos 27216 ∷ pos 3888
    ∷ pos 7776 ∷ pos 23328 ∷ pos 15552 ∷ pos 11664 ∷ pos 19440 ∷ pos 15552 ∷ [])
    (judged (is_invalid 0 0 0 (pos 0)))
    ∷ row ten (curved 6 5 2 2 5 3 3) 3
    (pos 15552 ∷ pos 19440 ∷ pos 19440 ∷ pos 15552 ∷ pos 7776 ∷ pos 19440 ∷ pos 15552 ∷ pos 7776 ∷ n 3888
    ∷ pos 19440 ∷ pos 7776 ∷ n 7776 ∷ pos 15552 ∷ n 3888 ∷ pos 7776 ∷ [])
    (judged (is_invalid 1 1 1 (n 62208)))
    ∷ row ten (curved 6 5 2 3 5 3 3) 2
    (pos 15552 ∷ pos 19440 ∷ pos 19440 ∷ pos 15552 ∷ pos 7776 ∷ pos 17496 ∷ pos 13608 ∷ pos 4860 ∷ n 8748
    ∷ pos 19440 ∷ pos 6804 ∷ pos 5832 ∷ pos 21384 ∷ n 972 ∷ pos 23328 ∷ [])
    (judged (is_undecided 2 1))
    ∷ row ten (foreign straight10) 3
    (pos 85536 ∷ n 176904 ∷ pos 143856 ∷ pos 103032 ∷ n 299376 ∷ n 176904 ∷ pos 237168 ∷ n 130248 ∷ pos 138024
    ∷ pos 155520 ∷ n 13608 ∷ pos 33048 ∷ n 19440 ∷ n 141912 ∷ pos 85536 ∷ [])
    (judged (is_invalid 0 1 0 (n 299376)))
    ∷ []
