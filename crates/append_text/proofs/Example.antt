-- A text that says a record, worked out: a comment, and a triangle.
--   example        == the text
--   example-records : it says the triangle, in its second line
--   example-answer : so every call over a good block with room appends the triangle
-- Assumes nothing.
use mathlib.Core.Path.{◌≡◌, refl, sym, ap, ◌∙◌, subst}
use mathlib.Core.Bool.{Bool, true, ◌&&◌, true≢false}
use mathlib.Core.List.{List, [], ◌∷◌, ◌++◌, map}
use mathlib.Core.Logic.{inl, inr}
use Prim.Native.Nat.{ℕ, ◌+◌, ◌*◌, ◌≤◌, ◌<◌}
use native.Mathlib.Omega.{arith}
use lib.ListN.{length, take}
use Rattle.element.specs.Refusals.{Accepted}
use Rattle.element.proofs.Refusals.{refused-accepted}
use Rattle.endian.specs.Numbers.{Bytes}
use Rattle.block.specs.Block.{count_of}
use Rattle.block.specs.Faults.{lowest}
use Rattle.append.specs.Append.{buffer_codes}
use Rattle.append.specs.Series.{Series, filled}
use Rattle.append.proofs.Series.{series-unique, series-passes}
use Rattle.batch.proofs.Example.{triangle, triangle-passes}
use Rattle.mesh_text.specs.Rows.{Pairs, no_pairs, pair, lines, words, in_class}
use Rattle.mesh_text.specs.Words.{WholeValue}
use Rattle.mesh_text.specs.Tests.{digits_b, unsigned, is_minus, point_b, whole_b, number_of, size_of, value_of}
use Rattle.mesh_text.proofs.Grammar.{and_both, number-true, whole-true}
use Rattle.record_text.specs.Faults.{comment}
use Rattle.record_text.specs.Says.{Says, says, Line, end, silent, spoken, Records, givens}
use Rattle.record_text.proofs.Readings.{silent-of, records-unique, records-accepted}
use Rattle.append_text.specs.declared.Texted.{Texted}
use Rattle.append_text.specs.Calls.{text_codes, spot_of, AppendsText}
use Rattle.append_text.proofs.Opened.{text-accepted}
use Rattle.append_text.proofs.Outcomes.{text-stops}

-- "# t", and "2 6 3 0 0 8 0 0 8 4 0 +4 4.0 -0 04"
abbrev note : List ℕ
note = 35 ∷ 32 ∷ 116 ∷ []

abbrev spoken-line : List ℕ
spoken-line =
    50 ∷ 32 ∷ 54 ∷ 32 ∷ 51 ∷ 32 ∷ 48 ∷ 32 ∷ 48 ∷ 32 ∷ 56 ∷ 32 ∷ 48 ∷ 32 ∷ 48 ∷ 32 ∷ 56 ∷ 32 ∷
    52 ∷ 32 ∷ 48 ∷ 32 ∷ 43 ∷ 52 ∷ 32 ∷ 52 ∷ 46 ∷ 48 ∷ 32 ∷ 45 ∷ 48 ∷ 32 ∷ 48 ∷ 52 ∷ []

abbrev pub example : List ℕ
example = note ++ (10 ∷ (spoken-line ++ (10 ∷ [])))

abbrev coordinates : List (List ℕ)
coordinates =
    (48 ∷ []) ∷ (48 ∷ []) ∷ (56 ∷ []) ∷ (48 ∷ []) ∷ (48 ∷ []) ∷ (56 ∷ []) ∷
    (52 ∷ []) ∷ (48 ∷ []) ∷ (43 ∷ 52 ∷ []) ∷ (52 ∷ 46 ∷ 48 ∷ []) ∷ (45 ∷ 48 ∷ []) ∷ (48 ∷ 52 ∷ []) ∷ []

example-lines : lines example ≡ note ∷ spoken-line ∷ [] ∷ []
unfolding lines
example-lines = refl

note-words : words note ≡ (35 ∷ []) ∷ (116 ∷ []) ∷ []
unfolding words
note-words = refl

spoken-words : words spoken-line ≡ (50 ∷ []) ∷ (54 ∷ []) ∷ (51 ∷ []) ∷ coordinates
unfolding words
spoken-words = refl

-- ---- what the words stand for
abbrev wholes : List (List ℕ) → Bool
wholes [] = true
wholes (w ∷ ws) = whole_b w && wholes ws

values : (ws : List (List ℕ)) → wholes ws ≡ true → Pairs WholeValue ws (map value_of ws)
values [] e = no_pairs
values (w ∷ ws) e = let b = and_both (whole_b w) (wholes ws) e in pair (whole-true w b.0) (values ws b.1)

example-says : Says ((50 ∷ []) ∷ (54 ∷ []) ∷ (51 ∷ []) ∷ coordinates) (triangle 2 3)
unfolding in_class digits_b unsigned is_minus point_b whole_b number_of size_of value_of
example-says =
    says (number-true (50 ∷ []) (omega arith)) (number-true (54 ∷ []) (omega arith)) (number-true (51 ∷ []) (omega arith)) (values coordinates refl)

pub example-records : Records example (record { line = 2; given = triangle 2 3 } ∷ [])
example-records =
    rw example-lines
    (silent {l = note} (rw note-words comment)
    (spoken {l = spoken-line} {g = triangle 2 3} (λ s. true≢false (sym (silent-of (rw spoken-words at s)))) (rw spoken-words example-says) end))

module _ (b : List ℕ) (used : ℕ) (y : Bytes b) (a : Accepted (buffer_codes b used))
    (low : lowest (take used b) (count_of (take used b)) ≤ 2) (few : count_of (take used b) < 800) (room : used + 80 ≤ length b) where
  run : Series b used (triangle 2 3 ∷ []) (record { code = 0; number = 0; used = used + 80 }) (filled b used (triangle 2 3 ∷ []))
  run = series-passes b used y a (omega arith, tt) (triangle-passes 2 3 b used (omega arith) low few room)

  pub example-answer : (r : Texted) (c : List ℕ) → AppendsText example b used r c
      → r ≡ record { code = 0; number = 0; line = 0; word = 0; used = used + 80; appended = 1 }
  example-answer r c (inl n) =
      let g = records-accepted example example-records in
      absurd (refused-accepted (text_codes example b used) (spot_of r) n.refused (text-accepted example b used g.0 g.1 a))
  example-answer r c (inr (inl n)) =
      let e = records-unique example n.said example-records in
      let s = subst (λ l. Series b used (givens l) (record { code = r.code; number = 0; used = 0 }) n.left) e (text-stops example b used n) in
      absurd (n.some (ap (λ x. x.code) (series-unique s run).0))
  example-answer r c (inr (inr n)) =
      n.answer
      ∙ ap (λ (l : List Line). record { code = 0; number = 0; line = 0; word = 0; used = used + 80 * length l; appended = length l })
      (records-unique example n.said example-records)
