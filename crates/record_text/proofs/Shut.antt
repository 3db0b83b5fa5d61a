-- Texts with a fault, worked out: where it is, and that no other place is named.
--   cut-number, cut-comment, cut-blank : bytes behind the last line feed, whatever they are
--   two-words      : a line of two words
--   third-line     : the first line that is wrong, behind a comment and an empty line
--   wrong-id, wrong-limit, wrong_word : the first word that is wrong
--   half           : a coordinate that is not whole
--   no_text        : a text without a byte has no fault
-- Assumes nothing.
use mathlib.Core.Path.{refl, sym}
use mathlib.Core.Bool.{true≢false}
use mathlib.Core.List.{[], ◌∷◌, nil≢cons}
use mathlib.Core.Logic.{inl, inr}
use native.Mathlib.Omega.{arith}
use Rattle.element.specs.Refusals.{Refused, Accepted}
use Rattle.mesh_text.specs.Rows.{lines, words, in_class}
use Rattle.mesh_text.specs.Tests.{digits_b, unsigned, tag_b, exponent_b, mantissa_b, number_b, point_b, whole_b, number_of}
use Rattle.record_text.specs.Faults.{spot, empty, comment, form_codes, whole_codes}
use Rattle.record_text.proofs.Tests.{wrong-front, wrong-later, broken-front, broken-later}
use Rattle.record_text.proofs.Readings.{silent-of}

-- ---- 13
-- "1", "#", " "
pub cut-number : Refused (form_codes (49 ∷ [])) (spot 13 1 0)
unfolding lines
cut-number = inl ((λ e. nil≢cons (sym e)), refl)

pub cut-comment : Refused (form_codes (35 ∷ [])) (spot 13 1 0)
unfolding lines
cut-comment = inl ((λ e. nil≢cons (sym e)), refl)

pub cut-blank : Refused (form_codes (32 ∷ [])) (spot 13 1 0)
unfolding lines
cut-blank = inl ((λ e. nil≢cons (sym e)), refl)

-- "1 6" and a line feed
pub two-words : Refused (form_codes (49 ∷ 32 ∷ 54 ∷ 10 ∷ [])) (spot 13 1 0)
unfolding lines words
two-words = inl (((λ s. true≢false (sym (silent-of s))), omega arith), refl)

-- "#", an empty line, "1 6"
pub third-line : Refused (form_codes (35 ∷ 10 ∷ 10 ∷ 49 ∷ 32 ∷ 54 ∷ 10 ∷ [])) (spot 13 3 0)
unfolding lines words
third-line =
    inr ((λ f. f.0 comment), inr ((λ f. f.0 comment), inr ((λ f. f.0 empty), inl (((λ s. true≢false (sym (silent-of s))), omega arith), refl))))

-- "x 6 0"
pub wrong-id : Refused (form_codes (120 ∷ 32 ∷ 54 ∷ 32 ∷ 48 ∷ 10 ∷ [])) (spot 13 1 1)
unfolding lines words in_class digits_b number_of
wrong-id =
    inr ((λ f. absurd (omega (arith, f.1))), inl (((λ s. true≢false (sym (silent-of s))), (wrong-front 1 (120 ∷ []) (omega arith)).yes refl), refl))

-- "1 6 x": the third word must be a whole number too
pub wrong-limit : Refused (form_codes (49 ∷ 32 ∷ 54 ∷ 32 ∷ 120 ∷ 10 ∷ [])) (spot 13 1 3)
unfolding lines words in_class digits_b number_of
wrong-limit =
    inr (
      (λ f. absurd (omega (arith, f.1))),
      inr (
        (λ f. (wrong-front 1 (49 ∷ []) (omega arith)).no refl f.1),
        inr
            ((λ f. (wrong-front 2 (54 ∷ []) (omega arith)).no refl f.1), inl (((λ s. true≢false (sym (silent-of s))), (wrong-front 3 (120 ∷ []) (omega arith)).yes refl), refl)),
      ),
    )

-- "1 6 0 x": the fourth need only be a number
pub wrong_word : Refused (form_codes (49 ∷ 32 ∷ 54 ∷ 32 ∷ 48 ∷ 32 ∷ 120 ∷ 10 ∷ [])) (spot 13 1 4)
unfolding lines words in_class digits_b number_of unsigned tag_b exponent_b mantissa_b number_b
wrong_word =
    inr (
      (λ f. absurd (omega (arith, f.1))),
      inr (
        (λ f. (wrong-front 1 (49 ∷ []) (omega arith)).no refl f.1),
        inr (
          (λ f. (wrong-front 2 (54 ∷ []) (omega arith)).no refl f.1),
          inr (
            (λ f. (wrong-front 3 (48 ∷ []) (omega arith)).no refl f.1),
            inl (((λ s. true≢false (sym (silent-of s))), (wrong-later 4 (120 ∷ []) (omega arith)).yes refl), refl),
          ),
        ),
      ),
    )

-- ---- 14
-- "1 6 0 .5"
pub half : Refused (whole_codes (49 ∷ 32 ∷ 54 ∷ 32 ∷ 48 ∷ 32 ∷ 46 ∷ 53 ∷ 10 ∷ [])) (spot 14 1 4)
unfolding lines words in_class digits_b number_of unsigned tag_b exponent_b mantissa_b number_b point_b whole_b
half =
    inr (
      (λ f. (broken-front 1 (49 ∷ []) (omega arith)).no refl f.1),
      inr (
        (λ f. (broken-front 2 (54 ∷ []) (omega arith)).no refl f.1),
        inr (
          (λ f. (broken-front 3 (48 ∷ []) (omega arith)).no refl f.1),
          inl (((λ s. true≢false (sym (silent-of s))), (broken-later 4 (46 ∷ 53 ∷ []) (omega arith)).yes refl), refl),
        ),
      ),
    )

-- ---- none
pub no_text : Accepted (form_codes []) × Accepted (whole_codes [])
unfolding lines
no_text = (((λ f. f refl), tt), tt)
