-- Windows of numbers, with a flag each: what a pass over numbers does and finds.
--   win_b base w n  == n is one of the w numbers from `base` on
--   marked_b base fs n, marks base fs n == the flag of n is set; the flags with that of n set
--   marks_all base fs l, dup_b base fs l == the flags behind all of l; some number of l was marked when it came
--   lack_b base fs n, lacks_b base fs l == n is in the window and not marked; some number of l is
--   above_b lim a l == the least of a and the numbers of l from lim on
--   start          == a pass that has found nothing yet
--   Marks base lim fs p l r hs == marking the numbers l takes the pass p to r, and the flags fs to hs
--   Looks base lim fs p l r    == looking the numbers l up takes the pass p to r
--   Doubles base fs l r        == what a pass over the numbers l with the flags fs finds
--   Lacks base fs l w r        == what a pass over the numbers w finds, with the flags behind a pass over the numbers l
--   Swept Post b              == passes find nothing in windows from 0 on, the last of which ends below b
-- Definitions only.
use Rattle.std.specs.Prelude.{◌≡◌, Bool, false, not, ◌&&◌, ◌||◌, cond, List, [], ◌∷◌, ℕ, ◌+◌, ◌-◌, min, ltb}
use Rattle.mesh_numbers.specs.declared.Pass.{Pass}
use Rattle.mesh_numbers.specs.Bits.{bit_b, set_bit, width}

abbrev pub win_b : ℕ → ℕ → ℕ → Bool
win_b base w n = not (ltb n base) && ltb (n - base) w

unfoldable pub marked_b : ℕ → List ℕ → ℕ → Bool
marked_b base fs n = win_b base (width fs) n && bit_b fs (n - base)

unfoldable pub marks : ℕ → List ℕ → ℕ → List ℕ
marks base fs n = cond (win_b base (width fs) n) (set_bit fs (n - base)) fs

unfoldable pub marks_all : ℕ → List ℕ → List ℕ → List ℕ
marks_all base fs [] = fs
marks_all base fs (n ∷ l) = marks_all base (marks base fs n) l

unfoldable pub dup_b : ℕ → List ℕ → List ℕ → Bool
dup_b base fs [] = false
dup_b base fs (n ∷ l) = marked_b base fs n || dup_b base (marks base fs n) l

unfoldable pub lack_b : ℕ → List ℕ → ℕ → Bool
lack_b base fs n = win_b base (width fs) n && not (bit_b fs (n - base))

unfoldable pub lacks_b : ℕ → List ℕ → List ℕ → Bool
lacks_b base fs [] = false
lacks_b base fs (n ∷ l) = lack_b base fs n || lacks_b base fs l

unfoldable pub above_b : ℕ → ℕ → List ℕ → ℕ
above_b lim a [] = a
above_b lim a (n ∷ l) = above_b lim (cond (ltb n lim) a (min a n)) l

pub record Marks (base lim : ℕ) (fs : List ℕ) (p : Pass) (l : List ℕ) (r : Pass) (hs : List ℕ) : Type 0 where
  pub found : r.found ≡ (p.found || dup_b base fs l)
  pub above : r.above ≡ above_b lim p.above l
  pub flags : hs ≡ marks_all base fs l

pub record Looks (base lim : ℕ) (fs : List ℕ) (p : Pass) (l : List ℕ) (r : Pass) : Type 0 where
  pub found : r.found ≡ (p.found || lacks_b base fs l)
  pub above : r.above ≡ above_b lim p.above l

pub record Doubles (base : ℕ) (fs l : List ℕ) (r : Pass) : Type 0 where
  pub found : r.found ≡ dup_b base fs l
  pub above : r.above ≡ above_b (base + width fs) 4294967296 l

pub record Lacks (base : ℕ) (fs l w : List ℕ) (r : Pass) : Type 0 where
  pub found : r.found ≡ lacks_b base (marks_all base fs l) w
  pub above : r.above ≡ above_b (base + width fs) 4294967296 w

-- nothing found yet, and no number above
abbrev pub start : Pass
start = record { found = false; above = 4294967296 }

-- windows from 0 on in which passes that answer as Post says find nothing, each from the least number above the one before
pub data Swept (Post : ℕ → Pass → Type 0) : ℕ → Type 0 where
  at_start : Swept Post 0
  window : {base : ℕ} {p : Pass} → Swept Post base → Post base p → p.found ≡ false → Swept Post p.above
