-- Forms: their values on cells, their signs, and what determines them.
--   value-mix        : the value of a mixture of forms is the mixture of their values
--   value-restrict   : the value of a form on a cell is its value at the cell's point
--   restrict-entry   : the entries of a form on a cell are its values at the cell's corners
--   value-nonneg, value-positive : a form with no negative entry, and a positive one that the weights touch
--   value-ext        : only the entries inside the sizes count
--   value-times      : weights times x
--   value-picks      : weights that pick one entry
--   spread-..        : the same for one thing a direction, spread over the slots
-- Each once, for every number and size of slots. Assumes nothing.
use mathlib.Core.Path.{◌≡◌, refl, sym, ◌∙◌, ap, fun_ext}
use mathlib.Core.List.{List, [], ◌∷◌, map}
use Prim.Native.Nat.{ℕ, zero, suc, ◌*◌, ◌<◌}
use native.Mathlib.Nat as N
use lib.IntN.{ℤ, pos, ◌*ℤ◌}
use lib.ListN.{get_or, length}
use lib.Signed.{◌≤ℤ◌, ◌<ℤ◌}
use Rattle.algebra.proofs.Ring.{*ℤ-assoc, 1-*ℤ}
use Rattle.forms.specs.Rows.{Row, ◌⊙◌, mix, weigh}
use Rattle.forms.specs.Forms.{Form, slot, value, through, restrict, pick, times, power, NonNeg, Along, Touch, Picks}
use Rattle.forms.specs.Cells.{Inside}
use Rattle.forms.specs.Shapes.{onto, spread}
use Rattle.forms.proofs.Rows.{weigh-⊙, weigh-mix, weigh-ext, weigh-*, weigh-swap, weigh-nonneg, weigh-positive}

-- ---- values on cells
pub value-mix : (ws : List Row) (a : Row) (F : ℕ → Form) → value ws (λ ks. weigh a (λ i. F i ks)) ≡ weigh a (λ i. value ws (F i))
unfolding value
value-mix [] a F = refl
value-mix (w ∷ ws) a F =
    ap (weigh w) (fun_ext (λ j. value-mix ws a (λ i. slot (F i) j))) ∙ weigh-swap w a (λ j i. value ws (slot (F i) j))

pub value-restrict : (ys : List Row) (Ms : List (ℕ → Row)) (T : Form) → value ys (restrict Ms T) ≡ value (through ys Ms) T
unfolding value restrict
value-restrict [] [] T = refl
value-restrict [] (M ∷ Ms) T = refl
value-restrict (y ∷ ys) [] T = refl
value-restrict (y ∷ ys) (M ∷ Ms) T =
    ap (weigh y) (fun_ext (λ k.
    value-mix ys (M k) (λ i. restrict Ms (slot T i)) ∙ ap (weigh (M k)) (fun_ext (λ i. value-restrict ys Ms (slot T i)))))
    ∙ sym (weigh-mix y M (λ i. value (through ys Ms) (slot T i)))

pub restrict-entry : (Ms : List (ℕ → Row)) (T : Form) (ks : List ℕ) → length Ms ≡ length ks
    → restrict Ms T ks ≡ value (pick Ms ks) T
unfolding restrict value
restrict-entry [] T [] e = refl
restrict-entry [] T (k ∷ ks) e = absurd (N.suc-ne-zero (length ks) (sym e))
restrict-entry (M ∷ Ms) T [] e = absurd (N.suc-ne-zero (length Ms) e)
restrict-entry (M ∷ Ms) T (k ∷ ks) e = ap (weigh (M k)) (fun_ext (λ i. restrict-entry Ms (slot T i) ks (N.suc_inj e)))

-- ---- signs
pub value-nonneg : (ws : List Row) (T : Form) → NonNeg T → pos 0 ≤ℤ value ws T
unfolding value
value-nonneg [] T h = h []
value-nonneg (w ∷ ws) T h = weigh-nonneg w (λ i. value ws (slot T i)) (λ i. value-nonneg ws (slot T i) (λ ks. h (i ∷ ks)))

pub value-positive : (ws : List Row) (T : Form) → NonNeg T → (ks : List ℕ) → Touch ws ks → pos 0 <ℤ T ks → pos 0 <ℤ value ws T
unfolding value
value-positive [] T h [] t q = q
value-positive [] T h (k ∷ ks) t q = absurd t
value-positive (w ∷ ws) T h [] t q = absurd t
value-positive (w ∷ ws) T h (k ∷ ks) t q =
    weigh-positive w (λ i. value ws (slot T i)) (λ i. value-nonneg ws (slot T i) (λ js. h (i ∷ js)))
    k t.0 (value-positive ws (slot T k) (λ js. h (k ∷ js)) ks t.1 q)

-- ---- what counts
pub value-ext : (ws : List Row) (T U : Form) → ((ks : List ℕ) → Inside (map length ws) ks → T ks ≡ U ks) → value ws T ≡ value ws U
unfolding value
value-ext [] T U e = e [] tt
value-ext (w ∷ ws) T U e =
    weigh-ext w (λ i. value ws (slot T i)) (λ i. value ws (slot U i))
    (λ i h. value-ext ws (slot T i) (slot U i) (λ ks r. e (i ∷ ks) (h, r)))

pub value-times : (x : ℕ) (ws : List Row) (T : Form) → value (times x ws) T ≡ pos (power x ws) *ℤ value ws T
unfolding value
value-times x [] T = sym (1-*ℤ (T []))
value-times x (w ∷ ws) T =
    weigh-⊙ x w (λ i. value (times x ws) (slot T i))
    ∙ ap (λ z. pos x *ℤ z)
    (ap (weigh w) (fun_ext (λ i. value-times x ws (slot T i))) ∙ weigh-* w (pos (power x ws)) (λ i. value ws (slot T i)))
    ∙ sym (*ℤ-assoc (pos x) (pos (power x ws)) (weigh w (λ i. value ws (slot T i))))

pub value-picks : (ws : List Row) (ks : List ℕ) (T : Form) → Picks ws ks → value ws T ≡ T ks
unfolding value
value-picks [] [] T t = refl
value-picks [] (k ∷ ks) T t = absurd t
value-picks (w ∷ ws) [] T t = absurd t
value-picks (w ∷ ws) (k ∷ ks) T t = t.0 (λ i. value ws (slot T i)) ∙ value-picks ws ks (slot T k) t.1

-- ---- one thing a direction, spread over its slots
through-nil : (l : List Row) → through l [] ≡ l
through-nil [] = refl
through-nil (y ∷ l) = refl

through-onto : (n : ℕ) (y : Row) (M : ℕ → Row) (l : List Row) (k : List (ℕ → Row))
    → through (onto n y l) (onto n M k) ≡ onto n (mix y M) (through l k)
through-onto zero y M l k = refl
through-onto (suc n) y M l k = ap (λ (r : List Row). mix y M ∷ r) (through-onto n y M l k)

pub spread-through : (ns : List ℕ) (ys : List Row) (Ms : List (ℕ → Row))
    → through (spread ns ys) (spread ns Ms) ≡ spread ns (through ys Ms)
spread-through [] ys Ms = refl
spread-through (n ∷ ns) [] Ms = refl
spread-through (n ∷ ns) (y ∷ ys) [] = through-nil (onto n y (spread ns ys))
spread-through (n ∷ ns) (y ∷ ys) (M ∷ Ms) =
    through-onto n y M (spread ns ys) (spread ns Ms) ∙ ap (onto n (mix y M)) (spread-through ns ys Ms)

times-onto : (n x : ℕ) (y : Row) (l : List Row) → times x (onto n y l) ≡ onto n (x ⊙ y) (times x l)
times-onto zero x y l = refl
times-onto (suc n) x y l = ap (λ (r : List Row). (x ⊙ y) ∷ r) (times-onto n x y l)

pub spread-times : (ns : List ℕ) (x : ℕ) (ys : List Row) → times x (spread ns ys) ≡ spread ns (times x ys)
spread-times [] x ys = refl
spread-times (n ∷ ns) x [] = refl
spread-times (n ∷ ns) x (y ∷ ys) = times-onto n x y (spread ns ys) ∙ ap (onto n (x ⊙ y)) (spread-times ns x ys)

module _ {A B : Type 0} (R : A → B → Type 0) where
  along-onto : (n : ℕ) (a : A) (b : B) (l : List A) (m : List B) → R a b → Along R l m → Along R (onto n a l) (onto n b m)
  along-onto zero a b l m h t = t
  along-onto (suc n) a b l m h t = (h, along-onto n a b l m h t)

  pub spread-along : (ns : List ℕ) (l : List A) (m : List B) → Along R l m → Along R (spread ns l) (spread ns m)
  spread-along [] l m t = tt
  spread-along (n ∷ ns) [] [] t = tt
  spread-along (n ∷ ns) [] (b ∷ m) t = absurd t
  spread-along (n ∷ ns) (a ∷ l) [] t = absurd t
  spread-along (n ∷ ns) (a ∷ l) (b ∷ m) t = along-onto n a b (spread ns l) (spread ns m) t.0 (spread-along ns l m t.1)

pub spread-touch : (ns : List ℕ) (ws : List Row) (ks : List ℕ) → Touch ws ks → Touch (spread ns ws) (spread ns ks)
spread-touch = spread-along (λ w k. 0 < get_or w k 0)

pub spread-picks : (ns : List ℕ) (ws : List Row) (ks : List ℕ) → Picks ws ks → Picks (spread ns ws) (spread ns ks)
spread-picks = spread-along (λ w k. (f : ℕ → ℤ) → weigh w f ≡ f k)

module _ {ℓ κ} {A : Type ℓ} {B : Type κ} (f : A → B) where
  map-onto : (n : ℕ) (a : A) (l : List A) → map f (onto n a l) ≡ onto n (f a) (map f l)
  map-onto zero a l = refl
  map-onto (suc n) a l = ap {B = List B} (λ r. f a ∷ r) (map-onto n a l)

  pub spread-map : (ns : List ℕ) (l : List A) → map f (spread ns l) ≡ spread ns (map f l)
  spread-map [] l = refl
  spread-map (n ∷ ns) [] = refl
  spread-map (n ∷ ns) (a ∷ l) = map-onto n a (spread ns l) ∙ ap {B = List B} (onto n (f a)) (spread-map ns l)

module _ {ℓ κ} {A : Type ℓ} {B : Type κ} where
  length-onto : (n : ℕ) (a : A) (b : B) (l : List A) (k : List B) → length l ≡ length k
      → length (onto n a l) ≡ length (onto n b k)
  length-onto zero a b l k e = e
  length-onto (suc n) a b l k e = ap suc (length-onto n a b l k e)

  pub spread-length : (ns : List ℕ) (l : List A) (k : List B) → length l ≡ length k → length (spread ns l) ≡ length (spread ns k)
  spread-length [] l k e = refl
  spread-length (n ∷ ns) [] [] e = refl
  spread-length (n ∷ ns) [] (b ∷ k) e = absurd (N.suc-ne-zero (length k) (sym e))
  spread-length (n ∷ ns) (a ∷ l) [] e = absurd (N.suc-ne-zero (length l) e)
  spread-length (n ∷ ns) (a ∷ l) (b ∷ k) e = length-onto n a b (spread ns l) (spread ns k) (spread-length ns l k (N.suc_inj e))
