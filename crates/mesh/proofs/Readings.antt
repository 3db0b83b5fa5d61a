-- The codes of a text, by what its passes answer.
--   number-twice, no-form, has-mesh : code 13, and a text that says a mesh
--   text-unfit, text-lacking, text-good : code 14, code 15, and none
--   mesh-stable    : a text that cannot but say a mesh says one
--   mesh-of        : that of a text without a fault
--   said_of        : what is taken of it
--   once-of, fits-of : its node numbers stand once, and the numbers of its elements fit u32
-- Assumes nothing.
use mathlib.Core.Path.{◌≡◌, refl, sym, ◌∙◌, subst}
use mathlib.Core.Bool.{true, false, false≢true}
use mathlib.Core.List.{List, map}
use Prim.Native.Nat.{ℕ, ◌<◌}
use Rattle.element.specs.Refusals.{Accepted, Coded}
use Rattle.element.proofs.Refusals.{coded-here, coded-past, coded-end}
use Rattle.mesh_text.specs.Rows.{All, rows}
use Rattle.mesh_text.proofs.Rows.{by-test}
use Rattle.mesh_form.specs.Mesh.{HasForm, Repeats, numbers_of}
use Rattle.mesh_form.specs.Walk.{form_b}
use Rattle.mesh_form.specs.Values.{id_of}
use Rattle.mesh_form.proofs.Formed.{form-true, form_of}
use Rattle.mesh_form.proofs.Unique.{form-unique}
use Rattle.mesh_numbers.specs.Numbers.{numbers, wanted, Repeated, Missing}
use Rattle.mesh_numbers.proofs.Ties.{twice-is, unlisted-is, unlisted-iff}
use Rattle.mesh_nodes.specs.Nodes.{nodes_in, flats_b}
use Rattle.mesh_elements.specs.Rows.{elements_in}
use Rattle.mesh_elements.proofs.Rows.{numbers-are, ids-small}
use Rattle.mesh_elements.proofs.Flats.{flats-false, flats-all}
use Rattle.mesh_elements.proofs.Takings.{takings}
use Rattle.mesh.specs.Taken.{taken_in, passed_in}
use Rattle.mesh.specs.Calls.{HasMesh, Unfit, text_codes, Said}

module _ (t : List ℕ) where
  -- ---- 13
  pub number-twice : HasForm t → Repeated (numbers t) true → Coded (text_codes t) 13
  number-twice h a =
      coded-here (λ m. m.1.1.once
      (subst (λ l. Repeats (numbers_of l)) (form-unique h.1.1 m.1.1.form).0 ((twice-is t true h.1.1 a).0 refl)))

  pub no-form : ¬ HasForm t → Coded (text_codes t) 13
  no-form n = coded-here (λ m. n (m.0, (m.1.0, m.1.1.form)))

  pub has-mesh : HasForm t → Repeated (numbers t) false → HasMesh t
  has-mesh h a = (h.0, (h.1.0, record { form = h.1.1; once = (twice-is t false h.1.1 a).1 refl }))

  -- ---- 14, 15
  pub text-unfit : HasMesh t → flats_b (nodes_in t) ≡ false → Coded (text_codes t) 14
  text-unfit m e =
      coded-past (λ n. n m)
      (coded-here (record { nodes = m.0; elements = m.1.0; form = m.1.1.form; not_flat = flats-false m.1.1.form e }))

  fit : HasMesh t → flats_b (nodes_in t) ≡ true → ¬ Unfit t
  fit m e u = flats-all u.form e u.not_flat

  pub text-lacking : HasMesh t → flats_b (nodes_in t) ≡ true → Missing (numbers t) (wanted t) true → Coded (text_codes t) 15
  text-lacking m e a =
      coded-past (λ n. n m)
      (coded-past (fit m e)
      (coded-here (record { nodes = m.0; elements = m.1.0; form = m.1.1.form; unlisted = (unlisted-is t true m.1.1.form a).0 refl })))

  pub text-good : HasMesh t → flats_b (nodes_in t) ≡ true → Missing (numbers t) (wanted t) false → Coded (text_codes t) 0
  text-good m e a =
      coded-past (λ n. n m) (coded-past (fit m e) (coded-past (λ l. false≢true ((unlisted-iff t false l.form a).1 l.unlisted)) coded-end))

  -- ---- a text without a fault
  pub mesh-stable : ¬ ¬ HasMesh t → HasMesh t
  mesh-stable n =
      by-test (form_b (rows t)) (HasMesh t)
      (λ e. let h = form-true t e in (h.0, (h.1.0, record { form = h.1.1; once = once h })))
      (λ e. absurd (n (λ m. absurd (false≢true (sym e ∙ form_of t m.1.1.form)))))
    where
      once : (h : HasForm t) → ¬ Repeats (numbers_of h.0)
      once h r = n (λ m. m.1.1.once (subst (λ l. Repeats (numbers_of l)) (form-unique h.1.1 m.1.1.form).0 r))

  module _ (a : Accepted (text_codes t)) where
    pub mesh-of : HasMesh t
    mesh-of = mesh-stable a.0

    pub said_of : (level : ℕ) → Said t level (taken_in level t) (passed_in t)
    said_of level =
        let m = mesh-of in
        record {
          nodes = m.0;
          elements = m.1.0;
          mesh = m.1.1;
          takings =
              takings level m.1.1.form
              (λ n. a.1.0 (record { nodes = m.0; elements = m.1.0; form = m.1.1.form; not_flat = n }))
              (λ u. a.1.1.0 (record { nodes = m.0; elements = m.1.0; form = m.1.1.form; unlisted = u }));
        }

    pub once-of : ¬ Repeats (map id_of (nodes_in t))
    once-of r = mesh-of.1.1.once (subst Repeats (numbers-are mesh-of.1.1.form) r)

    pub fits-of : All (λ r. id_of r < 4294967296) (elements_in t)
    fits-of = ids-small mesh-of.1.1.form
