-- The contract of `append_mesh` allows one outcome, and what it says of the block.
--   said-unique    : what is taken of a text is one list
--   append-mesh-unique : one answer and one content of the buffer
--   mesh-counts    : what is appended and what is passed over are all elements of the text
--   mesh-keeps     : a refusal changes no byte
--   mesh-behind    : and all bytes behind it stay
--   mesh-none      : where nothing is taken nothing changes
--   mesh-reads     : after a success the first `used` bytes are the block of the old records and of those taken
-- Assumes nothing.
use mathlib.Core.Path.{◌≡◌, refl, sym, ap, ap₂, ◌∙◌, subst}
use mathlib.Core.List.{List, [], ◌++◌}
use mathlib.Core.Logic.{inl, inr}
use Prim.Native.Nat.{ℕ, ◌+◌, ◌*◌}
use lib.ListN.{length, take, drop}
use Rattle.element.specs.Refusals.{Accepted}
use Rattle.element.proofs.Refusals.{refused-unique, refused-accepted}
use Rattle.record.specs.declared.Record.{Record}
use Rattle.block.specs.Block.{Holds}
use Rattle.append.specs.declared.Appended.{Appended}
use Rattle.append.specs.Series.{Given, Series, ended, records}
use Rattle.append.proofs.Series.{series-unique, series-reads, series-behind}
use Rattle.mesh_form.proofs.Unique.{mesh-unique}
use Rattle.mesh_elements.specs.Takings.{Takings}
use Rattle.mesh_elements.proofs.Rows.{numbers-small}
use Rattle.mesh_elements.proofs.Takings.{takings-unique, takings-fit, takings-count}
use Rattle.mesh.specs.declared.Meshed.{Meshed}
use Rattle.mesh.specs.Calls.{mesh_codes, Said, refusal, NotOpened, NotTaken, IsTaken, AppendsMesh}

pub said-unique : {t : List ℕ} {level : ℕ} {gs hs : List Given} {p q : ℕ} → Said t level gs p → Said t level hs q → (gs ≡ hs) × (p ≡ q)
said-unique {level = level} {gs = gs} {p = p} a b =
    let m = mesh-unique a.mesh b.mesh in
    let w = subst (λ ns. Takings level ns b.elements gs p) m.0 (subst (λ es. Takings level a.nodes es gs p) m.1 a.takings) in
    takings-unique b.mesh.once w b.takings

-- ---- one outcome
module _ (t : List ℕ) (level : ℕ) (b : List ℕ) (used : ℕ) where
  opened-tried : {r : Meshed} {a : List ℕ} → NotOpened t b used r a → Accepted (mesh_codes t b used) → ⊥
  opened-tried {r} n a = refused-accepted (mesh_codes t b used) (record { code = r.code; number = r.number }) n.refused a

  opened-unique : (r s : Meshed) (a c : List ℕ) → NotOpened t b used r a → NotOpened t b used s c → (r ≡ s) × (a ≡ c)
  opened-unique r s a c n m =
      let e = refused-unique (mesh_codes t b used) (record { code = r.code; number = r.number }) (record { code = s.code; number = s.number }) n.refused m.refused in
      (n.zeros ∙ ap₂ refusal (ap (λ f. f.code) e) (ap (λ f. f.number) e) ∙ sym m.zeros, n.untouched ∙ sym m.untouched)

  -- two runs over what is taken
  runs-unique : {gs hs : List Given} {x y : Appended} {u v : List ℕ} → gs ≡ hs → Series b used gs x u → Series b used hs y v → (x ≡ y) × (u ≡ v)
  runs-unique {x = x} {u = u} e m n = series-unique (subst (λ l. Series b used l x u) e m) n

  stopped-unique : (r s : Meshed) (a c : List ℕ) → NotTaken t level b used r a → NotTaken t level b used s c → (r ≡ s) × (a ≡ c)
  stopped-unique r s a c n m =
      let e = runs-unique (said-unique n.said m.said).0 n.stopped m.stopped in
      (n.zeros ∙ ap (λ k. refusal k 0) (ap (λ x. x.code) e.0) ∙ sym m.zeros, n.untouched ∙ sym m.untouched)

  stopped-taken : {r s : Meshed} {a c : List ℕ} → NotTaken t level b used r a → IsTaken t level b used s c → ⊥
  stopped-taken n m = n.some (ap (λ x. x.code) (runs-unique (said-unique n.said m.said).0 n.stopped m.done).0)

  taken-unique : (r s : Meshed) (a c : List ℕ) → IsTaken t level b used r a → IsTaken t level b used s c → (r ≡ s) × (a ≡ c)
  taken-unique r s a c n m =
      let e = said-unique n.said m.said in (
        n.answer ∙ ap₂ (λ (l : List Given) (p : ℕ). record { code = 0; number = 0; used = used + 80 * length l; appended = length l; passed = p }) e.0 e.1
            ∙ sym m.answer,
        (runs-unique e.0 n.done m.done).1,
      )

  pub append-mesh-unique : (r s : Meshed) (a c : List ℕ) → AppendsMesh t level b used r a → AppendsMesh t level b used s c → (r ≡ s) × (a ≡ c)
  append-mesh-unique r s a c (inl n) (inl m) = opened-unique r s a c n m
  append-mesh-unique r s a c (inl n) (inr (inl m)) = absurd (opened-tried n m.accepted)
  append-mesh-unique r s a c (inl n) (inr (inr m)) = absurd (opened-tried n m.accepted)
  append-mesh-unique r s a c (inr (inl n)) (inl m) = absurd (opened-tried m n.accepted)
  append-mesh-unique r s a c (inr (inr n)) (inl m) = absurd (opened-tried m n.accepted)
  append-mesh-unique r s a c (inr (inl n)) (inr (inl m)) = stopped-unique r s a c n m
  append-mesh-unique r s a c (inr (inl n)) (inr (inr m)) = absurd (stopped-taken n m)
  append-mesh-unique r s a c (inr (inr n)) (inr (inl m)) = absurd (stopped-taken m n)
  append-mesh-unique r s a c (inr (inr n)) (inr (inr m)) = taken-unique r s a c n m

  -- ---- what it says
  pub mesh-keeps : (r : Meshed) (a : List ℕ) → AppendsMesh t level b used r a → ¬ (r.code ≡ 0) → a ≡ b
  mesh-keeps r a (inl n) z = n.untouched
  mesh-keeps r a (inr (inl n)) z = n.untouched
  mesh-keeps r a (inr (inr n)) z = absurd (z (ap (λ x. x.code) n.answer))

  module _ {r : Meshed} {a : List ℕ} (n : IsTaken t level b used r a) where
    pub mesh-counts : r.appended + r.passed ≡ length n.said.elements
    mesh-counts = ap₂ (λ (i j : ℕ). i + j) (ap (λ x. x.appended) n.answer) (ap (λ x. x.passed) n.answer) ∙ takings-count n.said.takings

    pub mesh-reads : {v : ℕ} {rs : List Record} → Holds v (take used b) rs → Holds v (take r.used a) (rs ++ records n.given)
    mesh-reads h = series-reads n.done refl (takings-fit n.said.takings (numbers-small n.said.mesh.form)) h

    pub mesh-behind : {v : ℕ} {rs : List Record} → Holds v (take used b) rs → drop r.used a ≡ drop r.used b
    mesh-behind h = (series-behind n.done refl (takings-fit n.said.takings (numbers-small n.said.mesh.form)) h).1

    pub mesh-none : n.given ≡ [] → a ≡ b
    mesh-none e = (runs-unique e n.done ended).1
