-- What the rows of a text say rule by rule (Told) is what its sections say (Form; docs/GMSH.md, G4 to G9).
--   counted-no-end, format-no-end : no row of a body that is read is an end row: a count is digits, the others have more than one word
--   told_of-is, of-told : the two laws, for rows before which a format has come or has not (s)
--   form-told, told-form : the one from the other
-- Assumes nothing.
use mathlib.Core.Path.{◌≡◌, refl, sym, ap, ◌∙◌, subst}
use mathlib.Core.Bool.{Bool, true, false, true≢false}
use mathlib.Core.List.Memᴰ
use mathlib.Core.List.{List, [], ◌∷◌, ◌++◌, Memᴰ}
use mathlib.Core.Logic.{⊎_elim}
use Prim.Native.Nat.{ℕ}
use lib.ListN.{get_or}
use Rattle.mesh_text.specs.declared.Class.TheVariants.{Digit}
use Rattle.mesh_text.specs.Rows.{none, both, first, rest, is_nil, in_class, rows, Pairs, no_pairs, pair}
use Rattle.mesh_text.specs.Words.{Digits, digits}
use Rattle.mesh_text.specs.Tests.{same_b}
use Rattle.mesh_text.proofs.Rows.{by-test}
use Rattle.mesh_text.proofs.Grammar.{same_true}
use Rattle.mesh_form.specs.Mesh.{Row, mark, ended, format, nodes, elements, Node, Element, FormatRow, format_row, NodeRow, node_row, ElementRow, element_row, Counted, counted, Section, Sections, no_sections, section, Other, FormatFirst, at_once, after_other, FormatBody, format_body, Formats, Gathered, nothing, this, that, Form}
use Rattle.mesh_form.specs.Told.{Told, over, format_section, nodes_section, elements_section, other_section}
use Rattle.mesh_form.proofs.Marks.{false-other}

-- ---- no end row in a body that is read
-- a row of more than one word is no end
long-no-end : (x : List ℕ) (r : Row) → is_nil (rest r) ≡ false → ended x ≡ r → ⊥
long-no-end x r l e = true≢false (ap (λ q. is_nil (rest q)) e ∙ l)

-- 36 is no digit
dollar-first : {w : List ℕ} (x : List ℕ) → Digits w → w ≡ 36 ∷ x → ⊥
unfolding in_class
dollar-first x (digits (both {a = b} h k)) e = true≢false (sym h ∙ ap (in_class Digit) (ap (λ w. get_or w 0 0) e))

rows-no-end : {A : Type 0} {P : Row → A → Type 0} {rs : List Row} {xs : List A} (x : List ℕ)
    → ((r : Row) (a : A) → P r a → is_nil (rest r) ≡ false)
    → Pairs P rs xs
    → ¬ Memᴰ (ended x) rs
rows-no-end x long no_pairs m = Memᴰ.not-nil m
rows-no-end x long (pair {a = r} {b = a} h p) m =
    ⊎_elim (λ e. long-no-end x r (long r a h) e) (λ n. rows-no-end x long p n) (Memᴰ.cases_cons m)

counted-no-end : {A : Type 0} {P : Row → A → Type 0} {b : List Row} {xs : List A} (x : List ℕ)
    → ((r : Row) (a : A) → P r a → is_nil (rest r) ≡ false)
    → Counted P b xs
    → ¬ Memᴰ (ended x) b
counted-no-end x long (counted {c = c} n p) m =
    ⊎_elim (λ e. dollar-first (69 ∷ 110 ∷ 100 ∷ x) n.written (sym (ap first e))) (λ k. rows-no-end x long p k) (Memᴰ.cases_cons m)

node-long : (r : Row) (n : Node) → NodeRow r n → is_nil (rest r) ≡ false
node-long r n (node_row c h k l) = refl

element-long : (r : Row) (e : Element) → ElementRow r e → is_nil (rest r) ≡ false
element-long r e (element_row ca cb nc h p q) = refl

format-no-end : {r : Row} (x : List ℕ) → FormatRow r → ¬ Memᴰ (ended x) (r ∷ [])
format-no-end x (format_row {z} {a} {b} h k l) m =
    ⊎_elim (λ e. long-no-end x ((50 ∷ 46 ∷ 50 ∷ z) ∷ a ∷ b ∷ []) refl e) Memᴰ.not-nil (Memᴰ.cases_cons m)

-- ---- from sections to the rules
no-format-nodes : ¬ (format ≡ nodes)
no-format-nodes = false-other format nodes refl

no-format-elements : ¬ (format ≡ elements)
no-format-elements = false-other format elements refl

no-nodes-elements : ¬ (nodes ≡ elements)
no-nodes-elements = false-other nodes elements refl

-- a section of another name than the format's is passed over where no format has come before
later : {x : List ℕ} {b : List Row} {ss : List Section}
    → FormatFirst (record { name = x; body = b } ∷ ss)
    → ¬ (x ≡ format)
    → Other x × FormatFirst ss
later (at_once e) n = absurd (n e)
later (after_other o f) n = (o, f)

format-told : {s : Bool} {b q : List Row} {ns : List Node} {es : List Element}
    → FormatBody b
    → Told true q ns es
    → Told s (mark format ∷ (b ++ (ended format ∷ q))) ns es
format-told (format_body h) w = format_section h w

told_of-is : {q : List Row} {ss : List Section} {ns : List Node} {es : List Element} (s : Bool)
    → Sections q ss
    → (s ≡ false → FormatFirst ss)
    → Formats ss
    → Gathered NodeRow nodes ss ns
    → Gathered ElementRow elements ss es
    → Told s q ns es
told_of-is true no_sections f g nothing nothing = over
told_of-is false no_sections f g nothing nothing = elim (f refl) [ ]
told_of-is s (section n w) f (both g gs) (this e c h) (this i d k) = absurd (no-nodes-elements (sym e ∙ i))
told_of-is true (section {b = b} {q = q} n w) f (both g gs) (this {xs = xs} {ys = ns} e c h) (that {ys = es} i k) =
    subst (λ x. Told true (mark x ∷ (b ++ (ended x ∷ q))) (xs ++ ns) es) (sym e)
    (nodes_section c (told_of-is true w (λ z. absurd (true≢false z)) gs h k))
told_of-is false (section n w) f (both g gs) (this e c h) (that i k) =
    absurd ((later (f refl) (λ z. no-format-nodes (sym z ∙ e))).0.not_nodes e)
told_of-is true (section {b = b} {q = q} n w) f (both g gs) (that {ys = ns} e h) (this {xs = xs} {ys = es} i d k) =
    subst (λ x. Told true (mark x ∷ (b ++ (ended x ∷ q))) ns (xs ++ es)) (sym i)
    (elements_section d (told_of-is true w (λ z. absurd (true≢false z)) gs h k))
told_of-is false (section n w) f (both g gs) (that e h) (this i d k) =
    absurd ((later (f refl) (λ z. no-format-elements (sym z ∙ i))).0.not_elements i)
told_of-is s (section {x} {b} {q} n w) f (both g gs) (that {ys = ns} e h) (that {ys = es} i k) =
    by-test (same_b x format) (Told s (mark x ∷ (b ++ (ended x ∷ q))) ns es)
    (λ a. let j = same_true x format a in
    subst (λ y. Told s (mark y ∷ (b ++ (ended y ∷ q))) ns es) (sym j)
    (format-told (g j) (told_of-is true w (λ z. absurd (true≢false z)) gs h k)))
    (λ a. let j = false-other x format a in
    other_section (record { not_format = j; not_nodes = e; not_elements = i }) n (told_of-is s w (λ z. (later (f z) j).1) gs h k))

pub form-told : {t : List ℕ} {ns : List Node} {es : List Element} → Form t ns es → Told false (rows t) ns es
form-told h = told_of-is false h.parted (λ e. h.first) h.formats h.nodes h.elements

-- ---- from the rules to sections
-- Form, but that a format may have come before
record Parted (s : Bool) (q : List Row) (ns : List Node) (es : List Element) : Type 0 where
  pub sections : List Section
  pub parted : Sections q sections
  pub first : s ≡ false → FormatFirst sections
  pub formats : Formats sections
  pub nodes : Gathered NodeRow nodes sections ns
  pub elements : Gathered ElementRow elements sections es

of-told : {s : Bool} {q : List Row} {ns : List Node} {es : List Element} → Told s q ns es → Parted s q ns es
of-told over =
    record {
      sections = [];
      parted = no_sections;
      first = λ z. absurd (true≢false z);
      formats = none;
      nodes = nothing;
      elements = nothing;
    }
of-told (format_section {r = r} h w) =
    let p = of-told w in
    record {
      sections = record { name = format; body = r ∷ [] } ∷ p.sections;
      parted = section (format-no-end format h) p.parted;
      first = λ z. at_once refl;
      formats = both (λ z. format_body h) p.formats;
      nodes = that no-format-nodes p.nodes;
      elements = that no-format-elements p.elements;
    }
of-told (nodes_section {b = b} c w) =
    let p = of-told w in
    record {
      sections = record { name = nodes; body = b } ∷ p.sections;
      parted = section (counted-no-end nodes node-long c) p.parted;
      first = λ z. absurd (true≢false z);
      formats = both (λ z. absurd (no-format-nodes (sym z))) p.formats;
      nodes = this refl c p.nodes;
      elements = that no-nodes-elements p.elements;
    }
of-told (elements_section {b = b} c w) =
    let p = of-told w in
    record {
      sections = record { name = elements; body = b } ∷ p.sections;
      parted = section (counted-no-end elements element-long c) p.parted;
      first = λ z. absurd (true≢false z);
      formats = both (λ z. absurd (no-format-elements (sym z))) p.formats;
      nodes = that (λ z. no-nodes-elements (sym z)) p.nodes;
      elements = this refl c p.elements;
    }
of-told (other_section {x = x} {b = b} o n w) =
    let p = of-told w in
    record {
      sections = record { name = x; body = b } ∷ p.sections;
      parted = section n p.parted;
      first = λ z. after_other o (p.first z);
      formats = both (λ z. absurd (o.not_format z)) p.formats;
      nodes = that o.not_nodes p.nodes;
      elements = that o.not_elements p.elements;
    }

pub told-form : {t : List ℕ} {ns : List Node} {es : List Element} → Told false (rows t) ns es → Form t ns es
told-form h =
    let p = of-told h in
    record {
      sections = p.sections;
      parted = p.parted;
      first = p.first refl;
      formats = p.formats;
      nodes = p.nodes;
      elements = p.elements;
    }
