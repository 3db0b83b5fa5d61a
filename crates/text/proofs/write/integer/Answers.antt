-- `text::write::integer` meets its contract: a minus and the size, or the size.
use mathlib.Core.Path.{sym, ◌∙◌, ap}
use mathlib.Core.List.{◌∷◌}
use mir.Facts.{to_z-of_z}
use Rattle.text.specs.Writing.{decimal}
use Rattle.text.specs.Writing.{integer as spelled}
use Rattle.text.proofs.Wrote.{wrote-more, wrote_as}
use Rattle.text.proofs.Decimals.{integer-minus, integer-plain}
use Rattle.text.proofs.write.integer.Goals as goal

pub returns-then-z-lt0 : goal.returns-then-z-lt0
returns-then-z-lt0 c =
    wrote_as (wrote-more c.put-end.ensures c.natural.ensures)
    (ap (λ n. 45 ∷ decimal n) c.unsigned_abs.ensures.value
    ∙ sym (integer-minus _ c.if-z-lt0.true)
    ∙ ap spelled (to_z-of_z c.ranges.z))

pub returns : goal.returns
returns c =
    wrote_as c.natural-2.ensures
    (ap decimal c.unsigned_abs-2.ensures.value ∙ sym (integer-plain _ c.if-z-lt0.false) ∙ ap spelled (to_z-of_z c.ranges.z))
