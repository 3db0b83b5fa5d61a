-- `text::write::digits` ends: the number falls.
use Rattle.text.proofs.write.+digits.Given as goal

abbrev pub decreases-digits : goal.decreases-digits
decreases-digits l = l.n
