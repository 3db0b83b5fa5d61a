-- `verdicts::list_input` meets its contract: the list of the bytes in the buffer is that of the whole input. Assumes nothing.
use Rattle.verdicts.proofs.Input.{input-listed}
use Rattle.verdicts.proofs.list_input.Goals as goal

pub returns-clause-text : goal.returns-clause-text
returns-clause-text c =
    input-listed c.args.by c.args.bytes.now c.args.n _ _ _ c.requires.read.1 c.requires.room c.write_by-r.ensures
