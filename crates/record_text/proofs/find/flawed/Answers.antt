-- `record_text::find::flawed` meets its contract.
use Rattle.record_text.proofs.find.flawed.Goals as goal

pub returns-in-Form : goal.returns-in-Form
returns-in-Form c = rw c.in-Form.is c.wrong.ensures

pub returns-in-Whole : goal.returns-in-Whole
returns-in-Whole c = rw c.in-Whole.is c.broken.ensures
