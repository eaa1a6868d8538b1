-- What was put is at the start of the array.
use Rattle.put.proofs.Fit.{at-start}
use Rattle.text.proofs.row_text.Goals as goal

pub returns-clause-text : goal.returns-clause-text
returns-clause-text c = at-start c.put_row.ensures.0
