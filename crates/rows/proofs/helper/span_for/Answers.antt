-- The span of the word's high byte.
use Rattle.std.proofs.Common.{rules}
use Rattle.rows.proofs.Search.{serves}
use Rattle.rows.proofs.helper.span_for.Goals as goal

pub returns : goal.returns
returns c = rw c.span_at.ensures.0 (serves c.args.flag c.args.word (search rules))
