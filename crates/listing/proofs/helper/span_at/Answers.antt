-- What the cursor wrote is in the buffer.
use borrow.Author.Rules.{rules}
use Rattle.listing.proofs.Steps.{same_name}
use Rattle.listing.proofs.helper.span_at.Goals as goal

pub returns : goal.returns
returns c =
    let s = c.new-cursor.ensures.starts in
    let w = rw (s.0, s.1) at c.put_span-length.ensures.0 in
    let n = same_name c.new-cursor.result c.put_span-length.new.out c.put_span-length.ensures.1 in
    search rules
