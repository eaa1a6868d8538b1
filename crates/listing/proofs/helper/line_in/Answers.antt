-- What the cursor wrote is in the array.
use borrow.Author.Rules.{rules}
use Rattle.listing.proofs.Steps.{same_buffer, same_name, at_first}
use Rattle.listing.proofs.helper.line_in.Goals as goal

pub shape_of-text : goal.shape_of-text
shape_of-text c =
    let n = same_name c.new-cursor.result c.put_line.new.out (same_buffer _ _ _ c.put_line.ensures.0) in
    search rules

pub returns : goal.returns
returns c =
    let s = c.new-cursor.ensures.starts in
    rw s.0 at (at_first _ _ _ c.put_line.ensures s.1)
