-- What the cursor wrote fills the array.
use borrow.Author.Rules.{rules}
use Rattle.listing.proofs.Steps.{same_buffer, same_name, at_first, byte-line}
use Rattle.listing.proofs.helper.byte_line.Goals as goal

pub shape_of-text : goal.shape_of-text
shape_of-text c =
    let n = same_name c.new-cursor.result c.put_one.new.out (same_buffer _ _ _ c.put_one.ensures.0.0) in
    search rules

pub returns : goal.returns
returns c =
    let s = c.new-cursor.ensures.starts in
    byte-line c.args.at c.args.b (rw s.0 at (at_first _ _ _ c.put_one.ensures.0 s.1)) c.told-text
