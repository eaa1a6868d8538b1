-- What the cursor wrote is in the buffer.
use Rattle.std.proofs.Common.{◌≡◌}
use borrow.Author.Rules.{rules}
use Rattle.put.proofs.Cursors.{written}
use Rattle.ihex.proofs.Cursors.{writes_name}
use Rattle.ihex.proofs.text.put_text.Goals as goal

pub returns : goal.returns
returns c =
    let s = c.new-cursor.ensures.starts in
    let p = c.put_all.ensures in
    let w = rw (s.0, s.1) at (written c.new-cursor.result c.put_all.new.out _ p.0 p.1) in
    let n : c.put_all.new.out.out.ghost_name ≡ c.new-cursor.result.out.ghost_name = writes_name _ _ _ p in
    search rules
