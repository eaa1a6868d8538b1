-- The rows before i do not accept the word, nor do those from the end of the span on.
use Rattle.std.proofs.Common.{arith}
use Rattle.rows.proofs.find_row.Goals as goal

pub loop-i-init : goal.loop-i-init
loop-i-init c =
    let n = c.span_for-span.ensures in
    (omega (arith, n.first), omega (arith, n.stop), rw c.first_of-i.ensures n.begins)

pub returns : goal.returns
returns c =
    let n = c.span_for-span.ensures in
    let e = n.ends c.loop-i.i (omega (arith, c.stop_of-stop.ensures)) (omega arith) in
    omega (arith, c.loop-i.invariant.2)
