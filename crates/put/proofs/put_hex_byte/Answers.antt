-- One digit, or two.
use lib.Dec.{lit<}
use native.Mathlib.Omega.{arith}
use Rattle.put.proofs.Lead.{one-or-two}
use Rattle.put.proofs.put_hex_byte.Goals as goal

pub returns : goal.returns
returns c =
    one-or-two 16 (lit< tt) 6 c.args.n (omega arith)
    (rw c.high_digit.ensures at c.put_byte.ensures)
    (rw (c.behind-p.ensures.0, c.low_digit.ensures) at c.put_byte-2.ensures)
