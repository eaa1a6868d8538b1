-- At most two digits, or two digits more, or four.
use native.Mathlib.Omega.{arith}
use Rattle.manual.specs.Text.{padded}
use Rattle.put.proofs.Puts.{then}
use Rattle.put.proofs.Digits.{hex-middle, hex-long}
use Rattle.put.proofs.put_hex.Goals as goal

pub returns-then-n-lt65536 : goal.returns-then-n-lt65536
unfolding padded
returns-then-n-lt65536 c =
    let q = c.put_hex2.ensures in
    let p = c.put_hex_byte-p.ensures in
    (rw (hex-middle c.args.n (omega arith) c.if-n-lt65536.true) (then p.0 q), omega (arith, q.next, p.1))

pub returns : goal.returns
unfolding padded
returns c =
    let q = c.put_hex4.ensures in
    let p = c.put_hex_byte-p-2.ensures in
    (rw (hex-long c.args.n c.if-n-lt65536.false c.requires.1) (then p.0 q), omega (arith, q.next, p.1))
