-- Four digits, and two digits more.
use lib.Dec.{lit<}
use native.Mathlib.Omega.{arith}
use Rattle.manual.specs.Text.{padded}
use Rattle.put.proofs.Puts.{then}
use Rattle.put.proofs.Digits.{padded-more}
use Rattle.put.proofs.put_hex6.Goals as goal

pub put_hex2-requires : goal.put_hex2-requires
unfolding padded
put_hex2-requires c = omega (arith, c.put_hex4-p.ensures.next)

pub returns : goal.returns
returns c = rw (padded-more 16 (lit< tt) 4 c.args.n) (then c.put_hex4-p.ensures c.put_hex2.ensures)
