-- What is put at the place.
use native.Mathlib.Omega.{arith}
use Rattle.put.proofs.Cursors.{made}
use Rattle.put.proofs.cursor.Cursor.decimal.Goals as goal

pub returns : goal.returns
returns c = let p = c.put_decimal-self.ensures.0 in ((made c.args.self.now p, omega (arith, p.room, p.next)), c.put_decimal-self.ensures.1)
