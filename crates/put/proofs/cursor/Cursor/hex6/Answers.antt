-- What is put at the place.
use native.Mathlib.Omega.{arith}
use Rattle.put.proofs.Cursors.{made}
use Rattle.put.proofs.cursor.Cursor.hex6.Goals as goal

pub returns : goal.returns
returns c = let p = c.put_hex6-self.ensures in (made c.args.self.now p, omega (arith, p.room, p.next))
