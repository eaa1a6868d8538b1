-- The bit of the word, and then the row's record.
use mathlib.Core.Path.{◌≡◌}
use native.Mathlib.Omega.{arith}
use Rattle.avr.specs.Codes.{sreg_of}
use Rattle.decode.proofs.Steps.{made, the_bit}
use Rattle.decode.proofs.instruction.Goals as goal

pub returns : goal.returns
returns c =
    let b : c.unwrap-bit.result ≡ sreg_of c.sreg_bit.result = the_bit _ _ _ c.try_from.ensures c.unwrap-bit.ensures in
    grind (arith, made)
