use mathlib.Core.Path.{◌≡◌}
use Prim.Native.Nat.{◌≤◌}
use lib.ListN.{length}
use Rattle.frame.specs.LineSoFar.{state_of}
use Rattle.frame.proofs.Steps.{Stands}
use Rattle.frame.proofs.stream.LineSoFar.take_bytes.Given as goal

abbrev pub invariant-loop-at : goal.invariant-loop-at
invariant-loop-at l =
    (l.used ≤ l.last) × (length l.out ≡ length l.initial.out)
    × Stands l.last l.input (state_of l.initial.self) l.initial.out (record { count = l.count; line = l.self.bytes }) l.out l.at l.used
