-- The line so far as a state of the definitions.
use Rattle.frame.specs.declared.stream.LineSoFar.{LineSoFar}
use Rattle.frame.specs.Stream.{State}

abbrev pub state_of : LineSoFar → State
state_of s = record { count = s.count; line = s.bytes }
