-- An empty last line prints nothing.
use borrow.Author.Tests.{lt-ltb, le-ltb}
use native.Mathlib.Omega.{arith}
use Rattle.put.proofs.Puts.{nothing}
use Rattle.frame.specs.Stream.{ended}
use Rattle.frame.proofs.stream.LineSoFar.finish.Goals as goal

pub returns-then-self-eq0 : goal.returns-then-self-eq0
unfolding ended
returns-then-self-eq0 c = rw (le-ltb 0 c.args.self.now.count (omega arith)) (nothing _ _ (omega arith))

pub returns : goal.returns
unfolding ended
returns c = rw (lt-ltb 0 c.args.self.now.count (omega arith)) c.put_state.ensures
