-- LF ends the line; any other byte goes to its end, if there is room.
use borrow.Author.Tests.{lt-ltb, le-ltb, eq-eqb, ne_eqb}
use native.Mathlib.Omega.{arith}
use Rattle.put.proofs.Puts.{nothing}
use Rattle.frame.specs.Stream.{turned, turn_text}
use Rattle.frame.proofs.stream.LineSoFar.take_byte.Goals as goal

pub returns-then-b-eq10 : goal.returns-then-b-eq10
unfolding turned turn_text
returns-then-b-eq10 c =
    record { fact = rw (eq-eqb _ 10 c.if-b-eq10.true); put = rw (eq-eqb _ 10 c.if-b-eq10.true) c.put_state-used.ensures }

pub returns-then-count-lt-LINE_ROOM : goal.returns-then-count-lt-LINE_ROOM
unfolding turned turn_text
returns-then-count-lt-LINE_ROOM c =
    record {
      fact = rw (ne_eqb _ 10 c.if-b-eq10.false, lt-ltb _ 130 c.if-count-lt-LINE_ROOM.true);
      put = rw (ne_eqb _ 10 c.if-b-eq10.false) (nothing _ _ (omega arith));
    }

pub returns : goal.returns
unfolding turned turn_text
returns c =
    record {
      fact = rw (ne_eqb _ 10 c.if-b-eq10.false, le-ltb _ 130 c.if-count-lt-LINE_ROOM.false);
      put = rw (ne_eqb _ 10 c.if-b-eq10.false) (nothing _ _ (omega arith));
    }
