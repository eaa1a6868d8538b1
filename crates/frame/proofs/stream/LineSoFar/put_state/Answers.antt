-- An overlong line is bad; any other stands in the buffer.
use borrow.Author.Tests.{lt-ltb, le-ltb}
use Rattle.frame.specs.Stream.{state_text}
use Rattle.frame.proofs.stream.LineSoFar.put_state.Goals as goal

pub returns-then-self-gt-LINE_ROOM : goal.returns-then-self-gt-LINE_ROOM
unfolding state_text
returns-then-self-gt-LINE_ROOM c = rw (lt-ltb 130 _ c.if-self-gt-LINE_ROOM.true) c.put_bytes.ensures

pub returns : goal.returns
unfolding state_text
returns c = rw (le-ltb 130 _ c.if-self-gt-LINE_ROOM.false) c.put_answer.ensures
