-- Where the step stands, turn by turn.
use mathlib.Core.Path.{◌≡◌}
use lib.ListN.{length}
use borrow.Author.Rules.{rules}
use native.Mathlib.Omega.{arith}
use Rattle.frame.proofs.Steps.{stands-first, stands-next, stands-full, stands-end}
use Rattle.frame.proofs.stream.LineSoFar.take_bytes.Goals as goal

pub loop-at-init : goal.loop-at-init
loop-at-init c = (omega arith, omega arith, stands-first _ _ _ _)

pub loop-at-preserved : goal.loop-at-preserved
loop-at-preserved c =
    let i = c.loop-at.invariant in
    let z = c.take_byte-turn.ensures in
    (omega arith, omega arith, stands-next _ _ _ _ _ _ _ _ i.2 _ _ _ (search rules) (search rules) z.fact z.put)

pub returns-then-last-used : goal.returns-then-last-used
returns-then-last-used c =
    let i = c.loop-at.invariant in
    let z = c.take_byte-turn.ensures in
    let h = stands-next _ _ _ _ _ _ _ _ i.2 _ _ _ (search rules) (search rules) z.fact z.put in
    record { takes = stands-full _ _ _ _ _ _ _ _ h (search rules); state = h.state; text = h.text }

pub returns : goal.returns
returns c =
    let h = c.loop-at.invariant.2 in
    let e : length c.args.input.now ≡ c.loop-at.at = omega arith in
    rw e (record { takes = stands-end _ _ _ _ _ _ _ _ h (omega arith); state = h.state; text = h.text })
