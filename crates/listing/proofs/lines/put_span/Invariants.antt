use Prim.Native.Nat.{◌+◌, ◌-◌, ◌*◌, ◌≤◌, ◌<◌}
use mathlib.Core.Path.{◌≡◌}
use mathlib.Core.Bool.{false}
use mathlib.Core.List.{List, ◌++◌}
use lib.ListN.{length, drop}
use Rattle.avr.specs.declared.Line.{Line}
use Rattle.manual.specs.Rows.{rows, place}
use Rattle.manual.specs.Decode.{word_at}
use Rattle.manual.specs.Lines.{lines_from}
use Rattle.listing.specs.Lent.{Wrote, Same}
use Rattle.listing.specs.Begun.{begun_by}
use Rattle.listing.proofs.lines.put_span.Given as goal

abbrev pub invariant-loop-at : goal.invariant-loop-at
invariant-loop-at l =
    ((l.from ≤ l.at) × (l.at ≤ length l.image) × (length l.out.out.now ≡ length l.initial.out.out.now) × (l.at < l.stop → l.out.at + 18 * (l.stop - l.at) + 14 ≤ length l.initial.out.out.now)
    × (l.at < l.stop → l.ahead ≡ place rows l.flag (word_at l.image l.at))
    × ((ms : List Line)
    × (Wrote (l.base + l.from) ms l.initial.out.out.now l.initial.out.at l.out.out.now (l.at - l.from) l.out.at
    × (ms ++ begun_by l.stop l.at (lines_from l.flag false (drop l.at l.image)) ≡ begun_by l.stop l.from (lines_from l.flag false (drop l.from l.image))))))
    × Same l.initial.out l.out

abbrev pub decreases-loop-at : goal.decreases-loop-at
decreases-loop-at l = l.stop - l.at
