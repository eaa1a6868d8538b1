-- The rows before i do not accept the word, nor do those from the end of the span on.
use Rattle.std.proofs.Common.{◌+◌, ◌≤◌, ◌≡◌, drop}
use Rattle.manual.specs.Rows.{rows, place}
use Rattle.rows.proofs.find_row.Given as goal

abbrev pub invariant-loop-i : goal.invariant-loop-i
invariant-loop-i l =
    (l.i ≤ 103) × (l.stop ≤ 103) × (place rows l.flag l.word ≡ l.i + place (drop l.i rows) l.flag l.word)
