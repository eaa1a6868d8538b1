-- All lines, the end line, and LF.
use Rattle.std.proofs.Common.{◌+◌, ◌/◌, length, arith}
use Rattle.ihex.specs.Hex.{end_line}
use Rattle.ihex.proofs.Cursors.{writes_at, writes_length, writes_then}
use Rattle.ihex.proofs.Lengths.{lines_long}
use Rattle.ihex.proofs.Lined.{hex_is}
use Rattle.ihex.proofs.text.put_all.Goals as goal

pub bytes-requires : goal.bytes-requires
bytes-requires c =
    let n = length c.args.image.now in
    let x = c.put_lines.ensures in
    omega (arith, writes_at _ _ _ x, writes_length _ _ _ x, lines_long ((n + 15) / 16) 0 c.args.image.now (omega arith) (omega arith))

pub byte-requires : goal.byte-requires
byte-requires c =
    let n = length c.args.image.now in
    let x = c.put_lines.ensures in
    let y = c.bytes.ensures in
    omega (arith, writes_at _ _ _ x, writes_length _ _ _ x, writes_at _ _ _ y, writes_length _ _ _ y, lines_long ((n + 15) / 16) 0 c.args.image.now (omega arith) (omega arith))

pub returns : goal.returns
unfolding end_line
returns c = rw (← hex_is c.args.image.now) (writes_then _ _ _ (writes_then _ _ _ c.put_lines.ensures _ _ c.bytes.ensures) _ _ c.byte.ensures)
