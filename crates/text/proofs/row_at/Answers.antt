-- The name, then the operands; what the cursor wrote is in the buffer.
use mathlib.Core.Path.{◌≡◌, ap}
use borrow.Author.Rules.{rules}
use native.Mathlib.Omega.{arith}
use Rattle.put.specs.declared.cursor.Cursor.{Cursor}
use Rattle.put.specs.Cursor.{puts}
use Rattle.put.proofs.Cursors.{written}
use Rattle.text.proofs.Pieces.{number_lt, both}
use Rattle.text.proofs.row_at.Goals as goal

pub put_name-requires : goal.put_name-requires
put_name-requires c =
    let h = number_lt c.args.row c.args.form.bits c.args.w c.args.e c.requires.0 c.requires.1 (search rules) in
    (search rules, rw c.name_number.ensures h)

pub returns : goal.returns
unfolding puts
returns c =
    let b =
    both c.args.row c.args.form.bits c.args.w c.args.e c.requires.0 c.requires.1 (search rules) c.new-cursor.result (search rules) (rw c.name_number.ensures at c.put_name.ensures.0)
    (rw c.pair.ensures at c.put_operands.ensures) in
    let w = written c.new-cursor.result c.put_operands.new.out _ b.0.0 b.0.1 in
    let n : c.put_operands.new.out.out.ghost_name ≡ c.new-cursor.result.out.ghost_name = ap (λ (x : Cursor). x.out.ghost_name) b.0.0 in
    search rules
