-- The digits between the type and the sum.
use native.Mathlib.Omega.{arith}
use Rattle.ihex.proofs.Data.{line-long, data-part, data-digits, data-half}
use Rattle.ihex.proofs.line.Record.put_data.Goals as goal

pub put_spelt-requires : goal.put_spelt-requires
put_spelt-requires c =
    let h = data-half c.args.self.line.now c.args.self.spelt in
    (omega (arith, c.requires), data-digits c.args.self.line.now c.args.self.spelt)

pub returns : goal.returns
returns c = rw (data-part c.args.self.line.now c.args.self.spelt) at c.put_spelt.ensures

pub overflow_sub-n : goal.overflow_sub-n
overflow_sub-n c = omega (arith, line-long c.args.self.line.now c.args.self.spelt)

pub slice_bounds-put_spelt-count : goal.slice_bounds-put_spelt-count
slice_bounds-put_spelt-count c = omega (arith, line-long c.args.self.line.now c.args.self.spelt)

pub slice_bounds-put_spelt-start : goal.slice_bounds-put_spelt-start
slice_bounds-put_spelt-start c = omega (arith, line-long c.args.self.line.now c.args.self.spelt)
