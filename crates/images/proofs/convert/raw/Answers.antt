-- An array is as long as it was made.
use Rattle.std.proofs.Common.{ℕ, sym}
use lib.ListN.{length-replicate}
use Rattle.images.proofs.convert.raw.Goals as goal

pub slice_bounds-raw_in-end : goal.slice_bounds-raw_in-end
slice_bounds-raw_in-end g c = sym (length-replicate {A = ℕ} 1048576 0)
