-- An array is as long as it was made.
use Rattle.std.proofs.Common.{ℕ, sym}
use lib.ListN.{length-replicate}
use Rattle.images.proofs.lists.list.Goals as goal

pub slice_bounds-list_open-end : goal.slice_bounds-list_open-end
slice_bounds-list_open-end g c = sym (length-replicate {A = ℕ} 1048576 0)
