-- An array is as long as it was made.
use Rattle.std.proofs.Common.{ℕ, sym}
use lib.ListN.{length-replicate}
use Rattle.images.proofs.restore.image.Goals as goal

pub slice_bounds-restore_in-end : goal.slice_bounds-restore_in-end
slice_bounds-restore_in-end g c = sym (length-replicate {A = ℕ} 5242880 0)

pub slice_bounds-restore_in-end-2 : goal.slice_bounds-restore_in-end-2
slice_bounds-restore_in-end-2 g c = sym (length-replicate {A = ℕ} 1398102 0)
