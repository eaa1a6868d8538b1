-- An array is as long as it was made.
use Rattle.drives.proofs.Zeros.{zeros}
use Rattle.drives.proofs.rooms.in_small_room.Goals as goal

pub slice_bounds-do_work-end : goal.slice_bounds-do_work-end
slice_bounds-do_work-end g c = zeros 524288
