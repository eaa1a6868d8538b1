-- Bytes written at a cursor: the same buffer, with the bytes from the cursor's place on.
use Rattle.std.specs.Prelude.{ℕ, ◌+◌, ◌≤◌, ◌≡◌, List, length}
use Rattle.put.specs.declared.cursor.Cursor.{Cursor}
use Rattle.put.specs.Put.{put}

abbrev pub HasRoom : Cursor → ℕ → Type 0
HasRoom c n = c.at + n ≤ length c.out.now

-- the cursor behind the bytes xs that are put at c
unfoldable pub puts : Cursor → List ℕ → Cursor
puts c xs = record c { out = record c.out { now = put c.out.now c.at xs }; at = c.at + length xs }

-- the cursor d is c behind the bytes xs, for which there was room
abbrev pub Writes : Cursor → Cursor → List ℕ → Type 0
Writes c d xs = (d ≡ puts c xs) × (d.at ≤ length c.out.now)
