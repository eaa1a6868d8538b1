-- The lines that an iterator over an image has left, each with its offset.
use Rattle.std.specs.Prelude.{ℕ, suc, Bool, List, [], ◌∷◌, ltb, length, drop}
use Rattle.avr.specs.declared.Line.{Line}
use Rattle.manual.specs.Choice.{pick}
use Rattle.manual.specs.Lines.{limit, lines_from}
use Rattle.manual.specs.Listing.{placed}
use Rattle.walk.specs.declared.Lines.{Lines}

-- from a position on, by whether the tail has begun
unfoldable pub left_at : Bool → List ℕ → ℕ → Bool → List (ℕ × Line)
left_at flag image at tail = placed at (pick (ltb limit (length image)) [] (lines_from flag tail (drop at image)))

abbrev pub lines_left : Lines → List (ℕ × Line)
lines_left s = left_at s.target.has_16_bit_lds_sts s.image.now s.place.at s.place.tail

-- how many of them begin before p, up to the first that does not
abbrev pub begun_of : List (ℕ × Line) → ℕ → ℕ
begun_of [] p = 0
begun_of (e ∷ es) p = pick (ltb e.0 p) (suc (begun_of es p)) 0
