-- The lines that are left at a state: all of them at the start, none at the end, and else the one there and those behind it.
use Rattle.std.proofs.Common.{◌≡◌, ℕ, ◌+◌, ◌≤◌, Bool, true, false, List, [], ◌∷◌, ltb, length, drop, refl, arith, length-drop, le-ltb, ltb-false}
use Rattle.avr.specs.declared.Line.{Line}
use Rattle.avr.specs.declared.Line.TheVariants as line
use Rattle.manual.specs.Choice.{pick}
use Rattle.manual.specs.Lines.{limit, length_of, tail_after, line_at, lines_from, lines, begun_before, count_before}
use Rattle.manual.specs.Listing.{placed}
use Rattle.walk.specs.Left.{left_at, begun_of}
use Rattle.walk.specs.Theorems.{is_end}
use Rattle.walk.proofs.Along.{line_here, takes, unroll, along, none_left}
use Rattle.walk.proofs.At.{unroll-at, left-none, ends-at-length, line-inside}

length-placed : (o : ℕ) (ls : List Line) → length (placed o ls) ≡ length ls
length-placed o [] = refl
length-placed o (l ∷ ls) = let e = length-placed (o + length_of l) ls in omega arith

few-from : (flag tail : Bool) (bs : List ℕ) → length (lines_from flag tail bs) ≤ length bs
few-from flag =
    along flag (λ tail bs. length (lines_from flag tail bs) ≤ length bs) (λ tail. rw none_left (omega arith))
    (λ tail b bs ih.
    let k = takes flag tail b bs in
    let d = length-drop (length_of (line_here flag tail (b ∷ bs))) (b ∷ bs) in
    rw (unroll flag tail b bs) (omega arith))

module _ (flag : Bool) (image : List ℕ) where
  pub all_left : left_at flag image 0 false ≡ placed 0 (lines flag image)
  unfolding left_at lines
  all_left = refl

  pub few_left : length (left_at flag image 0 false) ≤ length image
  unfolding left_at
  few_left = go (ltb limit (length image))
    where
      go : (b : Bool) → length (placed 0 (pick b [] (lines_from flag false image))) ≤ length image
      go true = omega arith
      go false = omega (arith, length-placed 0 (lines_from flag false image), few-from flag false image)

  module _ (at : ℕ) (tail : Bool) where
    pub end_left : line_at flag image at tail ≡ line.End → left_at flag image at tail ≡ []
    unfolding left_at
    end_left e = go (ltb limit (length image)) refl
      where
        go : (b : Bool) → ltb limit (length image) ≡ b → placed at (pick b [] (lines_from flag tail (drop at image))) ≡ []
        go true f = refl
        go false f = rw (left-none flag tail image at (ends-at-length flag image at tail (ltb-false limit (length image) f) e))

    pub step_left : is_end (line_at flag image at tail) ≡ false
        → left_at flag image at tail
        ≡ (at, line_at flag image at tail) ∷ left_at flag image (at + length_of (line_at flag image at tail)) (tail_after (line_at flag image at tail) tail)
    unfolding left_at
    step_left e =
        let h = line-inside flag image at tail e in
        simp (le-ltb limit (length image) h.0) (rw (unroll-at flag image at tail h.0 h.1))

begun-placed : (o : ℕ) (ls : List Line) (p : ℕ) → begun_of (placed o ls) p ≡ begun_before o ls p
begun-placed o [] p = refl
begun-placed o (l ∷ ls) p = rw (begun-placed (o + length_of l) ls p)

-- the count of lines is a count of what the iterator gives
pub count_of_left : (flag : Bool) (image : List ℕ) (p : ℕ) → count_before flag image p ≡ begun_of (placed 0 (lines flag image)) p
unfolding count_before
count_of_left flag image p = rw (begun-placed 0 (lines flag image) p)

pub ruleset left = (all_left, few_left, end_left, step_left)
