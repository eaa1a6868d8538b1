-- One text behind another at a cursor.
use Rattle.std.proofs.Common.{◌≡◌, ◌+◌, ◌≤◌, ℕ, List, [], ◌++◌, length, ap, ◌∙◌, arith}
use Rattle.put.specs.declared.cursor.Cursor.{Cursor}
use Rattle.put.specs.Cursor.{puts, Writes}
use Rattle.put.proofs.Cursors.{puts_puts, puts_at, puts_length, puts_none}

pub writes_none : (c : Cursor) → c.at ≤ length c.out.now → Writes c c []
writes_none c h = (puts_none c h, h)

module _ (a b : Cursor) (xs : List ℕ) (p : Writes a b xs) where
  pub writes_at : b.at ≡ a.at + length xs
  writes_at = ap (λ (c : Cursor). c.at) p.0 ∙ puts_at a xs

  pub writes_length : length b.out.now ≡ length a.out.now
  writes_length = let h : a.at + length xs ≤ length a.out.now = omega (arith, writes_at, p.1) in ap (λ (c : Cursor). length c.out.now) p.0 ∙ puts_length a xs h

  pub writes_name : b.out.ghost_name ≡ a.out.ghost_name
  unfolding puts
  writes_name = ap (λ (c : Cursor). c.out.ghost_name) p.0

  pub writes_then : (d : Cursor) (ys : List ℕ) → Writes b d ys → Writes a d (xs ++ ys)
  writes_then d ys q =
      let h : a.at ≤ length a.out.now = omega (arith, writes_at, p.1) in
      let l = writes_length in
      let e : puts b ys ≡ puts (puts a xs) ys = ap (λ (c : Cursor). puts c ys) p.0 in
      (q.0 ∙ e ∙ puts_puts a xs ys h, omega (arith, q.1))
