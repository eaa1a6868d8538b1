-- One text after another at a cursor.
use mathlib.Core.Path.{◌≡◌, refl, sym, ap, ap₂}
use mathlib.Core.List.{List, [], ◌++◌}
use Prim.Native.Nat.{ℕ, ◌+◌, ◌≤◌}
use native.Mathlib.Omega.{arith}
use lib.ListN.{length, length-append}
use Rattle.put.specs.declared.cursor.Cursor.{Cursor}
use Rattle.put.specs.Cursor.{puts}
use Rattle.put.specs.Put.{Put}
use Rattle.put.proofs.Puts.{put-more-behind, put-length, put-none}

pub made : (c : Cursor) {xs d' : List ℕ} {r : ℕ} → Put c.out.now c.at xs d' r → ◌≡◌ {A = Cursor} (record c { out = record c.out { now = d' }; at = r }) (puts c xs)
unfolding puts
made c p = ap₂ (λ (l : List ℕ) (k : ℕ). record c { out = record c.out { now = l }; at = k }) p.holds p.next

pub puts_puts : (c : Cursor) (xs ys : List ℕ) → c.at ≤ length c.out.now → puts (puts c xs) ys ≡ puts c (xs ++ ys)
unfolding puts
puts_puts c xs ys h =
    let e = length-append xs ys in
    let f : c.at + length xs + length ys ≡ c.at + length (xs ++ ys) = omega arith in
    ap₂ (λ (l : List ℕ) (k : ℕ). record c { out = record c.out { now = l }; at = k }) (put-more-behind c.out.now c.at xs ys h) f

pub puts_at : (c : Cursor) (xs : List ℕ) → (puts c xs).at ≡ c.at + length xs
unfolding puts
puts_at c xs = refl

pub puts_length : (c : Cursor) (xs : List ℕ) → c.at + length xs ≤ length c.out.now → length (puts c xs).out.now ≡ length c.out.now
unfolding puts
puts_length c xs h = put-length c.out.now c.at xs h

pub puts_none : (c : Cursor) → c.at ≤ length c.out.now → c ≡ puts c []
unfolding puts
puts_none c h =
    let f : c.at ≡ c.at + 0 = omega arith in
    ap₂ (λ (l : List ℕ) (k : ℕ). record c { out = record c.out { now = l }; at = k }) (sym (put-none c.out.now c.at h)) f

pub ruleset writing = (puts_puts, puts_at, puts_length)

-- what was put, as a writer at an offset says it
pub written : (c d : Cursor) (xs : List ℕ) → d ≡ puts c xs → d.at ≤ length c.out.now → Put c.out.now c.at xs d.out.now d.at
unfolding puts
written c d xs e h =
    let n : d.at ≡ c.at + length xs = ap (λ (x : Cursor). x.at) e in
    record { room = omega (arith, h, n); next = n; holds = ap (λ (x : Cursor). x.out.now) e }
