-- What was written at the start of a buffer is the text.
use mathlib.Core.Path.{◌≡◌, refl, sym, ap, ◌∙◌}
use mathlib.Core.Bool.{Bool, true, false}
use mathlib.Core.List.{List, ◌++◌}
use Prim.Native.Nat.{ℕ, ◌≤◌}
use native.Mathlib.Omega.{arith}
use lib.Dec.{ltb}
use lib.ListN.{length, take, drop}
use lib.Seq.{take_at}
use Rattle.std.proofs.lemmas.List.{length-take}
use Rattle.avr.specs.declared.Instruction.{Instruction}
use Rattle.manual.specs.Choice.{pick}
use Rattle.manual.specs.Answers.{gives, no_room, no_such_record, is_given}
use Rattle.manual.specs.Room.{written, filled}
use Rattle.manual.specs.Encode.{encodes}
use Rattle.manual.specs.Text.{text_of}
use Rattle.manual.specs.Writing.{writes, left}

module _ (flag : Bool) (x : Instruction) (buffer : List ℕ) (n : ℕ) where
  text_there : (t u : Bool) → ltb (length buffer) (length (text_of x)) ≡ u
      → gives n ≡ pick t (pick u (no_room (length (text_of x))) (gives (length (text_of x)))) no_such_record
      → (n ≡ length (text_of x)) × (take n (pick t (pick u buffer (text_of x ++ drop (length (text_of x)) buffer)) buffer) ≡ text_of x)
  text_there true false e p =
      let q : n ≡ length (text_of x) = cc in
      (q, take_at (text_of x) (drop (length (text_of x)) buffer) n (sym q))
  text_there true true e p = cc
  text_there false u e p = cc

  pub shown : gives n ≡ writes flag x buffer → take n (left flag x buffer) ≡ text_of x
  unfolding writes left written filled
  shown p = (text_there (is_given (encodes flag x)) (ltb (length buffer) (length (text_of x))) refl p).1

  pub inside : gives n ≡ writes flag x buffer → (after : List ℕ) → after ≡ left flag x buffer → n ≡ length (take n after)
  unfolding writes written
  inside p after e =
      (text_there (is_given (encodes flag x)) (ltb (length buffer) (length (text_of x))) refl p).0
      ∙ sym (ap (λ (b : List ℕ). length (take n b)) e ∙ ap length (shown p))

  pub fits : gives n ≡ writes flag x buffer → (after : List ℕ) → after ≡ left flag x buffer → n ≤ length after
  fits p after e = omega (arith, inside p after e, length-take n after)

-- writing a text gives how many bytes of the buffer are the text
pub ruleset showing = (shown, inside, fits)
