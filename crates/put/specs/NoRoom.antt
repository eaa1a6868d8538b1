-- Which of document 01's refusals the error of writing is, and what writing a text says.
use Rattle.std.specs.Prelude.{◌≡◌, ℕ, Some, Result}
use Rattle.avr.specs.declared.Refused.{Refused}
use Rattle.manual.specs.Answers.{Answer, answer}
use Rattle.put.specs.declared.error.NoRoom.{NoRoom}

abbrev pub refused : NoRoom → Refused
refused e = record { number = 3; value = Some e.needed }

-- the bytes that are needed determine the error
pub distinct : (d e : NoRoom) → (refused d).number ≡ (refused e).number → (refused d).value ≡ (refused e).value → d ≡ e
distinct d e p q = let x : d.needed ≡ e.needed = cc in λ j. record { needed = x j }

-- how many bytes were written
abbrev pub of_filled : Result ℕ NoRoom → Answer ℕ
of_filled = answer (λ n. n) refused
