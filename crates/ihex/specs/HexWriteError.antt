-- Which of document 01's refusals each error of writing is, and what writing says.
use Rattle.std.specs.Prelude.{◌≡◌, refl, ℕ, Some, None, Result}
use Rattle.avr.specs.declared.Refused.{Refused}
use Rattle.manual.specs.Answers.{Answer, answer}
use Rattle.ihex.specs.declared.error.HexWriteError.{HexWriteError}
use Rattle.ihex.specs.declared.error.HexWriteError.TheVariants.{TooLong, NoRoom}

abbrev pub refused : HexWriteError → Refused
refused TooLong = record { number = 5; value = None }
refused (NoRoom n) = record { number = 3; value = Some n }

-- the refusal determines the error
pub distinct : (d e : HexWriteError) → (refused d).number ≡ (refused e).number → (refused d).value ≡ (refused e).value → d ≡ e
distinct TooLong TooLong p q = refl
distinct TooLong (NoRoom n) p q = cc
distinct (NoRoom m) TooLong p q = cc
distinct (NoRoom m) (NoRoom n) p q = cc

-- how many bytes were written
abbrev pub of_hex_written : Result ℕ HexWriteError → Answer ℕ
of_hex_written = answer (λ n. n) refused
