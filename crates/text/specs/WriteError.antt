-- Which of document 01's refusals each error of writing is, and what writing says.
use Rattle.std.specs.Prelude.{◌≡◌, refl, ℕ, Some, None, Result}
use Rattle.avr.specs.declared.Refused.{Refused}
use Rattle.manual.specs.Answers.{Answer, answer}
use Rattle.text.specs.declared.error.WriteError.{WriteError}
use Rattle.text.specs.declared.error.WriteError.TheVariants.{NoSuchRecord, NoRoom}

abbrev pub refused : WriteError → Refused
refused NoSuchRecord = record { number = 4; value = None }
refused (NoRoom n) = record { number = 3; value = Some n }

-- the refusal determines the error
pub distinct : (d e : WriteError) → (refused d).number ≡ (refused e).number → (refused d).value ≡ (refused e).value → d ≡ e
distinct NoSuchRecord NoSuchRecord p q = refl
distinct NoSuchRecord (NoRoom n) p q = cc
distinct (NoRoom m) NoSuchRecord p q = cc
distinct (NoRoom m) (NoRoom n) p q = cc

-- how many bytes of text were written
abbrev pub of_written : Result ℕ WriteError → Answer ℕ
of_written = answer (λ n. n) refused
