-- Which refusal each error of writing ranges or a picture is, and what writing says.
use Rattle.std.specs.Prelude.{◌≡◌, refl, ℕ, Some, None, Result}
use Rattle.avr.specs.declared.Refused.{Refused}
use Rattle.manual.specs.Answers.{Answer, answer}
use Rattle.cover.specs.declared.error.MapWriteError.{MapWriteError}
use Rattle.cover.specs.declared.error.MapWriteError.TheVariants.{NotAMap, NoRoom}

abbrev pub refused : MapWriteError → Refused
refused NotAMap = record { number = 40; value = None }
refused (NoRoom n) = record { number = 3; value = Some n }

-- the refusal determines the error
pub distinct : (d e : MapWriteError) → (refused d).number ≡ (refused e).number → (refused d).value ≡ (refused e).value → d ≡ e
distinct NotAMap NotAMap p q = refl
distinct NotAMap (NoRoom n) p q = cc
distinct (NoRoom m) NotAMap p q = cc
distinct (NoRoom m) (NoRoom n) p q = cc

-- how many bytes were written
abbrev pub of_map_written : Result ℕ MapWriteError → Answer ℕ
of_map_written = answer (λ n. n) refused
