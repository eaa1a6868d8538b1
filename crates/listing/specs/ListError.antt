-- Which of document 01's refusals each error of listing is, and what listing an image or a line says.
use Rattle.std.specs.Prelude.{◌≡◌, refl, ℕ, List, Option, Some, None, option_to_list, Result}
use Rattle.avr.specs.declared.Refused.{Refused}
use Rattle.manual.specs.Answers.{Answer, answer}
use Rattle.put.specs.declared.error.NoRoom.{NoRoom}
use Rattle.put.specs.NoRoom as no_room
use Rattle.listing.specs.declared.error.ListError.{ListError}
use Rattle.listing.specs.declared.error.ListError.TheVariants as list_error

abbrev pub refused : ListError → Refused
refused list_error.TooLong = record { number = 5; value = None }
refused (list_error.NoRoom n) = record { number = 3; value = Some n }

-- the refusal determines the error
pub distinct : (d e : ListError) → (refused d).number ≡ (refused e).number → (refused d).value ≡ (refused e).value → d ≡ e
distinct list_error.TooLong list_error.TooLong p q = refl
distinct list_error.TooLong (list_error.NoRoom n) p q = cc
distinct (list_error.NoRoom m) list_error.TooLong p q = cc
distinct (list_error.NoRoom m) (list_error.NoRoom n) p q = cc

-- how many bytes were written
abbrev pub of_listed : Result ℕ ListError → Answer ℕ
of_listed = answer (λ n. n) refused

-- the number of bytes of the line that was written, and none at the end
abbrev pub of_line_written : Result (Option ℕ) NoRoom → Answer (List ℕ)
of_line_written = answer option_to_list no_room.refused
