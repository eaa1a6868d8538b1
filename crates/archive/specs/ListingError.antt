-- Which of document 02's refusals each error of reading back is, and what reading back says.
use Rattle.std.specs.Prelude.{◌≡◌, refl, ℕ, Some, None, Result}
use Rattle.avr.specs.declared.Refused.{Refused}
use Rattle.manual.specs.Answers.{Answer, answer}
use Rattle.archive.specs.declared.error.ListingError.{ListingError}
use Rattle.archive.specs.declared.error.ListingError.TheVariants.{NoImage, NoRoom}

abbrev pub refused : ListingError → Refused
refused NoImage = record { number = 13; value = None }
refused (NoRoom n) = record { number = 14; value = Some n }

-- the refusal determines the error
pub distinct : (d e : ListingError) → (refused d).number ≡ (refused e).number → (refused d).value ≡ (refused e).value → d ≡ e
distinct NoImage NoImage p q = refl
distinct NoImage (NoRoom n) p q = cc
distinct (NoRoom m) NoImage p q = cc
distinct (NoRoom m) (NoRoom n) p q = cc

-- how many bytes the image has
abbrev pub of_listing_read : Result ℕ ListingError → Answer ℕ
of_listing_read = answer (λ n. n) refused
