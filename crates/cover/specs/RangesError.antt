-- Which refusal each error of reading ranges is, and what reading says.
use Rattle.std.specs.Prelude.{◌≡◌, refl, ℕ, None, Result}
use Rattle.avr.specs.declared.Refused.{Refused}
use Rattle.manual.specs.Answers.{Answer, answer}
use Rattle.cover.specs.declared.error.RangesError.{RangesError}
use Rattle.cover.specs.declared.error.RangesError.TheVariants.{NotAMap, BadList}

abbrev pub refused : RangesError → Refused
refused NotAMap = record { number = 40; value = None }
refused BadList = record { number = 43; value = None }

-- the refusal determines the error
pub distinct : (d e : RangesError) → (refused d).number ≡ (refused e).number → (refused d).value ≡ (refused e).value → d ≡ e
distinct NotAMap NotAMap p q = refl
distinct NotAMap BadList p q = cc
distinct BadList NotAMap p q = cc
distinct BadList BadList p q = refl

-- how many ranges there were
abbrev pub of_ranges_read : Result ℕ RangesError → Answer ℕ
of_ranges_read = answer (λ n. n) refused
