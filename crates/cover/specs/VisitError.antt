-- Which refusal each error of a visit is, and what a visit says.
use Rattle.std.specs.Prelude.{◌≡◌, refl, ℕ, None, Result}
use Rattle.avr.specs.declared.Refused.{Refused}
use Rattle.manual.specs.Answers.{Answer, answer}
use Rattle.cover.specs.declared.error.VisitError.{VisitError}
use Rattle.cover.specs.declared.error.VisitError.TheVariants.{NotAMap, Malformed, Odd, Past}

abbrev pub refused : VisitError → Refused
refused NotAMap = record { number = 40; value = None }
refused Malformed = record { number = 6; value = None }
refused Odd = record { number = 41; value = None }
refused Past = record { number = 42; value = None }

-- the refusal determines the error
pub distinct : (d e : VisitError) → (refused d).number ≡ (refused e).number → (refused d).value ≡ (refused e).value → d ≡ e
distinct NotAMap NotAMap p q = refl
distinct NotAMap Malformed p q = cc
distinct NotAMap Odd p q = cc
distinct NotAMap Past p q = cc
distinct Malformed NotAMap p q = cc
distinct Malformed Malformed p q = refl
distinct Malformed Odd p q = cc
distinct Malformed Past p q = cc
distinct Odd NotAMap p q = cc
distinct Odd Malformed p q = cc
distinct Odd Odd p q = refl
distinct Odd Past p q = cc
distinct Past NotAMap p q = cc
distinct Past Malformed p q = cc
distinct Past Odd p q = cc
distinct Past Past p q = refl

-- the word that was visited
abbrev pub of_visiting : Result ℕ VisitError → Answer ℕ
of_visiting = answer (λ w. w) refused
