-- Which of document 01's refusals the error of a walk is.
use Rattle.std.specs.Prelude.{◌≡◌, refl, None, Result}
use Rattle.avr.specs.declared.Refused.{Refused}
use Rattle.manual.specs.Answers.{Answer, answer}
use Rattle.walk.specs.declared.error.TooLong.{TooLong}

abbrev pub refused : TooLong → Refused
refused e = record { number = 5; value = None }

-- there is one such error
pub distinct : (d e : TooLong) → (refused d).number ≡ (refused e).number → (refused d).value ≡ (refused e).value → d ≡ e
distinct d e p q = refl

-- a walk that may begin gives nothing but that
abbrev pub of_begun : Result (Unit {0}) TooLong → Answer (Unit {0})
of_begun = answer (λ u. u) refused
