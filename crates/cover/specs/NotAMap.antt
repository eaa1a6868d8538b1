-- Which refusal it is that a map has not 8,192 bytes, and what counting, joining and a visit of all lines say.
use Rattle.std.specs.Prelude.{◌≡◌, refl, ℕ, None, Result}
use Rattle.avr.specs.declared.Refused.{Refused}
use Rattle.manual.specs.Answers.{Answer, answer}
use Rattle.cover.specs.declared.error.NotAMap.{NotAMap}

abbrev pub refused : NotAMap → Refused
refused e = record { number = 40; value = None }

-- there is one such error
pub distinct : (d e : NotAMap) → (refused d).number ≡ (refused e).number → (refused d).value ≡ (refused e).value → d ≡ e
distinct d e p q = refl

-- how many lines were dropped
abbrev pub of_following : Result ℕ NotAMap → Answer ℕ
of_following = answer (λ n. n) refused

-- how many words there are
abbrev pub of_counted : Result ℕ NotAMap → Answer ℕ
of_counted = answer (λ n. n) refused

abbrev pub of_joining : Result (Unit {0}) NotAMap → Answer ℕ
of_joining = answer (λ _. 0) refused
