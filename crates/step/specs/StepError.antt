-- Which of document 02's refusals each error of a step is.
use Rattle.std.proofs.Common.{sym, ap, ◌∙◌}
use Rattle.std.specs.Prelude.{◌≡◌, refl, ℕ, ◌-◌, [], ◌∷◌, None, get_or}
use Rattle.avr.specs.declared.Refused.{Refused}
use Rattle.step.specs.declared.error.StepError.{StepError}
use Rattle.step.specs.declared.error.StepError.TheVariants.{Offset, NotDecoded, NotListed, NextOutside}

abbrev pub number_of : StepError → ℕ
number_of Offset = 21
number_of NotDecoded = 22
number_of NotListed = 23
number_of NextOutside = 24

abbrev pub refused : StepError → Refused
refused e = record { number = number_of e; value = None }

with_number : ℕ → StepError
with_number k = get_or (Offset ∷ NotDecoded ∷ NotListed ∷ NextOutside ∷ []) (k - 21) Offset

back : (e : StepError) → with_number (number_of e) ≡ e
unfolding with_number
back Offset = refl
back NotDecoded = refl
back NotListed = refl
back NextOutside = refl

-- the number determines the error
pub one_number : (d e : StepError) → number_of d ≡ number_of e → d ≡ e
one_number d e p = sym (back d) ∙ ap with_number p ∙ back e

-- the refusal determines the error
pub distinct : (d e : StepError) → (refused d).number ≡ (refused e).number → (refused d).value ≡ (refused e).value → d ≡ e
distinct d e p q = one_number d e p
