-- Which refusal each error of a measurement is, and what a measurement says.
use Rattle.std.proofs.Common.{sym, ap, ◌∙◌}
use Rattle.std.specs.Prelude.{◌≡◌, refl, ℕ, ◌-◌, [], ◌∷◌, Some, None, Result, get_or}
use Rattle.avr.specs.declared.Refused.{Refused}
use Rattle.manual.specs.Answers.{Answer, answer}
use Rattle.stack.specs.declared.error.Why.{Why}
use Rattle.stack.specs.declared.error.Why.TheVariants as why
use Rattle.stack.specs.declared.error.StackError.{StackError}
use Rattle.stack.specs.declared.error.StackError.TheVariants as stack_error

-- the refusals in document 02's order
abbrev pub number_of : Why → ℕ
number_of why.NoEntry = 30
number_of why.NotDecoded = 31
number_of why.Leaves = 32
number_of why.MovesStack = 33
number_of why.PopsBelow = 34
number_of why.ReturnsAbove = 35
number_of why.TooDeep = 36
number_of why.NoReturn = 37

-- with the offset of the line that decided, or of the entry
abbrev pub refused : StackError → Refused
refused stack_error.TooLong = record { number = 5; value = None }
refused (stack_error.Refused w p) = record { number = number_of w; value = Some p }

with_number : ℕ → Why
with_number k =
    get_or (why.NoEntry ∷ why.NotDecoded ∷ why.Leaves ∷ why.MovesStack ∷ why.PopsBelow ∷ why.ReturnsAbove ∷ why.TooDeep ∷ why.NoReturn ∷ []) (k - 30) why.NoEntry

back : (w : Why) → with_number (number_of w) ≡ w
unfolding with_number
back why.NoEntry = refl
back why.NotDecoded = refl
back why.Leaves = refl
back why.MovesStack = refl
back why.PopsBelow = refl
back why.ReturnsAbove = refl
back why.TooDeep = refl
back why.NoReturn = refl

-- the refusal determines the error
pub distinct : (d e : StackError) → (refused d).number ≡ (refused e).number → (refused d).value ≡ (refused e).value → d ≡ e
distinct stack_error.TooLong stack_error.TooLong p q = refl
distinct stack_error.TooLong (stack_error.Refused w k) p q = cc
distinct (stack_error.Refused v j) stack_error.TooLong p q = cc
distinct (stack_error.Refused v j) (stack_error.Refused w k) p q =
    let x : v ≡ w = sym (back v) ∙ ap with_number p ∙ back w in
    let y : j ≡ k = cc in
    cc

-- the stack bytes
abbrev pub of_measured : Result ℕ StackError → Answer ℕ
of_measured = answer (λ n. n) refused
