-- Which of document 02's refusals each error of reading is, and what reading says.
use Rattle.std.proofs.Common.{sym, ap, ◌∙◌, arith}
use Rattle.std.specs.Prelude.{◌≡◌, refl, ℕ, [], ◌∷◌, Some, None, Result, Ok, Err, get_or, ◌-◌, ◌<◌}
use Rattle.avr.specs.declared.Refused.{Refused}
use Rattle.manual.specs.Answers.{Answer, answer}
use Rattle.ihex.specs.declared.error.Fault.{Fault}
use Rattle.ihex.specs.declared.error.Fault.TheVariants as fault
use Rattle.ihex.specs.declared.error.HexError.{HexError}
use Rattle.ihex.specs.declared.error.HexError.TheVariants.{Line, NoEnd}

abbrev pub fault_number : Fault → ℕ
fault_number fault.Form = 7
fault_number fault.Sum = 8
fault_number fault.Type = 9
fault_number fault.Order = 10
fault_number fault.Room = 11

-- 0 where there is no fault
abbrev pub fault_code : {A : Type 0} → Result A Fault → ℕ
fault_code (Ok x) = 0
fault_code (Err f) = fault_number f

abbrev pub refused : HexError → Refused
refused (Line f n) = record { number = fault_number f; value = Some n }
refused NoEnd = record { number = 12; value = None }

-- the faults by their numbers
with_number : ℕ → Fault
with_number k = get_or (fault.Form ∷ fault.Sum ∷ fault.Type ∷ fault.Order ∷ fault.Room ∷ []) (k - 7) fault.Form

back : (f : Fault) → with_number (fault_number f) ≡ f
unfolding with_number
back fault.Form = refl
back fault.Sum = refl
back fault.Type = refl
back fault.Order = refl
back fault.Room = refl

-- each fault has a number above 0
pub some_number : (f : Fault) → 0 < fault_number f
some_number fault.Form = omega arith
some_number fault.Sum = omega arith
some_number fault.Type = omega arith
some_number fault.Order = omega arith
some_number fault.Room = omega arith

-- the refusal determines the error
pub distinct : (d e : HexError) → (refused d).number ≡ (refused e).number → (refused d).value ≡ (refused e).value → d ≡ e
distinct (Line f m) (Line g n) p q =
    let x : f ≡ g = sym (back f) ∙ ap with_number p ∙ back g in
    let y : m ≡ n = cc in
    cc
distinct (Line f m) NoEnd p q = cc
distinct NoEnd (Line g n) p q = cc
distinct NoEnd NoEnd p q = refl

-- how many bytes were read
abbrev pub of_hex_read : Result ℕ HexError → Answer ℕ
of_hex_read = answer (λ n. n) refused
