-- Which of document 01's refusals the error of reading a frame is, and what reading says.
use Rattle.std.specs.Prelude.{◌≡◌, refl, ℕ, Bool, None, Result}
use Rattle.avr.specs.declared.Refused.{Refused}
use Rattle.manual.specs.Answers.{Answer, answer}
use Rattle.frame.specs.declared.Frame.{Frame}
use Rattle.frame.specs.declared.error.BadFrame.{BadFrame}

abbrev pub refused : BadFrame → Refused
refused e = record { number = 6; value = None }

-- there is one such error
pub distinct : (d e : BadFrame) → (refused d).number ≡ (refused e).number → (refused d).value ≡ (refused e).value → d ≡ e
distinct d e p q = refl

-- a frame's flag, and how many bytes its image has
abbrev pub of_framed : Result Frame BadFrame → Answer (Bool × ℕ)
of_framed = answer (λ f. (f.flag, f.length)) refused
