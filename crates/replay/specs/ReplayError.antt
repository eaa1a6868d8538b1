-- Which refusal each error of a replay is: 6 with the number of the line that is no frame, 20 with that of the frame that differs from what
-- the frame before it steps to, 21 to 24 with that of the frame whose step is refused.
use Rattle.std.proofs.Common.{arith}
use Rattle.std.specs.Prelude.{◌≡◌, ◌<◌, Some}
use Rattle.avr.specs.declared.Refused.{Refused}
use Rattle.step.specs.declared.error.StepError.{StepError}
use Rattle.step.specs.declared.error.StepError.TheVariants as step_error
use Rattle.step.specs.StepError.{number_of, one_number}
use Rattle.replay.specs.declared.error.ReplayError.{ReplayError}
use Rattle.replay.specs.declared.error.ReplayError.TheVariants.{BadFrame, Differs, Stopped}

abbrev pub refused : ReplayError → Refused
refused (BadFrame m) = record { number = 6; value = Some m }
refused (Differs m) = record { number = 20; value = Some m }
refused (Stopped e k) = record { number = number_of e; value = Some k }

past : (e : StepError) → 20 < number_of e
past step_error.Offset = omega arith
past step_error.NotDecoded = omega arith
past step_error.NotListed = omega arith
past step_error.NextOutside = omega arith

-- the refusal determines the error
pub distinct : (d e : ReplayError) → (refused d).number ≡ (refused e).number → (refused d).value ≡ (refused e).value → d ≡ e
distinct (BadFrame m) (BadFrame n) p q = cc
distinct (BadFrame m) (Differs n) p q = cc
distinct (BadFrame m) (Stopped e k) p q = absurd (let l = past e in omega arith)
distinct (Differs m) (BadFrame n) p q = cc
distinct (Differs m) (Differs n) p q = cc
distinct (Differs m) (Stopped e k) p q = absurd (let l = past e in omega arith)
distinct (Stopped d j) (BadFrame n) p q = absurd (let l = past d in omega arith)
distinct (Stopped d j) (Differs n) p q = absurd (let l = past d in omega arith)
distinct (Stopped d j) (Stopped e k) p q = let x : d ≡ e = one_number d e p in let y : j ≡ k = cc in cc
