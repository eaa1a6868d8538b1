-- Which of document 01's refusals each error of decoding is.
use Rattle.std.specs.Prelude.{◌≡◌, Some}
use Rattle.avr.specs.declared.Refused.{Refused}
use Rattle.decode.specs.declared.error.DecodeError.{DecodeError}
use Rattle.decode.specs.declared.error.DecodeError.TheVariants.{InvalidOpcode, Short}

abbrev pub refused : DecodeError → Refused
refused (InvalidOpcode w) = record { number = 1; value = Some w }
refused (Short n) = record { number = 2; value = Some n }

-- the refusal determines the error
pub distinct : (d e : DecodeError) → (refused d).number ≡ (refused e).number → (refused d).value ≡ (refused e).value → d ≡ e
distinct (InvalidOpcode v) (InvalidOpcode w) p q = cc
distinct (InvalidOpcode v) (Short n) p q = cc
distinct (Short m) (InvalidOpcode w) p q = cc
distinct (Short m) (Short n) p q = cc
