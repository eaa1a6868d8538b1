-- Which of document 01's refusals the error of encoding is.
use Rattle.std.specs.Prelude.{◌≡◌, refl, None}
use Rattle.avr.specs.declared.Refused.{Refused}
use Rattle.encode.specs.declared.error.NoSuchRecord.{NoSuchRecord}

abbrev pub refused : NoSuchRecord → Refused
refused e = record { number = 4; value = None }

-- there is one such error
pub distinct : (d e : NoSuchRecord) → (refused d).number ≡ (refused e).number → (refused d).value ≡ (refused e).value → d ≡ e
distinct d e p q = refl
