-- The value of a refusal is small, so that it stands beside its number in one number of 64 bits.
use mathlib.Core.Path.{◌≡◌, sym, ap, ◌∙◌}
use mathlib.Core.Bool.{Bool}
use mathlib.Core.List.{List}
use Prim.Native.Nat.{ℕ, ◌≤◌, ◌<◌, ◌^◌}
use native.Mathlib.Omega.{arith}
use lib.ListN.{length, get_or}
use Rattle.std.specs.Prelude.{Result, Err, unwrap_or}
use Rattle.std.specs.Result.{ForErr}
use Rattle.manual.specs.Lists.{lists}
use Rattle.listing.specs.declared.error.ListError.{ListError}
use Rattle.listing.specs.declared.error.ListError.TheVariants as list_error
use Rattle.listing.specs.ListError as listed
use Rattle.stack.specs.declared.error.StackError.{StackError}
use Rattle.stack.specs.declared.error.StackError.TheVariants as stack_error
use Rattle.stack.specs.StackError as measured
use Rattle.stack.specs.Stack.{measures}
use Rattle.stack.proofs.Small.{answer-small}
use Rattle.ihex.specs.declared.error.HexWriteError.{HexWriteError}
use Rattle.ihex.specs.declared.error.HexWriteError.TheVariants as write_error
use Rattle.ihex.specs.HexWriteError as hex_written
use Rattle.ihex.specs.HexText.{writes}
use Rattle.ihex.proofs.Lengths as lengths
use Rattle.ihex.specs.declared.error.HexError.{HexError}
use Rattle.ihex.specs.declared.error.HexError.TheVariants as hex_error
use Rattle.ihex.specs.HexError as hex_read
use Rattle.ihex.specs.Hex.{reads, size_of}
use Rattle.ihex.proofs.Small.{number_small}
use Rattle.replay.specs.declared.error.ReplayError.{ReplayError}
use Rattle.replay.specs.declared.error.ReplayError.TheVariants as replay_error
use Rattle.replay.specs.ReplayError as replayed
use Rattle.replay.specs.Answers.{of_replayed}
use Rattle.replay.specs.Trace.{replays}
use Rattle.replay.proofs.Small.{number_in, replay-within}
use Rattle.manual.specs.Answers.{Answer}
use Rattle.manual.specs.Text.{text_of}
use Rattle.manual.specs.Decode.{row_instruction}
use Rattle.manual.specs.Room.{written}
use Rattle.rows.specs.Columns.{row_at}
use Rattle.decode.specs.declared.found.Found.{Found}
use Rattle.put.specs.declared.error.NoRoom.{NoRoom}
use Rattle.put.specs.NoRoom as no_room
use Rattle.put.proofs.Fit.{asks_length}
use Rattle.text.proofs.Longest.{row-length}
use Rattle.pirukames.proofs.Coded.{asks-little}

pub measured_small : (flag : Bool) (image : List ℕ) (entry : ℕ) → entry < 4294967296 → (r : Result ℕ StackError)
    → measured.of_measured r ≡ measures flag image entry → ForErr r (λ e. unwrap_or (measured.refused e).value 0 < 2 ^ 63)
measured_small flag image entry f r h = λ e p. go e (ap measured.of_measured (sym p) ∙ h)
  where
    go : (e : StackError) → measured.of_measured (Err e) ≡ measures flag image entry → unwrap_or (measured.refused e).value 0 < 2 ^ 63
    go stack_error.TooLong q = omega arith
    go (stack_error.Refused w at) q =
        let s = answer-small flag image entry 4294967295 (omega arith) (omega arith) in
        let h : at ≤ 4294967295 = rw (sym q) at s in
        omega arith

pub written_small : (image buffer : List ℕ) (r : Result ℕ HexWriteError)
    → hex_written.of_hex_written r ≡ writes image buffer → ForErr r (λ e. unwrap_or (hex_written.refused e).value 0 < 2 ^ 63)
written_small image buffer r h = λ e p. go e (ap hex_written.of_hex_written (sym p) ∙ h)
  where
    go : (e : HexWriteError) → hex_written.of_hex_written (Err e) ≡ writes image buffer → unwrap_or (hex_written.refused e).value 0 < 2 ^ 63
    go write_error.TooLong q = omega arith
    go (write_error.NoRoom n) q = omega (arith, lengths.asks-little image buffer n q)

pub listed_small : (flag : Bool) (image buffer : List ℕ) → ((k : ℕ) → get_or image k 0 < 256) → (r : Result ℕ ListError)
    → listed.of_listed r ≡ lists flag image buffer → ForErr r (λ e. unwrap_or (listed.refused e).value 0 < 2 ^ 63)
listed_small flag image buffer k r h = λ e p. go e (ap listed.of_listed (sym p) ∙ h)
  where
    go : (e : ListError) → listed.of_listed (Err e) ≡ lists flag image buffer → unwrap_or (listed.refused e).value 0 < 2 ^ 63
    go list_error.TooLong q = omega arith
    go (list_error.NoRoom n) q = omega (arith, asks-little flag image buffer n k q)

pub read_small : (room : ℕ) (text : List ℕ) (r : Result ℕ HexError)
    → hex_read.of_hex_read r ≡ size_of (reads room text) → ForErr r (λ e. unwrap_or (hex_read.refused e).value 0 < 2 ^ 63)
read_small room text r h = λ e p. go e (ap hex_read.of_hex_read (sym p) ∙ h)
  where
    go : (e : HexError) → hex_read.of_hex_read (Err e) ≡ size_of (reads room text) → unwrap_or (hex_read.refused e).value 0 < 2 ^ 63
    go (hex_error.Line f n) q = omega (arith, number_small room text _ n q)
    go hex_error.NoEnd q = omega arith

pub text_small : (f : Found) → f.extra < 65536 → (buffer : List ℕ) (r : Result ℕ NoRoom)
    → no_room.of_filled r ≡ written (text_of (row_instruction (row_at f.row) f.word f.extra)) buffer
    → ForErr r (λ e. unwrap_or (no_room.refused e).value 0 < 2 ^ 63)
text_small f x buffer r h = λ e p.
    let n = asks_length _ _ e.needed (ap no_room.of_filled (sym p) ∙ h) in
    let small : e.needed < 2 ^ 63 = omega (arith, row-length f.row f.in_table f.word f.extra x) in
    small

pub replayed_small : (image trace : List ℕ) → length trace < 2 ^ 63 → (r : Result ℕ ReplayError)
    → of_replayed r ≡ replays image trace → ForErr r (λ e. unwrap_or (replayed.refused e).value 0 < 2 ^ 63)
replayed_small image trace l r h = λ e p. go e (ap of_replayed (sym p) ∙ h)
  where
    within : (a : Answer ℕ) → a ≡ replays image trace → number_in a ≤ length trace
    within a q = rw q (replay-within image trace)

    go : (e : ReplayError) → of_replayed (Err e) ≡ replays image trace → unwrap_or (replayed.refused e).value 0 < 2 ^ 63
    go (replay_error.BadFrame m) q = omega (arith, within _ q)
    go (replay_error.Differs m) q = omega (arith, within _ q)
    go (replay_error.Stopped w m) q = omega (arith, within _ q)
