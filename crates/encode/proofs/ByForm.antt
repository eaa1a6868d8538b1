-- The search and the words by the rows' forms.
use mathlib.Core.Path.{◌≡◌, sym, ap, ap₂, ◌∙◌, subst}
use mathlib.Core.Bool.{Bool, false}
use mathlib.Core.List.{List}
use Prim.Native.Nat.{ℕ, suc, ◌+◌, ◌<◌, ◌≤◌}
use native.Mathlib.Numerals.{add-one}
use lib.ListN.{length, get_or, drop}
use borrow.Author.Tests.{le-leb, lt-leb}
use Rattle.avr.specs.declared.Numbers.{Numbers}
use Rattle.manual.specs.Choice.{pick}
use Rattle.manual.specs.Answers.{no_such_record}
use Rattle.manual.specs.Encode.{leading, seat, word_for, extra_for}
use Rattle.manual.specs.Pattern.{symbols}
use Rattle.rows.specs.Columns.{target_code, value_of, row_at, form_at}
use Rattle.encode.specs.Search.{suit_list, form_suits, form_word, form_extra, at_row, seat_of}
use Rattle.encode.proofs.Suits.{Suits}
use Rattle.encode.proofs.Search.{suits-by-form, word-by-form, extra-by-form, suits-in}
use Rattle.encode.proofs.Leading.{leading-here, leading-next, leading_end}
use Rattle.encode.proofs.Starts.{suit-count}
use Rattle.encode.proofs.Seats.{seat-suits, word_lt, seat-extra-lt}

module _ (i : ℕ) (h : i < 103) (x : Numbers) where
  pub suits_by_form : (flag : Bool) → get_or (suit_list flag x) i false ≡ form_suits (form_at i) (target_code (row_at i).targets) flag x
  suits_by_form flag = suits-in i h x flag ∙ suits-by-form i h x flag

  pub word_is : form_word (form_at i) (value_of (symbols (row_at i).pattern)) x ≡ word_for (row_at i) x
  word_is = sym (word-by-form i h x)

  pub word_fits : form_word (form_at i) (value_of (symbols (row_at i).pattern)) x < 65536
  word_fits = subst (λ (k : ℕ). k < 65536) (sym word_is) (word_lt i h x)

  pub extra_is : form_extra (form_at i) x ≡ extra_for (row_at i) x
  extra_is = sym (extra-by-form i h x)

  pub extra_fits : (flag : Bool) → i ≡ seat flag x → form_extra (form_at i) x < 65536
  extra_fits flag e =
      let t : Suits (row_at i) flag x = subst (λ (k : ℕ). Suits (row_at k) flag x) (sym e) (seat-suits flag x (subst (λ (k : ℕ). k < 103) e h)) in
      subst (λ (k : ℕ). k < 65536) (sym extra_is) (seat-extra-lt i h x flag t)

module _ (flag : Bool) (x : Numbers) (i : ℕ) (e : i ≡ seat flag x) where
  pub nowhere : 103 ≤ i → no_such_record ≡ seat_of flag x
  unfolding seat_of
  nowhere h =
      let s = seat flag x in
      sym (ap (λ (v : Bool). pick v no_such_record (at_row s (word_for (row_at s) x) (extra_for (row_at s) x))) (le-leb 103 s (subst (λ (k : ℕ). 103 ≤ k) e h)))

  pub somewhere : i < 103 → (w v : ℕ) → w ≡ word_for (row_at i) x → v ≡ extra_for (row_at i) x → at_row i w v ≡ seat_of flag x
  unfolding seat_of
  somewhere h w v p q =
      let s = seat flag x in
      ap₂ (at_row i) p q
      ∙ ap (λ (k : ℕ). at_row k (word_for (row_at k) x) (extra_for (row_at k) x)) e
      ∙ sym (ap (λ (b : Bool). pick b no_such_record (at_row s (word_for (row_at s) x) (extra_for (row_at s) x))) (lt-leb 103 s (subst (λ (k : ℕ). k < 103) e h)))

pub ruleset by_form = (word_is, word_fits, extra_is, extra_fits, nowhere, somewhere)

-- ---- the search, a row at a time

pub leading_more : (bs : List Bool) (i : ℕ) → i < length bs → get_or bs i false ≡ false → leading (drop i bs) ≡ suc (leading (drop (i + 1) bs))
leading_more bs i h e = rw add-one (leading-next bs i h e)

pub ruleset seeking = (suits_by_form, leading-here, leading_more, leading_end, suit-count)
