-- Two Results that say the same are equal, where the values are told apart and so are the errors.
use mathlib.Core.Path.{◌≡◌, refl}
use mathlib.Core.List.{List}
use Prim.Native.Nat.{ℕ}
use Rattle.std.specs.Prelude.{Result, Ok, Err, Option, Some, None, option_to_list}
use Rattle.avr.specs.declared.Refused.{Refused}
use Rattle.manual.specs.Answers.{answer, gives, refuses}

one_value_of : (x y : Option ℕ) → option_to_list x ≡ option_to_list y → x ≡ y
one_value_of (Some x) (Some y) p = cc
one_value_of (Some x) None p = cc
one_value_of None (Some y) p = cc
one_value_of None None p = refl

module _ {A B E : Type 0} (f : A → B) (refused : E → Refused) (one_value : (x y : A) → f x ≡ f y → x ≡ y)
    (distinct : (d e : E) → (refused d).number ≡ (refused e).number → (refused d).value ≡ (refused e).value → d ≡ e) where
  pub one_result : (r s : Result A E) → answer f refused r ≡ answer f refused s → r ≡ s
  one_result (Ok x) (Ok y) p = let e : f x ≡ f y = cc in let q : x ≡ y = one_value x y e in cc
  one_result (Ok x) (Err e) p = cc
  one_result (Err d) (Ok y) p = cc
  one_result (Err d) (Err e) p =
      let k : (refused d).number ≡ (refused e).number = cc in
      let v : option_to_list (refused d).value ≡ option_to_list (refused e).value = cc in
      let q : d ≡ e = distinct d e k (one_value_of _ _ v) in
      cc
