-- The lines that are left of a text, and kinds of lines, for the contracts of the two passes.
use Rattle.std.specs.Prelude.{ℕ, ◌<◌, ◌≡◌, List, [], ◌∷◌, eqb, length, Option, MatchOption}
use Rattle.manual.specs.Choice.{pick}
use Rattle.manual.specs.Answers.{Answer, gives, refuses}
use Rattle.ihex.specs.Hex.{lines}
use Rattle.ihex.specs.declared.line.Kind.{Kind}
use Rattle.ihex.specs.declared.line.Kind.TheVariants as kind
use Rattle.ihex.specs.declared.lines.HexLine.{HexLine}
use Rattle.ihex.specs.declared.lines.HexLines.{HexLines}

-- one CR at the end is dropped
abbrev pub trimmed : List ℕ → List ℕ
trimmed [] = []
trimmed (b ∷ []) = pick (eqb b 13) [] (b ∷ [])
trimmed (b ∷ c ∷ cs) = b ∷ trimmed (c ∷ cs)

-- what was left is no line, or a line and the lines that are left behind it
abbrev pub YieldsLine : HexLines → Option HexLine → HexLines → Type 0
YieldsLine s r t =
    MatchOption r ((lines s.left.now ≡ []) × (lines t.left.now ≡ []))
    (λ l. (lines s.left.now ≡ l.bytes.now ∷ lines t.left.now) × (l.is_last ≡ eqb (length (lines t.left.now)) 0))

-- the kind that a line's type is
abbrev pub IsKind : Kind → ℕ → Type 0
IsKind kind.Data t = t ≡ 0
IsKind kind.End t = t ≡ 1
IsKind kind.Other t = 1 < t

-- the bytes that are given, and none where there is a refusal
abbrev pub given_by : Answer (List ℕ) → List ℕ
given_by (gives bs) = bs
given_by (refuses k vs) = []
