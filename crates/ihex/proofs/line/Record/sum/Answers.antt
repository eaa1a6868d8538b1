-- The bytes that are spelt behind the colon, summed.
use Rattle.std.proofs.Common.{◌∙◌, List, ℕ, length, ap, arith, length-drop}
use Rattle.manual.specs.Spelt.{bytes_spelt}
use Rattle.cut.proofs.Parts.{rest_all}
use Rattle.put.proofs.Fit.{at-start}
use Rattle.ihex.specs.Hex.{bytes_of, total}
use Rattle.ihex.proofs.Formed.{tail-digits, spelt_long, spelt_within, spelt_all}
use Rattle.ihex.proofs.line.Record.sum.Goals as goal

pub put_spelt-n-requires : goal.put_spelt-n-requires
put_spelt-n-requires c =
    let l = c.args.self.line.now in
    let t = ap (λ (s : List ℕ). length s) (rest_all 1 l) in
    let d = length-drop 1 l in
    (omega (arith, spelt_long l c.args.self.spelt, spelt_within l c.args.self.spelt), tail-digits l ∙ spelt_all l c.args.self.spelt)

pub returns : goal.returns
unfolding bytes_of
returns c = c.sum.ensures.0 ∙ ap total (at-start c.put_spelt-n.ensures ∙ ap bytes_spelt (rest_all 1 c.args.self.line.now))
