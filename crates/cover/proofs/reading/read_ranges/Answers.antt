-- The map has no words before the list's are filled in.
use Rattle.std.proofs.Common.{◌≡◌, ℕ, length, replicate, ap, ◌∙◌, rules}
use Rattle.cover.proofs.Spans.{cleared}
use Rattle.cover.proofs.reading.read_ranges.Goals as goal

pub fill_all-requires : goal.fill_all-requires
fill_all-requires c =
    let m = c.in-Some.ensures.cases in
    let n : length c.in-Some.map.now ≡ 8192 = rw m.same m.long in
    (search rules, cleared _ (c.fill.ensures.after (λ y e. e) ∙ ap (λ (n : ℕ). replicate n 0) n))
