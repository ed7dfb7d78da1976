use Rattle.std.proofs.Common.{◌≡◌, get_or, refl, rules}
use Rattle.std.proofs.iter.runs.Sources.{ranges}
use Rattle.sets.proofs.Arenas.{answer_below}
use Rattle.sets.proofs.arena.Arena.forces.Goals as goal

pub returns : goal.returns
returns c = (
  λ e. search (rules, ranges),
  λ f.
      let in_range = answer_below c.args.self _ _ f.0 f.1 in
      -- what is known of a range is taken at a number that stands as an index
      let here : get_or c.args.cells.now f.0 0 ≡ get_or c.args.cells.now f.0 0 = refl in
      search (rules, ranges),
)
