-- The sizes that the code's `Needs` stands for. Assumes nothing.
--   asked   the sizes
use Rattle.solver.specs.Sizes.{Sizes, sizes_from}
use Rattle.solver.specs.declared.needs.Needs.{Needs}

-- how many states, moves, answers and goals are asked for, and how many promises are gone for in turn
abbrev pub asked : Needs → Sizes
asked n = sizes_from n.states n.moves n.answers n.goals n.turns
