use Rattle.std.proofs.Common.{ℕ, ◌<◌, get_or}
use Rattle.formula.specs.Values.{Spread}
use Rattle.game.specs.Content.{content}
use Rattle.game.specs.Meaning.{game_of}
use Rattle.sets.specs.Tabulate.{allowed_at}
use Rattle.sets.proofs.tabulate.tabulate_allowed.Given as goal

abbrev pub invariant-loop-k : goal.invariant-loop-k
invariant-loop-k l = (k : ℕ) → k < l.k → Spread (get_or l.allowed k 0) (allowed_at (game_of (content l.rules)) l.moves l.legal k)
