use Rattle.std.proofs.Common.{◌≡◌, ℕ, ◌+◌, ◌*◌, ◌<◌, get_or}
use Rattle.game.specs.Content.{content}
use Rattle.game.specs.Meaning.{game_of}
use Rattle.sets.specs.Tabulate.{next_at}
use Rattle.sets.proofs.tabulate.tabulate_next.Given as goal

abbrev pub invariant-loop-k : goal.invariant-loop-k
invariant-loop-k l =
    (k : ℕ) → k < l.k → (a : ℕ) → a < l.answers →
    get_or l.next (k * l.answers + a) 0 ≡ next_at (game_of (content l.rules)) l.moves l.allowed k a
