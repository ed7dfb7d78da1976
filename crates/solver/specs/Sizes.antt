-- How much memory the rules of a game ask for. Assumes nothing.
--   Sizes                  how many states, moves, answers, goals, and promises gone for in turn
--   sizes_of, sizes_from   those of rules, and from five numbers
--   reply_count, entry_count, row_count   how many entries the slices of table and counterstrategy have
--   GameFits, TableFits, WayFits   slices of these lengths are long enough
use Rattle.std.specs.Prelude.{ℕ, ◌*◌, ◌^◌, ◌≤◌, length}
use Rattle.game.specs.Content.{Content}
use Rattle.game.specs.Counterstrategy.{turns}

-- how many states, moves, answers and goals there are, and how many promises are gone for in turn
pub record Sizes : Type 0 where
  pub states : ℕ
  pub moves : ℕ
  pub answers : ℕ
  pub goals : ℕ
  pub turned : ℕ

abbrev pub sizes_of : Content → Sizes
sizes_of c =
    record {
      states = 2 ^ c.state;
      moves = 2 ^ c.moves;
      answers = 2 ^ c.answer;
      goals = length c.goals;
      turned = turns (length c.promises);
    }

abbrev pub sizes_from : ℕ → ℕ → ℕ → ℕ → ℕ → Sizes
sizes_from states moves answers goals turned =
    record { states = states; moves = moves; answers = answers; goals = goals; turned = turned }

-- how many answers a table has; how many ranks, and promises waited for; how many moves, and ranks, a counterstrategy has
abbrev pub reply_count : Sizes → ℕ
reply_count z = z.goals * (z.states * z.moves)

abbrev pub entry_count : Sizes → ℕ
entry_count z = z.goals * z.states

abbrev pub row_count : Sizes → ℕ
row_count z = z.turned * z.states

-- there is room for the tabulated game and the sets
abbrev pub GameFits : Sizes → ℕ → ℕ → ℕ → ℕ → ℕ → ℕ → Type 0
GameFits z legal allowed next promises goals sets =
    (z.states ≤ legal) × (z.states * z.moves ≤ allowed) × (z.states * z.moves * z.answers ≤ next)
    × (z.states ≤ promises) × (z.states ≤ goals) × (5 * z.states ≤ sets)

-- there is room for the table
abbrev pub TableFits : Sizes → ℕ → ℕ → ℕ → ℕ → Type 0
TableFits z known answers ranks waits =
    (z.states ≤ known) × (reply_count z ≤ answers) × (entry_count z ≤ ranks) × (entry_count z ≤ waits)

-- there is room for the counterstrategy
abbrev pub WayFits : Sizes → ℕ → ℕ → ℕ → ℕ → Type 0
WayFits z layers avoids moves turned =
    (z.states ≤ layers) × (z.states ≤ avoids) × (row_count z ≤ moves) × (row_count z ≤ turned)
