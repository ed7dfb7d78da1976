-- What the solver's public call says. Assumes nothing.
--   Memory, lent           what the lent slices of table and counterstrategy hold
--   held                   the same, by the structs that are lent
--   replies, entries, rows how many entries of each kind it takes
--   sizes_for              the sizes of an arena
--   SetsFit, TableFit, WayFit, AllFit   the lent slices are long enough for sizes
--   Misfit                 which are the first that are not
--   Fits, Refused          the same for an arena
--   Solves                 what the slices hold after it
--   Call                   the call's outcome
--   outcome_of             who wins from a state
--   refusal_of             the number and the place of a refusal
use Rattle.std.specs.Prelude.{◌≡◌, ℕ, ◌+◌, ◌*◌, ◌<◌, ◌≤◌, cond, ◌&&◌, List, length, take, drop, Some, None, Ok, Err, Option, Result, nat_lt}
use Rattle.game.specs.Counterstrategy.{turns}
use Rattle.sets.specs.Arena.{arena_game}
use Rattle.sets.specs.Member.{member, room}
use Rattle.sets.specs.declared.arena.Arena.{Arena}
use Rattle.solver.specs.Reasons.{cell}
use Rattle.solver.specs.Sizes.{Sizes, sizes_from, TableFits, WayFits}
use Rattle.solver.specs.Solution.{Solution}
use Rattle.solver.specs.declared.memory.Outcome.{Outcome}
use Rattle.solver.specs.declared.memory.Outcome.TheVariants.{Won, Lost}
use Rattle.solver.specs.declared.memory.Short.{Short}
use Rattle.solver.specs.declared.memory.Short.TheVariants.{Sets, Tables, Way}
use Rattle.solver.specs.declared.memory.Table.{Table}
use Rattle.solver.specs.declared.memory.Way.{Way as CounterWay}

-- what the eight lent slices hold: those of the table, then those of the counterstrategy
pub record Memory : Type 0 where
  pub known : List ℕ
  pub answers : List ℕ
  pub ranks : List ℕ
  pub waits : List ℕ
  pub layers : List ℕ
  pub avoids : List ℕ
  pub moves : List ℕ
  pub turned : List ℕ

abbrev pub lent : List ℕ → List ℕ → List ℕ → List ℕ → List ℕ → List ℕ → List ℕ → List ℕ → Memory
lent known answers ranks waits layers avoids moves turned =
    record {
      known = known;
      answers = answers;
      ranks = ranks;
      waits = waits;
      layers = layers;
      avoids = avoids;
      moves = moves;
      turned = turned;
    }

-- what the lent structs hold
abbrev pub held : Table → CounterWay → Memory
held t w =
    lent t.known.now t.answers.now t.ranks.now t.waits.now w.layers.now w.avoids.now w.moves.now w.ranks.now

-- how many answers a table has; how many ranks, and promises waited for; how many moves, and ranks, a counterstrategy has
abbrev pub replies : Arena → ℕ
replies a = a.goal_count * (a.states * a.moves)

abbrev pub entries : Arena → ℕ
entries a = a.goal_count * a.states

abbrev pub rows : Arena → ℕ
rows a = turns a.promise_count * a.states

-- the sizes of an arena
abbrev pub sizes_for : Arena → Sizes
sizes_for a = sizes_from a.states a.moves a.answers a.goal_count (turns a.promise_count)

-- there is room for the five sets
abbrev pub SetsFit : Sizes → List ℕ → Type 0
SetsFit z sets = 5 * z.states ≤ length sets

-- there is room for the table
abbrev pub TableFit : Sizes → Memory → Type 0
TableFit z l = TableFits z (length l.known) (length l.answers) (length l.ranks) (length l.waits)

-- there is room for the counterstrategy
abbrev pub WayFit : Sizes → Memory → Type 0
WayFit z l = WayFits z (length l.layers) (length l.avoids) (length l.moves) (length l.turned)

-- there is room for all
abbrev pub AllFit : Sizes → List ℕ → Memory → Type 0
AllFit z sets l = SetsFit z sets × TableFit z l × WayFit z l

-- the first kind of slices that is too short
abbrev pub Misfit : Sizes → List ℕ → Memory → Short → Type 0
Misfit z sets l Sets = SetsFit z sets → ⊥
Misfit z sets l Tables = SetsFit z sets × (TableFit z l → ⊥)
Misfit z sets l Way = SetsFit z sets × TableFit z l × (WayFit z l → ⊥)

-- the lent slices are long enough for an arena; which are the first that are not
abbrev pub Fits : Arena → List ℕ → Memory → Type 0
Fits a sets l = AllFit (sizes_for a) sets l

abbrev pub Refused : Arena → List ℕ → Memory → Short → Type 0
Refused a sets l short = Misfit (sizes_for a) sets l short

-- the first entries hold table and counterstrategy; what goes beyond is as it was
pub record Solves (a : Arena) (l l' : Memory) : Type 0 where
  pub solution : Solution (arena_game a) a.states a.moves
      (take a.states l'.known) (take (replies a) l'.answers) (take (entries a) l'.ranks) (take (entries a) l'.waits)
      (take a.states l'.layers) (take a.states l'.avoids) (take (rows a) l'.moves) (take (rows a) l'.turned)
  pub beyond_table : (drop a.states l'.known ≡ drop a.states l.known) × (drop (replies a) l'.answers ≡ drop (replies a) l.answers)
      × (drop (entries a) l'.ranks ≡ drop (entries a) l.ranks) × (drop (entries a) l'.waits ≡ drop (entries a) l.waits)
  pub beyond_way : (drop a.states l'.layers ≡ drop a.states l.layers) × (drop a.states l'.avoids ≡ drop a.states l.avoids)
      × (drop (rows a) l'.moves ≡ drop (rows a) l.moves) × (drop (rows a) l'.turned ≡ drop (rows a) l.turned)

-- The call solves, in so many rounds, where all slices are long enough; else it refuses, and changes nothing.
abbrev pub Call : Arena → List ℕ → Memory → List ℕ → Memory → Result ℕ Short → Type 0
Call a sets l sets' l' (Ok rounds) =
    Fits a sets l × Solves a l l' × (0 < rounds) × (rounds ≤ a.states + 1)
Call a sets l sets' l' (Err short) = Refused a sets l short × (sets' ≡ sets) × (l' ≡ l)

-- who wins from s, if the slices have it: the controller where the table knows it, with the rounds; else the environment, with the layer
abbrev pub outcome_of : List ℕ → List ℕ → ℕ → ℕ → Option Outcome
outcome_of known layers rounds s =
    cond (nat_lt s (room known) && nat_lt s (length layers)) (Some (cond (member known s) (Won rounds) (Lost (cell layers s)))) None

-- the refusal's number, and its place: 0 for the sets, 1 for the table, 2 for the counterstrategy
abbrev pub refusal_of : Short → ℕ × ℕ
refusal_of Sets = (7, 0)
refusal_of Tables = (7, 1)
refusal_of Way = (7, 2)
