-- What the solver's call on a rules file says. Assumes nothing.
--   Lent, all_lent         what all lent slices hold
--   AllFits, Lacks         all are long enough; which is the first kind that is not
--   refused_lent           the refusal of slices that are too short
--   plan_in, way_in        the table and the counterstrategy that lent slices hold
--   Known, Winnable        the table knows a state; some controller wins from it
--   Zeros                  what table and counterstrategy do not use is 0
--   Beyond                 what goes beyond the entries of the sizes is as it was
--   SolvesRules            what the lent slices hold after it
--   Refuses                why a call is refused
--   RulesCall              the call's outcome
use Rattle.std.specs.Prelude.{◌≡◌, ℕ, ◌+◌, ◌*◌, ◌^◌, ◌<◌, ◌≤◌, true, ◌⊎◌, List, [], length, take, drop, Ok, Err, Result, ◌≢◌}
use Rattle.game.specs.Content.{Content}
use Rattle.game.specs.Counterstrategy.{Counterstrategy, CounterHolds}
use Rattle.game.specs.Game.{Game}
use Rattle.game.specs.Meaning.{game_of}
use Rattle.game.specs.Plan.{Plan, PlanHolds}
use Rattle.game.specs.Play.{Controller, Winning}
use Rattle.game.specs.Reading.{part, refused, rules_in}
use Rattle.game.specs.declared.refusal.Refusal.{Refusal}
use Rattle.game.specs.declared.refusal.Refusal.TheVariants.{Lent as LentShort}
use Rattle.sets.specs.Member.{member}
use Rattle.solver.specs.Call.{Memory, TableFit, WayFit}
use Rattle.solver.specs.Sizes.{Sizes, sizes_of, reply_count, entry_count, row_count, GameFits}
use Rattle.solver.specs.Solution.{Unused, table, way}
use Rattle.solver.specs.declared.memory.Short.{Short}
use Rattle.solver.specs.declared.memory.Short.TheVariants.{Sets, Tables, Way}

-- what the lent slices hold: those of the tabulated game, the sets, and those of table and counterstrategy
pub record Lent : Type 0 where
  pub legal : List ℕ
  pub allowed : List ℕ
  pub next : List ℕ
  pub promises : List ℕ
  pub goals : List ℕ
  pub sets : List ℕ
  pub answer : Memory

-- the lent slices, one by one
abbrev pub all_lent : List ℕ → List ℕ → List ℕ → List ℕ → List ℕ → List ℕ → Memory → Lent
all_lent legal allowed next promises goals sets answer =
    record { legal = legal; allowed = allowed; next = next; promises = promises; goals = goals; sets = sets; answer = answer }

-- the same of the lent slices
abbrev pub GameFit : Sizes → Lent → Type 0
GameFit z l =
    GameFits z (length l.legal) (length l.allowed) (length l.next) (length l.promises) (length l.goals) (length l.sets)

-- all lent slices are long enough
abbrev pub AllFits : Sizes → Lent → Type 0
AllFits z l = GameFit z l × TableFit z l.answer × WayFit z l.answer

-- the first kind of slices that is too short
abbrev pub Lacks : Sizes → Lent → Short → Type 0
Lacks z l Sets = GameFit z l → ⊥
Lacks z l Tables = GameFit z l × (TableFit z l.answer → ⊥)
Lacks z l Way = GameFit z l × TableFit z l.answer × (WayFit z l.answer → ⊥)

-- the refusal, with its place: 0 for the memory of the tabulated game and the sets, 1 for the table's, 2 for the counterstrategy's
abbrev pub refused_lent : Short → Refusal
refused_lent Sets = LentShort 0
refused_lent Tables = LentShort 1
refused_lent Way = LentShort 2

-- the table and the counterstrategy that the first entries of the slices hold
abbrev pub plan_in : Sizes → Memory → Plan
plan_in z m =
    table z.states z.moves (take z.states m.known) (take (reply_count z) m.answers) (take (entry_count z) m.ranks)
    (take (entry_count z) m.waits)

abbrev pub way_in : Sizes → Memory → Counterstrategy
way_in z m =
    way z.states (take z.states m.known) (take z.states m.layers) (take z.states m.avoids) (take (row_count z) m.moves)
    (take (row_count z) m.turned)

-- the table knows the state s; some controller wins from it
abbrev pub Known : Sizes → Memory → ℕ → Type 0
Known z m s = member (take z.states m.known) s ≡ true

abbrev pub Winnable : Content → ℕ → Type 0
Winnable c s = (k : Controller) × Winning (game_of c) k s

-- what the rows of table and counterstrategy do not use is 0
abbrev pub ZerosAt : Game → Sizes → Memory → Type 0
ZerosAt g z m =
    Unused g z.states z.moves (take z.states m.known) (take (reply_count z) m.answers) (take (entry_count z) m.ranks)
    (take (entry_count z) m.waits) (take z.states m.layers) (take z.states m.avoids) (take (row_count z) m.moves)
    (take (row_count z) m.turned)

abbrev pub Zeros : Content → Memory → Type 0
Zeros c m = ZerosAt (game_of c) (sizes_of c) m

-- what goes beyond the entries of the sizes is as it was
pub record Beyond (z : Sizes) (l l' : Lent) : Type 0 where
  pub legal : drop z.states l'.legal ≡ drop z.states l.legal
  pub allowed : drop (z.states * z.moves) l'.allowed ≡ drop (z.states * z.moves) l.allowed
  pub next : drop (z.states * z.moves * z.answers) l'.next ≡ drop (z.states * z.moves * z.answers) l.next
  pub promises : drop z.states l'.promises ≡ drop z.states l.promises
  pub goals : drop z.states l'.goals ≡ drop z.states l.goals
  pub known : drop z.states l'.answer.known ≡ drop z.states l.answer.known
  pub answers : drop (reply_count z) l'.answer.answers ≡ drop (reply_count z) l.answer.answers
  pub ranks : drop (entry_count z) l'.answer.ranks ≡ drop (entry_count z) l.answer.ranks
  pub waits : drop (entry_count z) l'.answer.waits ≡ drop (entry_count z) l.answer.waits
  pub layers : drop z.states l'.answer.layers ≡ drop z.states l.answer.layers
  pub avoids : drop z.states l'.answer.avoids ≡ drop z.states l.answer.avoids
  pub moves : drop (row_count z) l'.answer.moves ≡ drop (row_count z) l.answer.moves
  pub turned : drop (row_count z) l'.answer.turned ≡ drop (row_count z) l.answer.turned

-- The slices were long enough. The table that they hold holds together in the game of the rules, and so does the
-- counterstrategy; each state is known by the one or the other, and never by both; the table knows exactly the states
-- from which some controller wins. What they do not use is 0, and what goes beyond them is as it was.
pub record SolvesRules (c : Content) (l l' : Lent) (rounds : ℕ) : Type 0 where
  pub fits : AllFits (sizes_of c) l
  pub plan_holds : PlanHolds (game_of c) (plan_in (sizes_of c) l'.answer)
  pub counter_holds : CounterHolds (game_of c) (way_in (sizes_of c) l'.answer)
  pub either : (s : ℕ) → s < 2 ^ c.state →
      ((plan_in (sizes_of c) l'.answer).known 0 s ≡ true) ⊎ ((way_in (sizes_of c) l'.answer).known s ≡ true)
  pub never_both : (s : ℕ) → (plan_in (sizes_of c) l'.answer).known 0 s ≡ true → (way_in (sizes_of c) l'.answer).known s ≢ true
  pub winnable : (s : ℕ) → s < 2 ^ c.state → Known (sizes_of c) l'.answer s → Winnable c s
  pub exactly : (s : ℕ) → s < 2 ^ c.state → Winnable c s → Known (sizes_of c) l'.answer s
  pub zeros : Zeros c l'.answer
  pub some_round : 0 < rounds
  pub most_rounds : rounds ≤ 2 ^ c.state + 1
  pub beyond : Beyond (sizes_of c) l l'

-- The file is refused; or it holds rules, and slices are too short for them.
abbrev pub Refuses : List ℕ → Lent → Refusal → Type 0
Refuses file l e =
    (rules_in file ≡ refused e)
    ⊎ ((c : Content) × (rules_in file ≡ part c []) × (short : Short) × Lacks (sizes_of c) l short × (e ≡ refused_lent short))

-- The call solves the game of the rules that the file holds, in so many rounds; else it refuses, and changes nothing.
abbrev pub RulesCall : List ℕ → Lent → Lent → Result ℕ Refusal → Type 0
RulesCall file l l' (Ok rounds) = (c : Content) × (rules_in file ≡ part c []) × SolvesRules c l l' rounds
RulesCall file l l' (Err e) = Refuses file l e × (l' ≡ l)
