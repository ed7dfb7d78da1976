-- The answers and the moves, of what the code chooses them by: going for one goal, and for one promise. Assumes nothing.
--   FallsTo, FineTo        the rank falls from a state to the next; the table may go there
--   Suits                  an answer that is allowed and leads there
--   AnswerFor, AnswersFor  the answer to a move; the answers to every move in every state
--   RisingTo, OpenTo       a step goes onward; the counterstrategy may be brought there
--   LeadsOn, LeadsOff      an answer, if it is allowed, leads there; it is allowed and does not
--   ChosenFor, Unchosen    a legal move to which all answers lead on; if it is legal, one leads off
--   MoveFor, MovesFor      the move in a state; the moves of every state
use Rattle.std.specs.Prelude.{◌≡◌, ℕ, true, List}
use Rattle.sets.specs.Arena.{arena_game}
use Rattle.sets.specs.Member.{member}
use Rattle.sets.specs.Step.{Forced}
use Rattle.solver.specs.Choice.{Answer, Cells, Chosen, Move, Open, Rising, Rows}
use Rattle.solver.specs.Reasons.{Falls, Fine, cell}
use Rattle.solver.specs.declared.answers.ForGoal.{ForGoal}
use Rattle.solver.specs.declared.moves.ForPromise.{ForPromise}

-- from s to t the rank falls, or the same promise is waited for and does not hold in s
abbrev pub FallsTo : ForGoal → ℕ → ℕ → Type 0
FallsTo f s t = Falls (arena_game f.arena) (cell f.ranks.now) (cell f.waits.now) s t

-- the table may go from s to t
abbrev pub FineTo : ForGoal → ℕ → ℕ → Type 0
FineTo f s t = Fine (arena_game f.arena) (member f.zone.now) f.goal (member f.zone.now) (cell f.ranks.now) (cell f.waits.now) s t

-- the answer a to the move e in s is allowed, and leads to where the table may go
abbrev pub Suits : ForGoal → ℕ → ℕ → ℕ → Type 0
Suits f s e a = ((arena_game f.arena).allowed s e a ≡ true) × FineTo f s ((arena_game f.arena).after s e a)

-- v is the answer to the move e in s
abbrev pub AnswerFor : ForGoal → ℕ → ℕ → ℕ → Type 0
AnswerFor f s e v = Answer (arena_game f.arena) (member f.zone.now) f.goal (cell f.ranks.now) (cell f.waits.now) s e v

-- the answers to every move in every state
abbrev pub AnswersFor : ForGoal → List ℕ → Type 0
AnswersFor f answers = Rows (AnswerFor f) f.arena.states f.arena.moves answers

-- the step from s to t goes onward
abbrev pub RisingTo : ForPromise → ℕ → ℕ → Type 0
RisingTo f s t = Rising (arena_game f.arena) (cell f.turns.now) f.promise s t

-- the counterstrategy may be brought from s to t
abbrev pub OpenTo : ForPromise → ℕ → ℕ → Type 0
OpenTo f s t =
    Open (arena_game f.arena) (member f.zone.now) (cell f.layers.now) (cell f.avoids.now) (cell f.turns.now) f.promise s t

-- the answer a to the move e in s, if it is allowed, leads to where the counterstrategy may be brought
abbrev pub LeadsOn : ForPromise → ℕ → ℕ → ℕ → Type 0
LeadsOn f s e a = (arena_game f.arena).allowed s e a ≡ true → OpenTo f s ((arena_game f.arena).after s e a)

-- the answer a to the move e in s is allowed, and does not lead there
abbrev pub LeadsOff : ForPromise → ℕ → ℕ → ℕ → Type 0
LeadsOff f s e a = ((arena_game f.arena).allowed s e a ≡ true) × (OpenTo f s ((arena_game f.arena).after s e a) → ⊥)

-- e is a legal move in s, and every allowed answer to it leads on
abbrev pub ChosenFor : ForPromise → ℕ → ℕ → Type 0
ChosenFor f s e =
    Chosen (arena_game f.arena) (member f.zone.now) (cell f.layers.now) (cell f.avoids.now) (cell f.turns.now) f.promise s e

-- the move e in s, if it is legal, has an allowed answer that leads off
abbrev pub Unchosen : ForPromise → ℕ → ℕ → Type 0
Unchosen f s e = (arena_game f.arena).moves s e ≡ true → Forced (arena_game f.arena) (λ t. OpenTo f s t → ⊥) s e

-- v is the move in s
abbrev pub MoveFor : ForPromise → ℕ → ℕ → Type 0
MoveFor f s v =
    Move (arena_game f.arena) (member f.zone.now) (cell f.layers.now) (cell f.avoids.now) (cell f.turns.now) f.promise s v

-- the moves of every state
abbrev pub MovesFor : ForPromise → List ℕ → Type 0
MovesFor f moves = Cells (MoveFor f) f.arena.states moves
