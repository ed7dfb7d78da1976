-- What a log says of a play, and its bytes. Assumes nothing.
--   Step, Record  a move and its answer; the start of a play, and its steps
--   paired        the steps of a row of moves and a row of answers
--   spelled, bytes_of  the bytes of steps, and of a log
--   steps_in, record_of  what bytes, and a log in memory, say
--   misshapen     bytes are no log's
--   Reads         the outcome of reading a log
use Rattle.std.specs.Prelude.{◌≡◌, ℕ, ◌/◌, ◌%◌, Bool, true, false, ◌||◌, List, [], ◌∷◌, length, Ok, Err, Result, ◌==◌, nat_lt}
use Rattle.game.specs.declared.refusal.Refusal.{Refusal}
use Rattle.game.specs.declared.refusal.Refusal.TheVariants.{CutOff}
use Rattle.play.specs.declared.log.Log.{Log}

-- a move, and the answer to it
pub record Step : Type 0 where
  pub moved : ℕ
  pub answer : ℕ

-- the state that a play begins in, and its steps, the first one first
pub record Record : Type 0 where
  pub start : ℕ
  pub steps : List Step

-- the steps of moves and their answers, as long as there are both
abbrev pub paired : List ℕ → List ℕ → List Step
paired [] answers = []
paired (e ∷ moves) [] = []
paired (e ∷ moves) (a ∷ answers) = record { moved = e; answer = a } ∷ paired moves answers

-- a move's byte and its answer's byte for each step
abbrev pub spelled : List Step → List ℕ
spelled [] = []
spelled (x ∷ steps) = x.moved ∷ x.answer ∷ spelled steps

-- the start's two bytes, the low one first, and the steps
abbrev pub bytes_of : Record → List ℕ
bytes_of r = r.start % 256 ∷ r.start / 256 ∷ spelled r.steps

-- the steps that bytes spell; a last byte without its other is left out
abbrev pub steps_in : List ℕ → List Step
steps_in [] = []
steps_in (e ∷ []) = []
steps_in (e ∷ a ∷ bs) = record { moved = e; answer = a } ∷ steps_in bs

-- what a log in memory says
abbrev pub record_of : Log → Record
record_of l = record { start = l.start; steps = steps_in l.steps.now }

-- bytes without a start, or with half a step
abbrev pub misshapen : List ℕ → Bool
misshapen bs = nat_lt (length bs) 2 || length bs % 2 == 1

-- the log that the bytes are; or they end too early
abbrev pub Reads : List ℕ → Result Log Refusal → Type 0
Reads bs (Ok l) = (misshapen bs ≡ false) × (bytes_of (record_of l) ≡ bs)
Reads bs (Err e) = (misshapen bs ≡ true) × (e ≡ CutOff (length bs))
