-- What a rules file says, and its bytes. Assumes nothing.
--   Content              the rules, with their formulas as rows of bytes
--   move_scope, step_scope, state_scope   the bits that a rule may use
--   Valid                the counts, formulas and starts are such as a file may hold
--   written_all          parts one after the other: formulas after their lengths, states of two bytes
--   file_of              the bytes of the rules
--   parts_of, part_at    the first parts of a row of bytes, and one of them by its number
--   formulas_of          the formulas in a row of bytes, each after its length
--   starts_of            the states in a row of bytes, two bytes each
--   steps_of, content    what the rules in a program's memory say
use Rattle.std.specs.Prelude.{◌≡◌, ℕ, zero, suc, ◌+◌, ◌*◌, ◌/◌, ◌%◌, ◌^◌, ◌<◌, ◌≤◌, min, List, [], ◌∷◌, ◌++◌, length, take, drop, Ok, slice_index}
use Rattle.std.specs.List.{AllByRecursion}
use Rattle.formula.specs.declared.scope.Scope.{Scope}
use Rattle.formula.specs.Reading.{reading}
use Rattle.game.specs.declared.rules.StepRules.{StepRules}
use Rattle.game.specs.declared.rules.Rules.{Rules}

-- The bits of states, moves and answers; the move rule and the answer rule; for each state bit its value after a step;
-- promises and goals over the state; the states to start from.
pub record Content : Type 0 where
  pub state : ℕ
  pub moves : ℕ
  pub answer : ℕ
  pub move_rule : List ℕ
  pub answer_rule : List ℕ
  pub next : List (List ℕ)
  pub promises : List (List ℕ)
  pub goals : List (List ℕ)
  pub starts : List ℕ

-- the move rule may use the state and the move
abbrev pub move_scope : ℕ → ℕ → Scope
move_scope s m = record { state = s; moves = m; answer = 0 }

-- the answer rule and the values after may use the answer too
abbrev pub step_scope : ℕ → ℕ → ℕ → Scope
step_scope s m a = record { state = s; moves = m; answer = a }

-- promises and goals may use the state alone
abbrev pub state_scope : ℕ → Scope
state_scope s = record { state = s; moves = 0; answer = 0 }

-- a row of bytes is a formula of the scope
abbrev pub Sound : Scope → List ℕ → Type 0
Sound sc bs = reading sc bs ≡ Ok tt

-- at most 12, 6 and 6 bits; formulas with the bits that they may use, one for each state bit, 0 to 8 promises and
-- 1 to 8 goals; 1 to 16 starts within the state's bits
pub record Valid (c : Content) : Type 0 where
  pub few_state : c.state ≤ 12
  pub few_moves : c.moves ≤ 6
  pub few_answer : c.answer ≤ 6
  pub sound_moves : Sound (move_scope c.state c.moves) c.move_rule
  pub sound_answers : Sound (step_scope c.state c.moves c.answer) c.answer_rule
  pub each_bit : length c.next ≡ c.state
  pub sound_next : AllByRecursion (Sound (step_scope c.state c.moves c.answer)) c.next
  pub few_promises : length c.promises ≤ 8
  pub sound_promises : AllByRecursion (Sound (state_scope c.state)) c.promises
  pub some_goal : 1 ≤ length c.goals
  pub few_goals : length c.goals ≤ 8
  pub sound_goals : AllByRecursion (Sound (state_scope c.state)) c.goals
  pub some_start : 1 ≤ length c.starts
  pub few_starts : length c.starts ≤ 16
  pub sound_starts : AllByRecursion (λ s. s < 2 ^ c.state) c.starts

-- a formula's bytes after its length
abbrev pub with_length : List ℕ → List ℕ
with_length f = length f ∷ f

-- a state's two bytes, the low one first
abbrev pub low_high : ℕ → List ℕ
low_high s = s % 256 ∷ s / 256 ∷ []

-- the bytes of parts one after the other
abbrev pub written_all : {A : Type 0} → (A → List ℕ) → List A → List ℕ
written_all bytes_of [] = []
written_all bytes_of (a ∷ more) = bytes_of a ++ written_all bytes_of more

-- formulas one after the other, each after its length
abbrev pub with_lengths : List (List ℕ) → List ℕ
with_lengths = written_all with_length

-- states of two bytes each, the low one first
abbrev pub two_bytes : List ℕ → List ℕ
two_bytes = written_all low_high

-- the rules file, part by part
abbrev pub file_of : Content → List ℕ
file_of c =
    (c.state ∷ c.moves ∷ c.answer ∷ [])
    ++ (with_length c.move_rule ++ (with_length c.answer_rule ++ (with_lengths c.next
    ++ ((length c.promises ∷ with_lengths c.promises) ++ ((length c.goals ∷ with_lengths c.goals)
    ++ (length c.starts ∷ two_bytes c.starts))))))

-- the first n parts of a row of bytes, where `first` is its first part and `others` the row after that
abbrev pub parts_of : {A : Type 0} → (List ℕ → A) → (List ℕ → List ℕ) → ℕ → List ℕ → List A
parts_of first others zero bs = []
parts_of first others (suc n) bs = first bs ∷ parts_of first others n (others bs)

-- part i of such a row
abbrev pub part_at : {A : Type 0} → (List ℕ → A) → (List ℕ → List ℕ) → ℕ → List ℕ → A
part_at first others zero bs = first bs
part_at first others (suc i) bs = part_at first others i (others bs)

-- the first formula of a row in which each stands after its length, and the row after it
abbrev pub first_formula : List ℕ → List ℕ
first_formula [] = []
first_formula (l ∷ bs) = take l bs

abbrev pub other_formulas : List ℕ → List ℕ
other_formulas [] = []
other_formulas (l ∷ bs) = drop l bs

-- the first n formulas of such a row; one that lacks is empty
abbrev pub formulas_of : ℕ → List ℕ → List (List ℕ)
formulas_of = parts_of first_formula other_formulas

-- formula i of such a row
abbrev pub nth_formula : ℕ → List ℕ → List ℕ
nth_formula = part_at first_formula other_formulas

-- the first state of a row in which each has two bytes, the low one first; a byte that lacks is 0
abbrev pub first_start : List ℕ → ℕ
first_start bs = slice_index bs 0 + 256 * slice_index bs 1

-- the first n states of such a row
abbrev pub starts_of : ℕ → List ℕ → List ℕ
starts_of = parts_of first_start (drop 2)

-- the move rule, the answer rule and the values after that are in memory
abbrev pub steps_of : StepRules → List ℕ × List ℕ × List (List ℕ)
steps_of r = (r.moves.bytes.now, r.answers.bytes.now, formulas_of r.next.count r.next.bytes.now)

-- what the rules in memory say; counts of bits above the limits are taken as the limits
abbrev pub content : Rules → Content
content r =
    record {
      state = min r.widths.state 12;
      moves = min r.widths.moves 6;
      answer = min r.widths.answer 6;
      move_rule = r.steps.moves.bytes.now;
      answer_rule = r.steps.answers.bytes.now;
      next = formulas_of (min r.steps.next.count 12) r.steps.next.bytes.now;
      promises = formulas_of r.promises.count r.promises.bytes.now;
      goals = formulas_of r.goals.count r.goals.bytes.now;
      starts = starts_of r.starts.count r.starts.bytes.now;
    }
