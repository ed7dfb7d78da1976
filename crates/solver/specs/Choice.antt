-- The answers and the moves that are chosen after the loops. Assumes nothing.
--   FirstOf       the first number that fits
--   Cells, Rows   a fact of each entry of a list, or of a list of rows
--   Answer     what an answer has to do, if any can
--   Answered   the answers of a table, goal by goal
--   Rising, Open   a step goes onward; a next state that the counterstrategy may be brought to, for one row of ranks
--   Shut, AllOpen  the opposite; every allowed answer leads to such a state
--   Chosen, Move   what a move has to do; the same, if any can
--   Cleared    a row of turns in which only those of lost states are left
--   Moved      the moves of a counterstrategy, promise by promise
use Rattle.std.specs.Prelude.{◌≡◌, ℕ, ◌+◌, ◌*◌, ◌<◌, ◌≤◌, Bool, true, false, ◌⊎◌, List}
use Rattle.game.specs.Game.{Game}
use Rattle.game.specs.Counterstrategy.{Onward, Descends}
use Rattle.sets.specs.Member.{Set}
use Rattle.sets.specs.Step.{Forced, Cpre}
use Rattle.solver.specs.Reasons.{Fine, losing, cell, row}

-- v is the first number below n that fits; or 0, where none does
pub record FirstOf (fits : ℕ → Bool → Type 0) (n v : ℕ) : Type 0 where
  pub found : ((v < n) × fits v true) ⊎ ((v ≡ 0) × ((k : ℕ) → k < n → fits k false))
  pub first : (k : ℕ) → k < v → fits k false

-- P holds of each entry below k, with its place
abbrev pub Cells : (ℕ → ℕ → Type 0) → ℕ → List ℕ → Type 0
Cells P k xs = (e : ℕ) → e < k → P e (cell xs e)

-- P holds of each entry of each row below k, with its row and place, where a row has w entries
abbrev pub Rows : (ℕ → ℕ → ℕ → Type 0) → ℕ → ℕ → List ℕ → Type 0
Rows P k w xs = (i e : ℕ) → i < k → e < w → P i e (row xs w i e)

-- Going for goal j, v is the answer to the move e in s: if s is in Z, e is legal and some allowed answer leads to a fine
-- state, v is such an answer; outside Z, and for a move that is not legal, it is 0.
pub record Answer (g : Game) (Z : Set) (j : ℕ) (R W : ℕ → ℕ) (s e v : ℕ) : Type 0 where
  pub good : Z s ≡ true → g.moves s e ≡ true → Forced g (Fine g Z j Z R W s) s e →
      (g.allowed s e v ≡ true) × Fine g Z j Z R W s (g.after s e v)
  pub outside : Z s ≡ false → v ≡ 0
  pub illegal : g.moves s e ≡ false → v ≡ 0

-- the answers of n states to m moves, for the goals below k
abbrev pub Answered : Game → ℕ → ℕ → Set → (ℕ → ℕ → ℕ) → (ℕ → ℕ → ℕ) → List ℕ → ℕ → Type 0
Answered g n m Z rank waits answers k =
    (j s e : ℕ) → j < k → s < n → e < m → Answer g Z j (rank j) (waits j) s e (row answers (n * m) j (s * m + e))

-- going for promise i, the step from s to t goes onward: for one row of ranks T
abbrev pub Rising : Game → (ℕ → ℕ) → ℕ → ℕ → ℕ → Type 0
Rising g T i s t = Onward g (losing 0 (λ _. false) (λ _. 0) (λ _. 0) (λ _ _. 0) (λ _. T)) i s t

-- t is not in Z, and descends from s, going for promise i: for one row of ranks T
abbrev pub Open : Game → Set → (ℕ → ℕ) → (ℕ → ℕ) → (ℕ → ℕ) → ℕ → ℕ → ℕ → Type 0
Open g Z L A T i s t = (Z t ≡ false) × Descends g (losing 0 (λ _. false) L A (λ _ _. 0) (λ _. T)) i s t

abbrev pub Shut : Game → Set → (ℕ → ℕ) → (ℕ → ℕ) → (ℕ → ℕ) → ℕ → ℕ → ℕ → Type 0
Shut g Z L A T i s t = Open g Z L A T i s t → ⊥

-- every allowed answer to the move e in s leads to an open state, going for promise i
abbrev pub AllOpen : Game → Set → (ℕ → ℕ) → (ℕ → ℕ) → (ℕ → ℕ) → ℕ → ℕ → ℕ → Type 0
AllOpen g Z L A T i s e = (a : ℕ) → g.allowed s e a ≡ true → Open g Z L A T i s (g.after s e a)

-- e is a legal move in s, and every allowed answer to it leads to an open state
abbrev pub Chosen : Game → Set → (ℕ → ℕ) → (ℕ → ℕ) → (ℕ → ℕ) → ℕ → ℕ → ℕ → Type 0
Chosen g Z L A T i s e = (g.moves s e ≡ true) × AllOpen g Z L A T i s e

-- v is the move in s, going for promise i: if s is not in Z and the controller can't make sure to go to a state that is
-- not open, v is such a move; in Z it is 0
pub record Move (g : Game) (Z : Set) (L A T : ℕ → ℕ) (i s v : ℕ) : Type 0 where
  pub good : Z s ≡ false → (Cpre g (Shut g Z L A T i s) s → ⊥) → Chosen g Z L A T i s v
  pub outside : Z s ≡ true → v ≡ 0

-- of the turns below k, those of states of Z are 0, and the others as they were
pub record Cleared (Z : Set) (T T' : ℕ → ℕ) (k : ℕ) : Type 0 where
  pub won : (s : ℕ) → s < k → Z s ≡ true → T' s ≡ 0
  pub lost : (s : ℕ) → Z s ≡ false → T' s ≡ T s
  pub rest : (s : ℕ) → k ≤ s → T' s ≡ T s

-- for each promise gone for below k: its turns are cleared, and its moves chosen by them
pub record Moved (g : Game) (n : ℕ) (Z : Set) (L A : ℕ → ℕ) (turned : List ℕ) (k : ℕ) (turned' moves : List ℕ) : Type 0 where
  pub move : (i s : ℕ) → i < k → s < n → Move g Z L A (row turned' n i) i s (row moves n i s)
  pub won : (i s : ℕ) → i < k → s < n → Z s ≡ true → row turned' n i s ≡ 0
  pub lost : (i s : ℕ) → s < n → Z s ≡ false → row turned' n i s ≡ row turned n i s
