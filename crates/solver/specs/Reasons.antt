-- Why the loops' ranks, turns and layers make a table and a counterstrategy. Assumes nothing.
--   Falls       from a state to the next, the rank falls or the same promise is waited for
--   Fine        a next state that a table may go to
--   Later       the states of Z that the inner loop had not yet taken out at a turn
--   cell, row   an entry of a list; an entry of a row, where the list holds rows of equal length
--   winning, losing   the table and the counterstrategy read off the loops' results
--   Free, Barred   a next state that a counterstrategy may be brought to; one that it may not
use Rattle.std.specs.Prelude.{◌≡◌, ℕ, ◌+◌, ◌*◌, ◌<◌, ◌≤◌, true, false, not, ◌&&◌, ◌⊎◌, List, nat_lt, slice_index}
use Rattle.game.specs.Game.{Game}
use Rattle.game.specs.Plan.{Plan}
use Rattle.game.specs.Counterstrategy.{Counterstrategy, Descends}
use Rattle.sets.specs.Member.{Set}

-- from s to t the rank R falls; or rank and promise waited for, W, stay the same, one is waited for, and it does not hold in s
abbrev pub Falls : Game → (ℕ → ℕ) → (ℕ → ℕ) → ℕ → ℕ → Type 0
Falls g R W s t =
    (R t < R s) ⊎ ((R t ≡ R s) × (W t ≡ W s) × (W s < g.promises) × (g.promise (W s) s ≡ false))

-- going for goal j, t is a state to go to from s: it is in Z, and where the goal does not hold in s also in Y, and the rank falls
abbrev pub Fine : Game → Set → ℕ → Set → (ℕ → ℕ) → (ℕ → ℕ) → ℕ → ℕ → Type 0
Fine g Z j Y R W s t = (Z t ≡ true) × (g.goal j s ≡ false → (Y t ≡ true) × Falls g R W s t)

-- t is in Z, and in X or taken out at the turn r or later
abbrev pub Later : Set → Set → (ℕ → ℕ) → ℕ → ℕ → Type 0
Later Z X T r t = (Z t ≡ true) × ((X t ≡ true) ⊎ (r ≤ T t))

-- entry s of a list
abbrev pub cell : List ℕ → ℕ → ℕ
cell xs s = slice_index xs s

-- entry s of row i, where a row has w entries
abbrev pub row : List ℕ → ℕ → ℕ → ℕ → ℕ
row xs w i s = slice_index xs (i * w + s)

-- the table that knows the states of Z for each goal
abbrev pub winning : Set → (ℕ → ℕ → ℕ → ℕ) → (ℕ → ℕ → ℕ) → (ℕ → ℕ → ℕ) → Plan
winning Z answer rank waits = record { known = λ j s. Z s; answer = answer; rank = rank; waits = waits }

-- the counterstrategy that knows the states below n that are not in Z
abbrev pub losing : ℕ → Set → (ℕ → ℕ) → (ℕ → ℕ) → (ℕ → ℕ → ℕ) → (ℕ → ℕ → ℕ) → Counterstrategy
losing n Z layer avoid move rank =
    record { known = λ s. nat_lt s n && not (Z s); layer = layer; avoid = avoid; move = move; rank = rank }

-- the counterstrategy c, going for promise i, knows t and descends from s to it
abbrev pub Free : Game → Counterstrategy → ℕ → ℕ → ℕ → Type 0
Free g c i s t = (c.known t ≡ true) × Descends g c i s t

-- t is no such state, for the counterstrategy of these layers, goals kept away from and ranks; its moves do not matter
abbrev pub Barred : Game → ℕ → Set → (ℕ → ℕ) → (ℕ → ℕ) → (ℕ → ℕ → ℕ) → ℕ → ℕ → ℕ → Type 0
Barred g n Z L A T i s t = Free g (losing n Z L A (λ _ _. 0) T) i s t → ⊥
