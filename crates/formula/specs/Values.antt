-- The values of a formula in 64 steps at once, in one word. Assumes nothing.
--   Spread  what each bit of a word is
--   Values  a word has a formula's values, lane by lane
--   Valued  a word has the values of the first formula of a row, and what is left holds the others
use Rattle.std.specs.Prelude.{◌≡◌, ℕ, pred, ◌<◌, ◌≤◌, Bool, List, length}
use Rattle.formula.specs.Bits.{bit}
use Rattle.formula.specs.Trees.{Tree, meaning}
use Rattle.formula.specs.Reading.{forest, top, under}

-- bit l of the word is f l, for each of its 64 bits
abbrev pub Spread : ℕ → (ℕ → Bool) → Type 0
Spread word f = (l : ℕ) → l < 64 → bit word l ≡ f l

-- bit l of the word is the tree's value in the state ss l, at the move es l and the answer as l
abbrev pub Values : Tree → (ℕ → ℕ) → (ℕ → ℕ) → (ℕ → ℕ) → ℕ → Type 0
Values t ss es rs word = Spread word (λ l. meaning t (ss l) (es l) (rs l))

-- the word has the values of the first formula of the row, and what is left holds the formulas after it
pub record Valued (bytes rest : List ℕ) (ss es rs : ℕ → ℕ) (word : ℕ) : Type 0 where
  pub values : Values (top (forest bytes)) ss es rs word
  pub others : forest rest ≡ under (forest bytes)
  pub less : length rest ≤ pred (length bytes)
