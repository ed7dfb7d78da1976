-- The goal gone for after a state, as the rules compute it.
--   stays   where the goal does not hold, it is still gone for
--   turns   where it holds, the next one around is
--   there   a goal that holds somewhere is one of those that there are
use Rattle.std.proofs.Common.{◌≡◌, ℕ, ◌<◌, Bool, true, false, ltb, List, [], length, get_or, sym, refl, ap, ◌∙◌, ltb-true, ltb-false}
use Rattle.std.proofs.lemmas.List.{get_or_past}
use Rattle.formula.specs.Reading.{forest}
use Rattle.game.specs.Game.{Game, goal_after, next_around}
use Rattle.game.specs.Meaning.{value_of}

pub stays : (g : Game) (j s : ℕ) → g.goal j s ≡ false → j ≡ goal_after g j s
unfolding goal_after
stays g j s h = rw h

pub turns : (g : Game) (j s n : ℕ) → g.goal j s ≡ true → n ≡ next_around g.goals j → n ≡ goal_after g j s
unfolding goal_after
turns g j s n h next = rw h next

there_if : (goals : List (List ℕ)) (j s : ℕ) (b : Bool) → ltb j (length goals) ≡ b →
    value_of (get_or goals j []) s 0 0 ≡ true → j < length goals
unfolding forest
there_if goals j s true e h = ltb-true j (length goals) e
there_if goals j s false e h =
    let none : value_of (get_or goals j []) s 0 0 ≡ false = ap (λ f. value_of f s 0 0) (get_or_past goals j [] (ltb-false j (length goals) e)) in
    let z : true ≡ false = sym h ∙ none in cc

pub there : (goals : List (List ℕ)) (j s : ℕ) → value_of (get_or goals j []) s 0 0 ≡ true → j < length goals
there goals j s h = there_if goals j s (ltb j (length goals)) refl h
