-- The laws of one step back.
--   cpre_mono   a weaker fact is as easy to make sure of; the state after is below the bound
--   all_below   what `all` says of each number of a range
use Rattle.std.proofs.Common.{◌≡◌, ℕ, ◌<◌, Bool, true, length, ◌∙◌, subst, zero-add, arith}
use Rattle.std.specs.Bool.{MatchBool}
use Rattle.std.specs.List.{AllWithin, HoldsAt, range_with_len}
use Rattle.std.proofs.lemmas.List.FromFn.{length-range_with_len, get_or-range_with_len}
use Rattle.game.specs.Game.{Game}
use Rattle.sets.specs.Step.{Cpre}

pub cpre_mono : (g : Game) (P Q : ℕ → Type 0) (s : ℕ) → ((t : ℕ) → P t → Q t) → Cpre g P s → Cpre g Q s
unfolding Cpre
cpre_mono g P Q s le c e h = let f = c e h in (f.0, f.1, le _ f.2)

pub cpre_below : (g : Game) (n : ℕ) (P Q : ℕ → Type 0) (s : ℕ) → ((s e a : ℕ) → g.after s e a < n) →
    ((t : ℕ) → t < n → P t → Q t) → Cpre g P s → Cpre g Q s
unfolding Cpre
cpre_below g n P Q s bound le c e h = let f = c e h in (f.0, f.1, le _ (bound s e f.0) f.2)

pub all_below : (P Q : ℕ → Type 0) (r : Bool) (n : ℕ) →
    MatchBool r (AllWithin P (range_with_len 0 n) 0 (length (range_with_len 0 n)))
    ((k : ℕ) × (k < length (range_with_len 0 n)) × HoldsAt Q (range_with_len 0 n) k) →
    r ≡ true → (k : ℕ) → k < n → P k
all_below P Q r n m t k h =
    let all = rw t at m in
    subst P (get_or-range_with_len 0 n k 0 h ∙ zero-add k) (all k 0 (omega arith) (omega (arith, length-range_with_len 0 n)))
