-- What is beaten does not win, and what follows of plans and counterstrategies together.
--   known_loses                        no controller wins where a counterstrategy that holds together knows
--   beaten_loses, never_both, exactly  the theorems
use Rattle.std.proofs.Common.{◌≡◌, ℕ, zero, suc, true, ⊎_elim, arith}
use Rattle.std.proofs.lemmas.Bool.{both_ways}
use Rattle.game.specs.Game.{Game}
use Rattle.game.specs.Counterstrategy.{Counterstrategy, CounterHolds}
use Rattle.game.specs.Play.{Controller, Winning, NearlyWinning, Beaten, Answered, follow}
use Rattle.game.specs.Theorems.{BeatenLoses, NeverBoth, Exactly}
use Rattle.game.proofs.Wins.{plan_wins}
use Rattle.game.proofs.Beats.{counter_wins}

-- against the row of moves that beats it, a controller that nearly wins has all of its answers allowed: moves are legal as long as
-- answers are allowed, and the other way round
answered : (g : Game) (k : Controller) (s : ℕ) (b : Beaten g k s) → NearlyWinning g k s → (n : ℕ) → Answered g k b.row s n
answered g k s b w zero m l = absurd (omega arith)
answered g k s b w (suc n) m l =
    w.answers b.row m (λ t h. b.legal t (λ u v. answered g k s b w n u (omega arith)))

pub beaten_loses : BeatenLoses
beaten_loses g k s b w =
    let all = answered g k s b w in
    b.misses all
    (λ (j, inside, (n, never)).
    w.visits b.row (record { moves = λ m. b.legal m (all m); keeps = b.keeps all }) j inside n
    (λ (m, l, visited). both_ways _ (never m l) visited))

nearly : (g : Game) (k : Controller) (s : ℕ) → Winning g k s → NearlyWinning g k s
nearly g k s w = record { answers = w.answers; visits = λ es fair j inside n none. none (w.visits es fair j inside n) }

pub known_loses : (g : Game) (c : Counterstrategy) (k : Controller) (s : ℕ) → CounterHolds g c → c.known s ≡ true → Winning g k s → ⊥
known_loses g c k s holds known w = beaten_loses g k s (counter_wins g c k s holds known) (nearly g k s w)

pub never_both : NeverBoth
never_both g p c s some plan counter known_p known_c =
    known_loses g c (follow g p s) s counter known_c (plan_wins g p s some plan known_p)

pub exactly : Exactly
exactly g p c s some plan counter either = (
  λ known. (follow g p s, plan_wins g p s some plan known),
  λ (k, w). ⊎_elim (λ known. known) (λ known. absurd (known_loses g c k s counter known w)) either,
)
