-- The tests of the code, lane by lane and by what it keeps of a row, are those of the definitions.
use Rattle.std.proofs.Common.{◌≡◌, ℕ, ◌+◌, ◌*◌, ◌^◌, ◌<◌, Bool, true, false, not, ◌&&◌, ◌||◌, eqb, ltb, sym, refl, ap, ◌∙◌, arith}
use Rattle.std.proofs.lemmas.Bool.{lt-ltb, and_right}
use Rattle.std.specs.Bool.{then_some}
use Rattle.formula.specs.Bits.{bit}
use Rattle.game.specs.Game.{Game, goal_after}
use Rattle.game.specs.Plan.{Plan}
use Rattle.game.specs.Content.{Content}
use Rattle.game.specs.Meaning.{value_of, game_of}
use Rattle.game.specs.Finite.{implies, progresses}
use Rattle.rows.proofs.Failing.{under, and_assoc}
use Rattle.rows.specs.Lanes.{lane_number}
use Rattle.table.specs.declared.check.Here.{Here}
use Rattle.table.specs.declared.check.Steps.{Steps}
use Rattle.table.specs.Sound.{step_sound}
use Rattle.table.specs.Steps.{unkept, is_promise, StandsFor, onward, StepsOf, step_by}

-- a lane of the move rule's values, within the guards of the game; likewise the answer rule's
pub legal_lane : (c : Content) (s e : ℕ) (v : Bool) → s < 2 ^ c.state → e < 2 ^ c.moves → v ≡ value_of c.move_rule s (64 * 0 + e) 0 →
    v ≡ (game_of c).moves s e
legal_lane c s e v a b h =
    let same : 64 * 0 + e ≡ e = omega arith in
    h ∙ ap (λ x. value_of c.move_rule s x 0) same ∙ sym (rw (lt-ltb s _ a, lt-ltb e _ b) refl)

pub allowed_lane : (c : Content) (s e r x : ℕ) (v : Bool) → s < 2 ^ c.state → e < 2 ^ c.moves → r < 2 ^ c.answer → x ≡ r →
    v ≡ value_of c.answer_rule s (64 * 0 + e) x → v ≡ (game_of c).allowed s e r
allowed_lane c s e r x v a b d k h =
    let same : 64 * 0 + e ≡ e = omega arith in
    h ∙ ap (λ y. value_of c.answer_rule s y x) same ∙ ap (λ y. value_of c.answer_rule s e y) k
    ∙ sym (rw (lt-ltb s _ a, lt-ltb e _ b, lt-ltb r _ d) refl)

pub after_lane : (c : Content) (s e r x n : ℕ) → x ≡ r → n ≡ (game_of c).after s (64 * 0 + e) x → n ≡ (game_of c).after s e r
after_lane c s e r x n k h =
    let same : 64 * 0 + e ≡ e = omega arith in
    h ∙ ap (λ y. (game_of c).after s y x) same ∙ ap (λ y. (game_of c).after s e y) k

-- the test of a step's end in the order of the code
promise_is : (b : Bool) (w v : ℕ) → is_promise (then_some b w) v ≡ (eqb v w && b)
promise_is true w v = by (eqb v w)
  where
    by : (x : Bool) → x ≡ (x && true)
    by true = refl
    by false = refl
promise_is false w v = sym (and_right (eqb v w) false refl)

regroup : (a b c d x y z : Bool) → z ≡ (d && (x && y)) → (a || (b || (c && z))) ≡ implies (not a) (b || (((c && d) && x) && y))
regroup true b c d x y z e = refl
regroup false true c d x y z e = refl
regroup false false true d x y z e = e ∙ and_assoc d x y
regroup false false false d x y z e = refl

onward_is : (g : Game) (p : Plan) (j s t : ℕ) (h : Here) → StandsFor g p j s h →
    onward p h t ≡ (p.known (goal_after g j s) t && implies (not (g.goal j s)) (progresses g p j s t))
onward_is g p j s t h for =
    rw (for.later, for.goal, for.reached, for.rank, for.waits)
    (ap (λ x. p.known (goal_after g j s) t && x)
    (regroup (g.goal j s) (ltb (p.rank j t) (p.rank j s)) (eqb (p.rank j t) (p.rank j s)) (eqb (p.waits j t) (p.waits j s)) _ _ _
    (promise_is (unkept g (p.waits j s) s) (p.waits j s) (p.waits j t))))

-- the test of a step
pub step_is : (c : Content) (p : Plan) (j s e : ℕ) (h : Here) (t : Steps) → StandsFor (game_of c) p j s h → StepsOf c p j s t →
    e < 2 ^ c.moves → step_by p h t e ≡ step_sound c p j s e
step_is c p j s e h t for of l =
    ap (λ b. implies b (bit t.allowed e && onward p h (lane_number t.after e))) (of.legal e l)
    ∙ under ((game_of c).moves s e) (λ q.
    ap (λ x. x && onward p h (lane_number t.after e)) (of.allowed e l q)
    ∙ ap (λ n. (game_of c).allowed s e (p.answer j s e) && onward p h n) (of.after e l)
    ∙ ap (λ x. (game_of c).allowed s e (p.answer j s e) && x) (onward_is (game_of c) p j s ((game_of c).after s e (p.answer j s e)) h for)
    ∙ and_assoc ((game_of c).allowed s e (p.answer j s e)) _ _)
