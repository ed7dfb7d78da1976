-- The tests of the code, lane by lane and by what it keeps of a row, are those of the definitions.
use Rattle.std.proofs.Common.{◌≡◌, ℕ, ◌+◌, ◌*◌, ◌^◌, ◌<◌, Bool, true, false, cond, not, ◌&&◌, ◌||◌, eqb, ltb, sym, refl, ap, ◌∙◌, arith}
use Rattle.std.proofs.lemmas.Bool.{lt-ltb, and_right}
use Rattle.std.specs.Bool.{then_some}
use Rattle.std.proofs.lemmas.Bool.Decides.{nat_tests}
use Rattle.game.specs.Game.{Game}
use Rattle.game.specs.Counterstrategy.{Counterstrategy, kept}
use Rattle.game.specs.Content.{Content}
use Rattle.game.specs.Meaning.{value_of, game_of}
use Rattle.game.specs.Finite.{implies, falls}
use Rattle.rows.proofs.Failing.{under, and_assoc}
use Rattle.rows.specs.Lanes.{lane_number}
use Rattle.counter.specs.declared.check.Here.{Here}
use Rattle.counter.specs.declared.check.Steps.{Steps}
use Rattle.counter.specs.Sound.{answer_sound}
use Rattle.counter.specs.declared.check.NextRank.TheVariants.{Any, Below, Same}
use Rattle.counter.specs.Steps.{away, is_goal, may_be, StandsFor, onward, StepsOf, step_by}

-- a lane of the answer rule's values, within the guards of the game
pub allowed_lane : (c : Content) (s e r : ℕ) (v : Bool) → s < 2 ^ c.state → e < 2 ^ c.moves → r < 2 ^ c.answer →
    v ≡ value_of c.answer_rule s e (64 * 0 + r) → v ≡ (game_of c).allowed s e r
allowed_lane c s e r v a b d h =
    let same : 64 * 0 + r ≡ r = omega arith in
    h ∙ ap (λ y. value_of c.answer_rule s e y) same ∙ sym (rw (lt-ltb s _ a, lt-ltb e _ b, lt-ltb r _ d) refl)

pub after_lane : (c : Content) (s e r n : ℕ) → n ≡ (game_of c).after s e (64 * 0 + r) → n ≡ (game_of c).after s e r
after_lane c s e r n h = let same : 64 * 0 + r ≡ r = omega arith in h ∙ ap (λ y. (game_of c).after s e y) same

-- the test of a step's end in the order of the code
goal_is : (b : Bool) (w v : ℕ) → is_goal (then_some b w) v ≡ (eqb v w && b)
goal_is true w v = by (eqb v w)
  where
    by : (x : Bool) → x ≡ (x && true)
    by true = refl
    by false = refl
goal_is false w v = sym (and_right (eqb v w) false refl)

regroup : (a b c d x y z u : Bool) → z ≡ (c && (d && x)) → y ≡ u → (a || (b && (z && y))) ≡ (a || ((((b && c) && d) && x) && u))
regroup true b c d x y z u e f = refl
regroup false true c d x y z u e f = rw (e, f) (ap (λ v. v && u) (and_assoc c d x))
regroup false false c d x y z u e f = refl

due_is : (k p q : Bool) (m n : ℕ) → q ≡ not p →
    may_be (cond k Any (cond p (Below m) (Same m))) n ≡ ((k || ((not k && p) && ltb n m)) || (q && eqb n m))
due_is true p q m n e = refl
due_is false true q m n e = rw e (by (ltb n m))
  where
    by : (x : Bool) → x ≡ (x || false)
    by true = refl
    by false = refl
due_is false false q m n e = rw e refl

none_or_some : (n : ℕ) → eqb n 0 ≡ not (ltb 0 n)
none_or_some n = grind (arith, nat_tests)

onward_is : (g : Game) (c : Counterstrategy) (i s t : ℕ) (h : Here) → StandsFor g c i s h → onward c h t ≡ (c.known t && falls g c i s t)
onward_is g c i s t h for =
    rw (for.promise, for.layer, for.far, for.rank)
    (ap (λ x. c.known t && x)
    (regroup (ltb (c.layer t) (c.layer s)) (eqb (c.layer t) (c.layer s)) (eqb (c.avoid t) (c.avoid s)) (ltb (c.avoid s) g.goals) (not (g.goal (c.avoid s) s)) _ _ _
    (goal_is (away g (c.avoid s) s) (c.avoid s) (c.avoid t))
    (due_is (kept g i s) (ltb 0 g.promises) (eqb g.promises 0) (c.rank i s) (c.rank i t) (none_or_some g.promises))))

-- the test of a step, by the move e of the row
pub step_is : (c : Content) (w : Counterstrategy) (i s a : ℕ) (h : Here) (t : Steps) (e : ℕ) → StandsFor (game_of c) w i s h → e ≡ w.move i s →
    StepsOf c s e t → (game_of c).moves s e ≡ true → a < 2 ^ c.answer → step_by w h t a ≡ answer_sound c w i s a
step_is c w i s a h t e for m of legal l =
    ap (λ b. implies b (onward w h (lane_number t.after a))) (of.allowed a l legal ∙ ap (λ x. (game_of c).allowed s x a) m)
    ∙ under ((game_of c).allowed s (w.move i s) a) (λ q.
    ap (onward w h) (of.after a l ∙ ap (λ x. (game_of c).after s x a) m)
    ∙ onward_is (game_of c) w i s ((game_of c).after s (w.move i s) a) h for)
