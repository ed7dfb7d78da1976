-- Plans, counterstrategies and winners carry over between games that agree.
use Rattle.std.proofs.Common.{◌≡◌, ℕ, zero, suc, ◌<◌, true, false, ◌&&◌, ltb, ◌∷◌, sym, refl, ap, ◌∙◌, subst, inl, inr, ⊎_elim, arith, le-ltb}
use Rattle.std.proofs.lemmas.Bool.{cases_lt, cases_eq}
use Rattle.game.specs.Game.{Game, goal_after}
use Rattle.game.specs.Plan.{Plan, Progress}
use Rattle.game.specs.Counterstrategy.{Counterstrategy, turns, kept, Onward, Descends}
use Rattle.game.specs.Play.{Controller, past, state_at, Legal, Answered, Fair, Winning, Beaten}
use Rattle.game.specs.Agree.{Agree, PlanAgrees, CounterAgrees, WinningAgrees, BeatenAgrees}

-- ---- plans

same_goal : (g h : Game) → Agree g h → (j s e : ℕ) → j < g.goals → g.moves s e ≡ true → goal_after g j s ≡ goal_after h j s
unfolding goal_after
same_goal g h a j s e l m = rw (a.goal j s e l m, a.goals) refl

same_progress : (g h : Game) (p : Plan) → Agree g h → (j s e t : ℕ) → g.moves s e ≡ true → Progress g p j s t → Progress h p j s t
same_progress g h p a j s e t m (inl falls) = inl falls
same_progress g h p a j s e t m (inr (rank, waits, some, fails)) =
    inr (rank, waits, subst (λ n. p.waits j s < n) a.promises some, sym (a.promise (p.waits j s) s e some m) ∙ fails)

pub plan_agrees : PlanAgrees
plan_agrees g h p a holds =
    record {
      answers = λ j s e l k m.
          let m' = a.moves s e ∙ m in
          sym (a.allowed s e _ m') ∙ holds.answers j s e (here l) k m';
      goes_on = λ j s e l k m.
          let m' = a.moves s e ∙ m in
          let fine = holds.answers j s e (here l) k m' in
          subst (λ t. p.known (goal_after h j s) t ≡ true) (a.after s e _ m' fine)
          (subst (λ i. p.known i (g.after s e (p.answer j s e)) ≡ true) (same_goal g h a j s e (here l) m') (holds.goes_on j s e (here l) k m'));
      progress = λ j s e l k m missed.
          let m' = a.moves s e ∙ m in
          let fine = holds.answers j s e (here l) k m' in
          subst (λ t. Progress h p j s t) (a.after s e _ m' fine)
          (same_progress g h p a j s e _ m' (holds.progress j s e (here l) k m' (a.goal j s e (here l) m' ∙ missed)));
    }
  where
    here : {j : ℕ} → j < h.goals → j < g.goals
    here {j} l = subst (λ n. j < n) (sym a.goals) l

-- ---- counterstrategies

same_kept : (g h : Game) → Agree g h → (i s e : ℕ) → g.moves s e ≡ true → kept g i s ≡ kept h i s
same_kept g h a i s e m =
    ⊎_elim
    (λ l. ap (λ b. ltb i g.promises && b) (a.promise i s e l m) ∙ ap (λ n. ltb i n && h.promise i s) a.promises)
    (λ l.
    let none : ltb i g.promises ≡ false = le-ltb i g.promises l in
    let none' : ltb i h.promises ≡ false = ap (ltb i) (sym a.promises) ∙ none in
    ap (λ b. b && g.promise i s) none ∙ sym (ap (λ b. b && h.promise i s) none'))
    (cases_lt i g.promises)

same_onward : (g h : Game) (c : Counterstrategy) → Agree g h → (i s e t : ℕ) → g.moves s e ≡ true → Onward g c i s t → Onward h c i s t
same_onward g h c a i s e t m (inl keeps) = inl (sym (same_kept g h a i s e m) ∙ keeps)
same_onward g h c a i s e t m (inr (inl (lacks, some, falls))) =
    inr (inl (sym (same_kept g h a i s e m) ∙ lacks, subst (λ n. 0 < n) a.promises some, falls))
same_onward g h c a i s e t m (inr (inr (none, stays))) = inr (inr (sym a.promises ∙ none, stays))

same_descends : (g h : Game) (c : Counterstrategy) → Agree g h → (i s e t : ℕ) → g.moves s e ≡ true → Descends g c i s t → Descends h c i s t
same_descends g h c a i s e t m (inl falls) = inl falls
same_descends g h c a i s e t m (inr (layer, avoid, some, missed, onward)) =
    inr (layer, avoid, subst (λ n. c.avoid s < n) a.goals some, sym (a.goal (c.avoid s) s e some m) ∙ missed, same_onward g h c a i s e t m onward)

pub counter_agrees : CounterAgrees
counter_agrees g h c a holds =
    record {
      moves = λ i s l k. sym (a.moves s (c.move i s)) ∙ holds.moves i s (here l) k;
      goes_on = λ i s r l k fine.
          let m = holds.moves i s (here l) k in
          let fine' = a.allowed s (c.move i s) r m ∙ fine in
          subst (λ t. c.known t ≡ true) (a.after s (c.move i s) r m fine') (holds.goes_on i s r (here l) k fine');
      descends = λ i s r l k fine.
          let m = holds.moves i s (here l) k in
          let fine' = a.allowed s (c.move i s) r m ∙ fine in
          subst (λ t. Descends h c i s t) (a.after s (c.move i s) r m fine')
          (same_descends g h c a i s (c.move i s) _ m (holds.descends i s r (here l) k fine'));
    }
  where
    here : {i : ℕ} → i < turns h.promises → i < turns g.promises
    here {i} l = subst (λ n. i < turns n) (sym a.promises) l

-- ---- winning controllers

-- a play of h that is legal is the same play of g
won : (g h : Game) (k : Controller) (s : ℕ) → Agree g h → Winning g k s → (es : ℕ → ℕ) (n : ℕ) → Legal h k es s n →
    (state_at g k es s n ≡ state_at h k es s n) × Legal g k es s n
unfolding state_at
won g h k s a w es zero legal =
    (refl, λ m l. let z : m ≡ 0 = omega arith in subst (λ m. g.moves (state_at g k es s m) (es m) ≡ true) (sym z) (a.moves s (es 0) ∙ legal 0 (omega arith)))
won g h k s a w es (suc n) legal =
    let before = won g h k s a w es n (λ m l. legal m (omega arith)) in
    let same : state_at g k es s (suc n) ≡ state_at h k es s (suc n) =
    a.after _ _ _ (before.1 n (omega arith)) (w.answers es n before.1) ∙ ap (λ t. h.after t (es n) (k (es n ∷ past es n))) before.0 in (
      same,
      λ m l. ⊎_elim
          (λ (last : m ≡ suc n). subst (λ m. g.moves (state_at g k es s m) (es m) ≡ true) (sym last)
          (ap (λ t. g.moves t (es (suc n))) same ∙ (a.moves _ _ ∙ legal (suc n) (omega arith))))
          (λ other. before.1 m (omega arith))
          (cases_eq m (suc n)),
    )

pub winning_agrees : WinningAgrees
winning_agrees g h k s a w =
    record {
      answers = λ es n legal.
          let p = won g h k s a w es n legal in
          ap (λ t. h.allowed t (es n) (k (es n ∷ past es n))) (sym p.0)
          ∙ (sym (a.allowed _ _ _ (p.1 n (omega arith))) ∙ w.answers es n p.1);
      visits = λ es fair j l.
          let play = λ (n : ℕ). won g h k s a w es n (λ m _. fair.moves m) in
          let fair' : Fair g es (state_at g k es s) =
          record {
            moves = λ n. (play n).1 n (omega arith);
            keeps = λ i b n.
                let v = fair.keeps i (subst (λ m. i < m) a.promises b) n in
                (v.0, v.1, a.promise i _ (es v.0) b ((play v.0).1 v.0 (omega arith)) ∙ (ap (h.promise i) (play v.0).0 ∙ v.2));
          } in
          λ n.
          let l' : j < g.goals = subst (λ m. j < m) (sym a.goals) l in
          let v = w.visits es fair' j l' n in
          (v.0, v.1, ap (h.goal j) (sym (play v.0).0) ∙ (sym (a.goal j _ (es v.0) l' (fair'.moves v.0)) ∙ v.2));
    }

-- ---- controllers that are beaten

-- a play of h in which all answers are allowed is the same play of g
lost : (g h : Game) (k : Controller) (s : ℕ) → Agree g h → (b : Beaten g k s) → (n : ℕ) → Answered h k b.row s n →
    (state_at g k b.row s n ≡ state_at h k b.row s n) × Answered g k b.row s n
unfolding state_at
lost g h k s a b zero fine = (refl, λ m l. absurd (omega arith))
lost g h k s a b (suc n) fine =
    let es = b.row in
    let before = lost g h k s a b n (λ m l. fine m (omega arith)) in
    let legal = b.legal n before.1 in
    let now : g.allowed (state_at g k es s n) (es n) (k (es n ∷ past es n)) ≡ true =
    a.allowed _ _ _ legal ∙ (ap (λ t. h.allowed t (es n) (k (es n ∷ past es n))) before.0 ∙ fine n (omega arith)) in (
      a.after _ _ _ legal now ∙ ap (λ t. h.after t (es n) (k (es n ∷ past es n))) before.0,
      λ m l. ⊎_elim
          (λ (last : m ≡ n). subst (λ m. g.allowed (state_at g k es s m) (es m) (k (es m ∷ past es m)) ≡ true) (sym last) now)
          (λ other. before.1 m (omega arith))
          (cases_eq m n),
    )

pub beaten_agrees : BeatenAgrees
beaten_agrees g h k s a b =
    record {
      row = b.row;
      legal = λ n fine.
          let p = lost g h k s a b n fine in
          sym (a.moves _ _) ∙ (ap (λ t. g.moves t (b.row n)) (sym p.0) ∙ b.legal n p.1);
      keeps = λ fine i l n.
          let play = λ (n : ℕ). lost g h k s a b n (fine n) in
          let l' : i < g.promises = subst (λ m. i < m) (sym a.promises) l in
          let v = b.keeps (λ n. (play n).1) i l' n in (
            v.0,
            v.1,
            ap (h.promise i) (sym (play v.0).0) ∙ (sym (a.promise i _ (b.row v.0) l' (b.legal v.0 (play v.0).1)) ∙ v.2),
          );
      misses = λ fine none.
          let play = λ (n : ℕ). lost g h k s a b n (fine n) in
          b.misses (λ n. (play n).1) (λ found.
          let j = found.0 in
          none (
            j,
            subst (λ m. j < m) a.goals found.1,
            (
              found.2.0,
              λ m l. ap (h.goal j) (sym (play m).0) ∙ (sym (a.goal j _ (b.row m) found.1 (b.legal m (play m).1)) ∙ found.2.1 m l),
            ),
          ));
    }
