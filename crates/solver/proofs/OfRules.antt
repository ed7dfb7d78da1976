-- From the arena of the rules to the rules.
--   arena_sizes    the sizes that an arena has
--   same_five      sizes from equal numbers
--   same_sizes     they are those of the rules
--   fits_arena     slices that are long enough for the rules are so for their arena
--   BeyondGame     what goes beyond in the slices of the tabulated game is as it was
--   beyond_at, rest_same   the same at equal sizes; of one slice
--   solves_rules   what solves the arena solves the game of the rules
use Rattle.std.proofs.Common.{◌≡◌, ℕ, ◌+◌, ◌*◌, ◌^◌, ◌<◌, ◌≤◌, Bool, true, false, not, ◌&&◌, ltb, ◌⊎◌, List, ◌++◌, length, take, drop, sym, refl, ap, ◌∙◌, subst, inl, inr, arith, length-append, length-drop, lt-ltb}
use Rattle.std.proofs.lemmas.List.{drop_at}
use Rattle.std.proofs.lemmas.Bool.{and_from}
use Rattle.game.specs.Agree.{Agree}
use Rattle.game.specs.Content.{Content, Valid}
use Rattle.game.specs.Counterstrategy.{CounterHolds, turns}
use Rattle.game.specs.Game.{Game}
use Rattle.game.specs.Meaning.{game_of}
use Rattle.game.specs.Plan.{PlanHolds}
use Rattle.game.proofs.Agreement.{plan_agrees, counter_agrees}
use Rattle.game.proofs.Loses.{never_both, exactly}
use Rattle.sets.specs.Arena.{arena_game}
use Rattle.sets.specs.Member.{member}
use Rattle.sets.specs.declared.arena.Arena.{Arena}
use Rattle.sets.proofs.Arenas.{promises_is, goals_is}
use Rattle.solver.specs.Call.{Fits, Solves}
use Rattle.solver.specs.Rules.{Lent, AllFits, Beyond, Known, Winnable, Zeros, ZerosAt, SolvesRules, plan_in, way_in}
use Rattle.solver.specs.Solution.{Unused}
use Rattle.solver.specs.Sizes.{Sizes, sizes_from, sizes_of, reply_count, entry_count, row_count}

abbrev pub arena_sizes : Content → Arena → Sizes
arena_sizes c a = sizes_from a.states a.moves (2 ^ c.answer) a.goal_count (turns a.promise_count)

pub same_five : (s s' m m' x x' g g' t t' : ℕ) → s ≡ s' → m ≡ m' → x ≡ x' → g ≡ g' → t ≡ t' →
    sizes_from s m x g t ≡ sizes_from s' m' x' g' t'
same_five s s' m m' x x' g g' t t' p q o r u = rw (p, q, o, r, u)

pub same_sizes : (c : Content) (a : Arena) → a.states ≡ 2 ^ c.state → a.moves ≡ 2 ^ c.moves →
    Agree (arena_game a) (game_of c) → arena_sizes c a ≡ sizes_of c
same_sizes c a s m ag =
    same_five _ _ _ _ (2 ^ c.answer) _ _ _ _ _ s m refl (sym (goals_is a) ∙ ag.goals) (ap turns (sym (promises_is a) ∙ ag.promises))

pub fits_arena : (c : Content) (a : Arena) (z : Sizes) (l : Lent) → z ≡ arena_sizes c a → AllFits z l → Fits a l.sets l.answer
fits_arena c a z l e f =
    let h : AllFits (arena_sizes c a) l = subst (λ (y : Sizes). AllFits y l) e f in
    (h.0.5, h.1, h.2)

-- what goes beyond the tabulated game in its slices is as it was
pub record BeyondGame (z : Sizes) (l l' : Lent) : Type 0 where
  pub legal : drop z.states l'.legal ≡ drop z.states l.legal
  pub allowed : drop (z.states * z.moves) l'.allowed ≡ drop (z.states * z.moves) l.allowed
  pub next : drop (z.states * z.moves * z.answers) l'.next ≡ drop (z.states * z.moves * z.answers) l.next
  pub promises : drop z.states l'.promises ≡ drop z.states l.promises
  pub goals : drop z.states l'.goals ≡ drop z.states l.goals

pub beyond_at : (z y : Sizes) (l l' : Lent) → z ≡ y → BeyondGame z l l' → BeyondGame y l l'
beyond_at z y l l' e b = subst (λ (x : Sizes). BeyondGame x l l') e b

-- a part in place of the first k entries, which the code counts as e, leaves the rest: the slice is as long as before
pub rest_same : (k e : ℕ) (xs ys : List ℕ) → length (ys ++ drop e xs) ≡ length xs → e ≡ k → k ≤ length xs →
    drop k (ys ++ drop e xs) ≡ drop k xs
rest_same k e xs ys q p f =
    let n : length ys ≡ k = omega (arith, q, length-append ys (drop e xs), length-drop e xs) in
    drop_at ys (drop e xs) k n ∙ ap (λ (x : ℕ). drop x xs) p

-- what is not used in one game is not used in one that agrees with it
unused_agrees : (g h : Game) (n m : ℕ) (known answers ranks waits layers avoids moves turned : List ℕ) → Agree g h →
    Unused g n m known answers ranks waits layers avoids moves turned → Unused h n m known answers ranks waits layers avoids moves turned
unused_agrees g h n m known answers ranks waits layers avoids moves turned ag u =
    let in_goals = λ (j : ℕ) (lj : j < h.goals). subst (λ (k : ℕ). j < k) (sym ag.goals) lj in
    record {
      answer = λ j s e lj ls le k. u.answer j s e (in_goals j lj) ls le k;
      illegal = λ j s e lj ls le k. u.illegal j s e (in_goals j lj) ls le (ag.moves s e ∙ k);
      rank = λ j s lj ls k. u.rank j s (in_goals j lj) ls k;
      layer = λ s ls k. u.layer s ls k;
      move = λ i s li ls k. u.move i s (subst (λ (p : ℕ). i < turns p) (sym ag.promises) li) ls k;
    }

-- each state below n is known by the one or the other
either_knows : (n s : ℕ) (b : Bool) → s < n → (b ≡ true) ⊎ ((ltb s n && not b) ≡ true)
either_knows n s true l = inl refl
either_knows n s false l = inr (and_from (ltb s n) true (lt-ltb s n l) refl)

module _ (c : Content) (a : Arena) (l l' : Lent) (v : Valid c) (ag : Agree (arena_game a) (game_of c)) (e : arena_sizes c a ≡ sizes_of c)
    (so : Solves a l.answer l'.answer) where
  plan : PlanHolds (game_of c) (plan_in (sizes_of c) l'.answer)
  plan =
      subst (λ (z : Sizes). PlanHolds (game_of c) (plan_in z l'.answer)) e
      (plan_agrees (arena_game a) (game_of c) (plan_in (arena_sizes c a) l'.answer) ag so.solution.wins)

  counter : CounterHolds (game_of c) (way_in (sizes_of c) l'.answer)
  counter =
      subst (λ (z : Sizes). CounterHolds (game_of c) (way_in z l'.answer)) e
      (counter_agrees (arena_game a) (game_of c) (way_in (arena_sizes c a) l'.answer) ag so.solution.loses)

  either : (s : ℕ) → s < 2 ^ c.state →
      ((plan_in (sizes_of c) l'.answer).known 0 s ≡ true) ⊎ ((way_in (sizes_of c) l'.answer).known s ≡ true)
  either s h = either_knows (2 ^ c.state) s (member (take (2 ^ c.state) l'.answer.known) s) h

  both_ways : (s : ℕ) → s < 2 ^ c.state →
      (Known (sizes_of c) l'.answer s → Winnable c s) × (Winnable c s → Known (sizes_of c) l'.answer s)
  both_ways s h =
      exactly (game_of c) (plan_in (sizes_of c) l'.answer) (way_in (sizes_of c) l'.answer) s v.some_goal plan counter (either s h)

  zeros : Zeros c l'.answer
  zeros =
      subst (λ (z : Sizes). ZerosAt (game_of c) z l'.answer) e
      (unused_agrees (arena_game a) (game_of c) _ _ _ _ _ _ _ _ _ _ ag so.solution.unused)

  all_beyond : BeyondGame (sizes_of c) l l' → Beyond (sizes_of c) l l'
  all_beyond b =
      let t =
      subst (λ (z : Sizes). (drop z.states l'.answer.known ≡ drop z.states l.answer.known) × (drop (reply_count z) l'.answer.answers ≡ drop (reply_count z) l.answer.answers)
      × (drop (entry_count z) l'.answer.ranks ≡ drop (entry_count z) l.answer.ranks) × (drop (entry_count z) l'.answer.waits ≡ drop (entry_count z) l.answer.waits)) e so.beyond_table in
      let w =
      subst (λ (z : Sizes). (drop z.states l'.answer.layers ≡ drop z.states l.answer.layers) × (drop z.states l'.answer.avoids ≡ drop z.states l.answer.avoids)
      × (drop (row_count z) l'.answer.moves ≡ drop (row_count z) l.answer.moves) × (drop (row_count z) l'.answer.turned ≡ drop (row_count z) l.answer.turned)) e so.beyond_way in
      record {
        legal = b.legal;
        allowed = b.allowed;
        next = b.next;
        promises = b.promises;
        goals = b.goals;
        known = t.0;
        answers = t.1;
        ranks = t.2;
        waits = t.3;
        layers = w.0;
        avoids = w.1;
        moves = w.2;
        turned = w.3;
      }

  pub solves_rules : (rounds : ℕ) → AllFits (sizes_of c) l → 0 < rounds → rounds ≤ a.states + 1 → BeyondGame (sizes_of c) l l' →
      SolvesRules c l l' rounds
  solves_rules rounds f some most b =
      record {
        fits = f;
        plan_holds = plan;
        counter_holds = counter;
        either = either;
        never_both = λ s p q.
            never_both (game_of c) (plan_in (sizes_of c) l'.answer) (way_in (sizes_of c) l'.answer) s v.some_goal plan counter p q;
        winnable = λ s h. (both_ways s h).0;
        exactly = λ s h. (both_ways s h).1;
        zeros = zeros;
        some_round = some;
        most_rounds = subst (λ (z : Sizes). rounds ≤ z.states + 1) e most;
        beyond = all_beyond b;
      }
