-- The arena of the rules agrees with their game.
--   tabulated      the five tables, by state, move and answer
--   next_within    every entry of the table of states after is a state
--   arena_agrees   the arena over the tables agrees with the game
use Rattle.std.proofs.Common.{◌≡◌, ℕ, ◌+◌, ◌*◌, ◌/◌, ◌%◌, ◌^◌, ◌<◌, ◌≤◌, Bool, true, false, cond, ◌&&◌, ltb, List, length, get_or, sym, refl, ap, ◌∙◌, subst, ⊎_elim, arith, pow_mono, ltb-true}
use Rattle.std.proofs.lemmas.Nat.{pow_pos, div_below, mod_below, div-mul-add, mod-mul-add, div-add-mod'}
use Rattle.std.proofs.lemmas.List.{get_or_past}
use Rattle.std.proofs.lemmas.Bool.{cases_lt, and_parts}
use Rattle.formula.specs.Bits.{bit}
use Rattle.game.specs.Content.{Content, Valid}
use Rattle.game.specs.Meaning.{number, game_of}
use Rattle.game.specs.Agree.{Agree}
use Rattle.sets.specs.declared.arena.Arena.{Arena}
use Rattle.sets.specs.Arena.{arena_game}
use Rattle.sets.specs.Tabulate.{LegalTable, AllowedTable, NextTable, holds_of, StateTable, state_count, move_count, answer_count, Sized, Tabulated}
use Rattle.sets.proofs.Arenas.{legal_bit, allowed_bit, place_move, move_below, answer_below}
use Rattle.sets.proofs.Packings.{number_below, pick_below}

-- a word has room for every move and every answer
room : (b : ℕ) → b ≤ 6 → 2 ^ b ≤ 64
room b h = pow_mono {i = b} {j = 6} h

entry : (c : Content) (allowed : List ℕ) (s e : ℕ) → length allowed ≡ state_count c * move_count c → s < state_count c → e < move_count c →
    s * move_count c + e < length allowed
entry c allowed s e size hs he = rw size (place_move s (move_count c) e (state_count c) hs he)

allowed_there : (c : Content) (legal allowed : List ℕ) (s e a : ℕ) → Valid c → length legal ≡ state_count c → length allowed ≡ state_count c * move_count c →
    LegalTable (game_of c) legal → AllowedTable (game_of c) (move_count c) legal allowed →
    s < state_count c → e < move_count c → a < answer_count c →
    bit (get_or allowed (s * move_count c + e) 0) a ≡ ((game_of c).moves s e && (game_of c).allowed s e a)
allowed_there c legal allowed s e a valid legal_size allowed_size L A hs he ha =
    A (s * move_count c + e) (entry c allowed s e allowed_size hs he) a (omega (arith, room c.answer valid.few_answer))
    ∙ (ap (λ t. bit (get_or legal t 0) ((s * move_count c + e) % move_count c) && (game_of c).allowed t ((s * move_count c + e) % move_count c) a) (div-mul-add s (move_count c) e he)
    ∙ (ap (λ m. bit (get_or legal s 0) m && (game_of c).allowed s m a) (mod-mul-add s (move_count c) e he)
    ∙ ap (λ b. b && (game_of c).allowed s e a) (L s (omega (arith, legal_size)) e (omega (arith, room c.moves valid.few_moves)))))

after_there : (c : Content) (allowed next : List ℕ) (s e a : ℕ) (b : Bool) → length allowed ≡ state_count c * move_count c →
    NextTable (game_of c) (move_count c) (answer_count c) allowed next →
    s < state_count c → e < move_count c → a < answer_count c → bit (get_or allowed (s * move_count c + e) 0) a ≡ b →
    get_or next ((s * move_count c + e) * answer_count c + a) 0 ≡ cond b ((game_of c).after s e a) 0
after_there c allowed next s e a b size N hs he ha is =
    N (s * move_count c + e) (entry c allowed s e size hs he) a ha
    ∙ (ap (λ b. cond b ((game_of c).after ((s * move_count c + e) / move_count c) ((s * move_count c + e) % move_count c) a) 0) is
    ∙ (ap (λ t. cond b ((game_of c).after t ((s * move_count c + e) % move_count c) a) 0) (div-mul-add s (move_count c) e he)
    ∙ ap (λ m. cond b ((game_of c).after s m a) 0) (mod-mul-add s (move_count c) e he)))

pub tabulated : (c : Content) (legal allowed next promises goals : List ℕ) → Valid c → Sized c legal allowed next promises goals →
    LegalTable (game_of c) legal → AllowedTable (game_of c) (move_count c) legal allowed →
    NextTable (game_of c) (move_count c) (answer_count c) allowed next →
    StateTable (holds_of c.promises) promises → StateTable (holds_of c.goals) goals →
    Tabulated c legal allowed next promises goals
tabulated c legal allowed next promises goals valid size L A N P G =
    record {
      moves_in = λ s e hs he. L s (omega (arith, size.legal_size)) e (omega (arith, room c.moves valid.few_moves));
      allowed_in = λ s e a. allowed_there c legal allowed s e a valid size.legal_size size.allowed_size L A;
      after_in = λ s e a hs he ha. after_there c allowed next s e a _ size.allowed_size N hs he ha
          (allowed_there c legal allowed s e a valid size.legal_size size.allowed_size L A hs he ha);
      promise_in = λ i s hi hs. P s (omega (arith, size.promises_size)) i hi;
      goal_in = λ j s hj hs. G s (omega (arith, size.goals_size)) j hj;
    }

-- the tables that were filled: as long as before, and with what they are to hold
pub filled : (c : Content) (l a n p g l' a' n' p' g' : List ℕ) → Valid c → Sized c l a n p g →
    length l' ≡ length l → length a' ≡ length a → length n' ≡ length n → length p' ≡ length p → length g' ≡ length g →
    LegalTable (game_of c) l' → AllowedTable (game_of c) (move_count c) l' a' →
    NextTable (game_of c) (move_count c) (answer_count c) a' n' →
    StateTable (holds_of c.promises) p' → StateTable (holds_of c.goals) g' →
    Sized c l' a' n' p' g' × Tabulated c l' a' n' p' g'
filled c l a n p g l' a' n' p' g' valid size el ea en ep eg L A N P G =
    let size' : Sized c l' a' n' p' g' =
    record {
      legal_size = el ∙ size.legal_size;
      allowed_size = ea ∙ size.allowed_size;
      next_size = en ∙ size.next_size;
      promises_size = ep ∙ size.promises_size;
      goals_size = eg ∙ size.goals_size;
    } in
    (size', tabulated c l' a' n' p' g' valid size' L A N P G)

-- sizes that were computed
pub computed_moves : (n s m x y : ℕ) → n ≡ x * y → s ≡ x → m ≡ y → n ≡ s * m
computed_moves n s m x y e es em = rw (es, em) e

pub computed_answers : (n s m r x y z : ℕ) → n ≡ x * y * z → s ≡ x → m ≡ y → r ≡ z → n ≡ s * m * r
computed_answers n s m r x y z e es em er = rw (es, em, er) e

-- ---- the states after are states

pub next_within : (c : Content) (legal allowed next promises goals : List ℕ) → Valid c → length next ≡ state_count c * move_count c * answer_count c →
    Tabulated c legal allowed next promises goals → (k : ℕ) → get_or next k 0 < state_count c
next_within c legal allowed next promises goals valid size T k =
    ⊎_elim
    (λ inside.
    let M = move_count c in
    let A = answer_count c in
    let row : k / A < state_count c * M = div_below k A (state_count c * M) (pow_pos c.answer) (omega (arith, size)) in
    let s : k / A / M < state_count c = div_below (k / A) M (state_count c) (pow_pos c.moves) row in
    let e : k / A % M < M = mod_below (k / A) M (pow_pos c.moves) in
    let a : k % A < A = mod_below k A (pow_pos c.answer) in
    let place : (k / A / M * M + k / A % M) * A + k % A ≡ k = ap (λ r. r * A + k % A) (div-add-mod' (k / A) M) ∙ div-add-mod' k A in
    let small : number c.next (k / A / M) (k / A % M) (k % A) < state_count c =
    subst (λ n. number c.next (k / A / M) (k / A % M) (k % A) < 2 ^ n) valid.each_bit (number_below c.next (k / A / M) (k / A % M) (k % A)) in
    subst (λ p. get_or next p 0 < state_count c) place
    (subst (λ n. n < state_count c) (sym (T.after_in (k / A / M) (k / A % M) (k % A) s e a)) (pick_below _ _ _ small)))
    (λ past. rw (get_or_past next k 0 past) (pow_pos c.state))
    (cases_lt k (length next))

-- ---- agreement

-- an arena has the sizes of the rules, and its tables are theirs
pub record ArenaOfRules (c : Content) (a : Arena) : Type 0 where
  pub states_is : a.states ≡ state_count c
  pub moves_is : a.moves ≡ move_count c
  pub answers_is : a.answers ≡ answer_count c
  pub promises_is : a.promise_count ≡ length c.promises
  pub goals_is : a.goal_count ≡ length c.goals
  pub tables : Tabulated c a.legal.now a.allowed.now a.next.now a.promises.now a.goals.now

-- two tests are the same where each follows from the other
same_test : (x y : Bool) → (x ≡ true → y ≡ true) → (y ≡ true → x ≡ true) → x ≡ y
same_test true y to from = sym (to refl)
same_test false true to from = from refl
same_test false false to from = refl

-- legal moves and allowed answers are in range
game_move : (c : Content) (s e : ℕ) → (game_of c).moves s e ≡ true → (s < state_count c) × (e < move_count c)
game_move c s e h =
    let p = and_parts (ltb s (state_count c)) _ h in
    let q = and_parts (ltb e (move_count c)) _ p.1 in
    (ltb-true s (state_count c) p.0, ltb-true e (move_count c) q.0)

game_answer : (c : Content) (s e k : ℕ) → (game_of c).allowed s e k ≡ true → k < answer_count c
game_answer c s e k h =
    let p = and_parts (ltb s (state_count c)) _ h in
    let q = and_parts (ltb e (move_count c)) _ p.1 in
    let r = and_parts (ltb k (answer_count c)) _ q.1 in
    ltb-true k (answer_count c) r.0

moves_there : (c : Content) (a : Arena) → ArenaOfRules c a → (s e : ℕ) → s < state_count c → e < move_count c →
    (arena_game a).moves s e ≡ (game_of c).moves s e
moves_there c a o s e hs he =
    sym (legal_bit a s e (omega (arith, o.states_is)) (omega (arith, o.moves_is))) ∙ o.tables.moves_in s e hs he

agree_moves : (c : Content) (a : Arena) → ArenaOfRules c a → (s e : ℕ) → (arena_game a).moves s e ≡ (game_of c).moves s e
agree_moves c a o s e =
    same_test _ _
    (λ h. let p = move_below a s e h in sym (moves_there c a o s e (omega (arith, o.states_is)) (omega (arith, o.moves_is))) ∙ h)
    (λ h. let p = game_move c s e h in moves_there c a o s e p.0 p.1 ∙ h)

answers_there : (c : Content) (a : Arena) → ArenaOfRules c a → (s e k : ℕ) → (game_of c).moves s e ≡ true → k < answer_count c →
    (arena_game a).allowed s e k ≡ (game_of c).allowed s e k
answers_there c a o s e k m hk =
    let p = game_move c s e m in
    sym (allowed_bit a s e k (omega (arith, o.states_is)) (omega (arith, o.moves_is)) (omega (arith, o.answers_is)))
    ∙ (ap (λ w. bit (get_or a.allowed.now (s * w + e) 0) k) o.moves_is
    ∙ (o.tables.allowed_in s e k p.0 p.1 hk ∙ ap (λ b. b && (game_of c).allowed s e k) m))

agree_allowed : (c : Content) (a : Arena) → ArenaOfRules c a → (s e k : ℕ) → (game_of c).moves s e ≡ true →
    (arena_game a).allowed s e k ≡ (game_of c).allowed s e k
agree_allowed c a o s e k m =
    same_test _ _
    (λ h. let p = answer_below a s e k h in sym (answers_there c a o s e k m (omega (arith, o.answers_is))) ∙ h)
    (λ h. answers_there c a o s e k m (game_answer c s e k h) ∙ h)

agree_after : (c : Content) (a : Arena) → ArenaOfRules c a → (s e k : ℕ) → (game_of c).moves s e ≡ true → (game_of c).allowed s e k ≡ true →
    (arena_game a).after s e k ≡ (game_of c).after s e k
unfolding arena_game
agree_after c a o s e k m fine =
    let p = game_move c s e m in
    ap (λ w. get_or a.next.now ((s * w + e) * a.answers + k) 0) o.moves_is
    ∙ (ap (λ w. get_or a.next.now ((s * move_count c + e) * w + k) 0) o.answers_is
    ∙ (o.tables.after_in s e k p.0 p.1 (game_answer c s e k fine)
    ∙ (ap (λ b. cond (b && (game_of c).allowed s e k) ((game_of c).after s e k) 0) m
    ∙ ap (λ b. cond b ((game_of c).after s e k) 0) fine)))

pub arena_agrees : (c : Content) (a : Arena) → ArenaOfRules c a → Agree (arena_game a) (game_of c)
unfolding arena_game
arena_agrees c a o =
    record {
      moves = agree_moves c a o;
      allowed = λ s e k m. agree_allowed c a o s e k (sym (agree_moves c a o s e) ∙ m);
      after = λ s e k m fine.
          let m' = sym (agree_moves c a o s e) ∙ m in
          agree_after c a o s e k m' (sym (agree_allowed c a o s e k m') ∙ fine);
      promises = o.promises_is;
      goals = o.goals_is;
      promise = λ i s e l m. o.tables.promise_in i s (omega (arith, a.most_promises)) (game_move c s e (sym (agree_moves c a o s e) ∙ m)).0;
      goal = λ j s e l m. o.tables.goal_in j s (omega (arith, a.most_goals)) (game_move c s e (sym (agree_moves c a o s e) ∙ m)).0;
    }
