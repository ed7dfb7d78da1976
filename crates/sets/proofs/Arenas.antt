-- What the arena's tables say of its game.
--   legal_bit, allowed_bit      in range, a move is legal and an answer allowed as its bit says
--   place_move                  where the entry of a move stands
--   move_below, answer_below    legal moves and allowed answers are in range
--   after_below                 the state after is a state
--   promises_is, goals_is       how many promises and goals there are
use Rattle.std.proofs.Common.{◌≡◌, ℕ, ◌+◌, ◌*◌, ◌<◌, true, ltb, get_or, refl, subst, mul_comm, ltb-true, lt-ltb}
use Rattle.std.proofs.lemmas.Nat.{mul-add-lt}
use Rattle.std.proofs.lemmas.Bool.{and_parts}
use Rattle.formula.specs.Bits.{bit}
use Rattle.sets.specs.Arena.{arena_game}
use Rattle.sets.specs.declared.arena.Arena.{Arena}

pub legal_bit : (a : Arena) (s e : ℕ) → s < a.states → e < a.moves →
    bit (get_or a.legal.now s 0) e ≡ (arena_game a).moves s e
unfolding arena_game
legal_bit a s e hs he = simp (lt-ltb s a.states hs, lt-ltb e a.moves he) refl

pub allowed_bit : (a : Arena) (s e k : ℕ) → s < a.states → e < a.moves → k < a.answers →
    bit (get_or a.allowed.now (s * a.moves + e) 0) k ≡ (arena_game a).allowed s e k
unfolding arena_game
allowed_bit a s e k hs he hk =
    simp (lt-ltb s a.states hs, lt-ltb e a.moves he, lt-ltb k a.answers hk) refl

pub place_move : (s m e n : ℕ) → s < n → e < m → s * m + e < n * m
place_move s m e n hs he = subst (λ (x : ℕ). s * m + e < x) (mul_comm m n) (mul-add-lt s m e n hs he)

pub move_below : (a : Arena) (s e : ℕ) → (arena_game a).moves s e ≡ true → (s < a.states) × (e < a.moves)
unfolding arena_game
move_below a s e h =
    let p = and_parts _ _ h in
    let q = and_parts _ _ p.1 in
    (ltb-true s a.states p.0, ltb-true e a.moves q.0)

pub answer_below : (a : Arena) (s e k : ℕ) → (arena_game a).allowed s e k ≡ true → k < a.answers
unfolding arena_game
answer_below a s e k h =
    let p = and_parts (ltb s a.states) _ h in
    let q = and_parts (ltb e a.moves) _ p.1 in
    let r = and_parts (ltb k a.answers) _ q.1 in
    ltb-true k a.answers r.0

pub after_below : (a : Arena) (s e k : ℕ) → (arena_game a).after s e k < a.states
unfolding arena_game
after_below a s e k = a.next_within _

pub promises_is : (a : Arena) → (arena_game a).promises ≡ a.promise_count
unfolding arena_game
promises_is a = refl

pub goals_is : (a : Arena) → (arena_game a).goals ≡ a.goal_count
unfolding arena_game
goals_is a = refl
