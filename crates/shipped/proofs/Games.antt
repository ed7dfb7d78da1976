-- The shipped games, by their computed tests.
--   shipped_games  the theorem
-- What the bytes say is computed by the reading itself, and each `refl` after that is a test that comes out true.
use Rattle.std.proofs.Common.{refl, arith}
use Rattle.std.proofs.lemmas.Bool.{false≢true, ltb-true, eqb-true}
use Rattle.formula.specs.Reading.{forest}
use Rattle.game.specs.Game.{goal_after}
use Rattle.game.specs.Reading.{rules_in}
use Rattle.shipped.specs.Bytes.{a_bytes, b_bytes, c_bytes, c1_bytes, d_bytes, e_bytes, f_bytes, g_bytes}
use Rattle.shipped.specs.Strategies.{no_plan, no_counter, a_plan, b_plan, c_plan, d_plan, c1_counter, e_counter, f_plan, f_counter, g_counter}
use Rattle.shipped.specs.Table.{everywhere, nowhere, only, Answered, ShippedGames}
use Rattle.shipped.proofs.Judged.{judged}

a : Answered a_bytes 4 everywhere a_plan no_counter
unfolding rules_in forest goal_after
a = judged a_bytes everywhere a_plan no_counter _ refl (omega arith) (λ s known. absurd (false≢true known)) refl refl refl

b : Answered b_bytes 16 everywhere b_plan no_counter
unfolding rules_in forest goal_after
b = judged b_bytes everywhere b_plan no_counter _ refl (omega arith) (λ s known. absurd (false≢true known)) refl refl refl

c : Answered c_bytes 4 everywhere c_plan no_counter
unfolding rules_in forest goal_after
c = judged c_bytes everywhere c_plan no_counter _ refl (omega arith) (λ s known. absurd (false≢true known)) refl refl refl

d : Answered d_bytes 8 everywhere d_plan no_counter
unfolding rules_in forest goal_after
d = judged d_bytes everywhere d_plan no_counter _ refl (omega arith) (λ s known. absurd (false≢true known)) refl refl refl

c1 : Answered c1_bytes 4 nowhere no_plan c1_counter
unfolding rules_in forest goal_after
c1 = judged c1_bytes nowhere no_plan c1_counter _ refl (omega arith) (λ s. ltb-true s 4) refl refl refl

e : Answered e_bytes 4 nowhere no_plan e_counter
unfolding rules_in forest goal_after
e = judged e_bytes nowhere no_plan e_counter _ refl (omega arith) (λ s. ltb-true s 4) refl refl refl

g : Answered g_bytes 8 nowhere no_plan g_counter
unfolding rules_in forest goal_after
g = judged g_bytes nowhere no_plan g_counter _ refl (omega arith) (λ s. ltb-true s 8) refl refl refl

f : Answered f_bytes 2 (only 1) f_plan f_counter
unfolding rules_in forest goal_after
f = judged f_bytes (only 1) f_plan f_counter _ refl (omega arith) (λ s known. omega (arith, eqb-true s 0 known)) refl refl refl

pub shipped_games : ShippedGames
shipped_games = record { a = a; b = b; c = c; c1 = c1; d = d; e = e; f = f; g = g }
