-- One turn of the inner loop, state by state.
--   shrunk_miss, -hit          a state stays; a state is taken out
--   along3                        a fact of three values, at values that are equal to them
use Rattle.std.proofs.Common.{◌≡◌, ℕ, ◌+◌, ◌<◌, false, List, length, set, sym, refl, ◌∙◌, subst, arith}
use Rattle.game.specs.Game.{Game}
use Rattle.sets.specs.Member.{Set, member, Put}
use Rattle.sets.specs.Count.{count}
use Rattle.sets.proofs.Counts.{count_out}
use Rattle.solver.specs.Reasons.{cell}
use Rattle.solver.specs.Stay.{Leaves, Remains, Shrunk}
use Rattle.solver.proofs.Sweeps.{marked_none, put_changed, set_changed, marked_miss, marked_hit}

pub along3 : {A B C : Type 0} (P : A → B → C → Type 0) {a a' : A} {b b' : B} {k k' : C} → a ≡ a' → b ≡ b' → k ≡ k' → P a' b' k' → P a b k
along3 P {a} {a'} {b} {b'} {k} {k'} ea eb ek p =
    subst (λ x. P x b k) (sym ea) (subst (λ x. P a' x k) (sym eb) (subst (λ x. P a' b' x) (sym ek) p))

pub along4 : {A B C D : Type 0} (P : A → B → C → D → Type 0) {a a' : A} {b b' : B} {k k' : C} {d d' : D} →
    a ≡ a' → b ≡ b' → k ≡ k' → d ≡ d' → P a' b' k' d' → P a b k d
along4 P {a} {a'} {b} {b'} {k} {k'} {d} {d'} ea eb ek ed p =
    along3 (λ x y z. P x y z d) ea eb ek (subst (λ x. P a' b' k' x) (sym ed) p)

pub along2 : {A B : Type 0} (P : A → B → Type 0) {a a' : A} {b b' : B} → a ≡ a' → b ≡ b' → P a' b' → P a b
along2 P {a} {a'} {b} {b'} ea eb p = subst (λ x. P x b) (sym ea) (subst (λ x. P a' x) (sym eb) p)

pub shrunk_none : (g : Game) (F : Set) (i n : ℕ) (before turns : List ℕ) (turn : ℕ) (stay : List ℕ) → before ≡ stay →
    Shrunk g F i n before turns turn 0 stay turns 0
shrunk_none g F i n before turns turn stay e =
    subst (λ (x : List ℕ). Shrunk g F i n before turns turn 0 x turns 0) e
    (record {
      marked = marked_none _ _ false (member before) turn (cell turns) turn (cell turns);
      counted = omega arith;
      same = λ _. refl;
      few = omega arith;
    })

module _ (g : Game) (F : Set) (i n : ℕ) (before turns₀ : List ℕ) (turn s : ℕ) (stay turns : List ℕ) (removed : ℕ)
    (inv : Shrunk g F i n before turns₀ turn s stay turns removed) where
  pub shrunk_miss : Remains g F i (member before) s → Shrunk g F i n before turns₀ turn (s + 1) stay turns removed
  shrunk_miss r =
      record {
        marked = marked_miss _ _ s false _ _ turn _ _ turn _ _ inv.marked r;
        counted = inv.counted;
        same = inv.same;
        few = omega (arith, inv.few);
      }

  pub shrunk_hit : (stay' : List ℕ) → s < n → s < length turns → Leaves g F i (member before) s → Put stay s false stay' →
      Shrunk g F i n before turns₀ turn (s + 1) stay' (set turns s turn) (removed + 1)
  shrunk_hit stay' l lt leave p =
      let cX = put_changed stay stay' s false p in
      let cT = set_changed turns s turn lt in
      let out : count n (member stay') + 1 ≡ count n (member stay) =
      count_out n (member stay) (member stay') s l ((inv.marked.rest s (omega arith)).0 ∙ leave.0) cX.0 cX.1 in
      record {
        marked = marked_hit _ _ s false _ _ _ turn _ _ _ turn _ _ _ inv.marked leave cX cT cT;
        counted = omega (arith, out, inv.counted);
        same = λ e. absurd (omega arith);
        few = omega (arith, inv.few);
      }
