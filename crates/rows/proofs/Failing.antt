-- Loops that test number after number, as the code makes them, and the verdicts that they come to.
--   none_all, all_none                     what it means that a test fails nowhere
--   all_over, each                         a test of each number below a bound
--   decides_verdict, sized                 when a verdict is acceptance
--   under, implied, implies_by, and_assoc  tests that are asked only where another is true
use Rattle.std.proofs.Common.{◌≡◌, ℕ, zero, suc, ◌+◌, ◌-◌, ◌^◌, ◌<◌, ◌≤◌, Bool, true, false, cond, not, ◌&&◌, ltb, List, length, is_ok, Some, None, Decides, Option, MatchOption, refl, ap, ◌∙◌, ⊎_elim, arith}
use Rattle.std.proofs.lemmas.Bool.{cases_lt, ltb-true, ltb-false, false≢true}
use Rattle.game.specs.declared.refusal.Refusal.{Refusal}
use Rattle.game.specs.declared.refusal.Refusal.TheVariants.{UnknownStart, CutOff, GoesOn}
use Rattle.game.specs.Content.{Content}
use Rattle.std.specs.Option.{option_map}
use Rattle.game.specs.Finite.{all, implies}
use Rattle.game.proofs.Tested.{decides_all}
use Rattle.rows.specs.Rows.{missized}
use Rattle.std.specs.List.{find, list_all, range_with_len, FoldsTo}
use Rattle.std.specs.Fn.{Called, Mut}
use Rattle.std.specs.Iterator.{YieldsThen}
use Rattle.std.specs.declared.ops.Range.{Range}
use Rattle.std.proofs.iter.Yields.{nat_range_steps}
use Rattle.std.proofs.lemmas.Iterator.{YieldsList-from_range}
use Rattle.std.proofs.lemmas.Iterator.Search.{all_from_yields_List}
use Rattle.rows.specs.Faults.{first_failing, count_of, start_known, settled, verdict_of}

-- where none fails, each passes; and the other way round
from_none : (test : ℕ → Bool) (a n : ℕ) → find (λ k. not (test k)) (range_with_len a n) ≡ None → (k : ℕ) → a ≤ k → k < a + n → test k ≡ true
from_none test a zero e k h l = absurd (omega arith)
from_none test a (suc n) e k h l = by (test a) refl e (λ p m. from_none test (a + 1) n p k m (omega arith))
  where
    by : (t : Bool) → test a ≡ t → cond (not t) (Some a) (find (λ i. not (test i)) (range_with_len (a + 1) n)) ≡ None →
        (find (λ i. not (test i)) (range_with_len (a + 1) n) ≡ None → a + 1 ≤ k → test k ≡ true) → test k ≡ true
    by false q e rest = cc
    by true q e rest = ⊎_elim (λ m. rest e (omega arith)) (λ m. let same : k ≡ a = omega arith in ap test same ∙ q) (cases_lt a k)

to_none : (test : ℕ → Bool) (a n : ℕ) → ((k : ℕ) → a ≤ k → k < a + n → test k ≡ true) → find (λ k. not (test k)) (range_with_len a n) ≡ None
to_none test a zero each = refl
to_none test a (suc n) each = rw (each a (omega arith) (omega arith), to_none test (a + 1) n (λ k h l. each k (omega arith) (omega arith))) refl

pub none_all : (test : ℕ → Bool) (n : ℕ) → first_failing n test ≡ None → (k : ℕ) → k < n → test k ≡ true
none_all test n e k h = from_none test 0 n e k (omega arith) (omega arith)

pub all_none : (test : ℕ → Bool) (n : ℕ) → ((k : ℕ) → k < n → test k ≡ true) → first_failing n test ≡ None
all_none test n each = to_none test 0 n (λ k h l. each k (omega arith))

-- a test of all the numbers below a bound, which the code lists from the front on
swap : (x y z : Bool) → (x && (y && z)) ≡ (y && (x && z))
swap true y z = refl
swap false true z = refl
swap false false z = refl

last_listed : (test : ℕ → Bool) (a n : ℕ) → list_all test (range_with_len a (suc n)) ≡ (test (a + n) && list_all test (range_with_len a n))
last_listed test a zero = let e : a ≡ a + 0 = omega arith in ap (λ k. test k && true) e
last_listed test a (suc n) =
    let e : a + 1 + n ≡ a + suc n = omega arith in
    ap (λ b. test a && b) (last_listed test (a + 1) n) ∙ swap (test a) (test (a + 1 + n)) (list_all test (range_with_len (a + 1) n))
    ∙ ap (λ k. test k && (test a && list_all test (range_with_len (a + 1) n))) e

all_listed : (test : ℕ → Bool) (n : ℕ) → list_all test (range_with_len 0 n) ≡ all n test
all_listed test zero = refl
all_listed test (suc n) =
    let e : 0 + n ≡ n = omega arith in
    last_listed test 0 n ∙ ap (λ k. test k && list_all test (range_with_len 0 n)) e ∙ ap (λ b. test n && b) (all_listed test n)

all_same : (f g : ℕ → Bool) (n : ℕ) → ((k : ℕ) → k < n → f k ≡ g k) → all n f ≡ all n g
all_same f g zero h = refl
all_same f g (suc n) h = rw (h n (omega arith), all_same f g n (λ k l. h k (omega arith))) refl

-- `all` over a range: the code's test is f and its bound n; those of the definition are g and m
pub all_over : {F : Type 0} {calls : Mut F (ℕ × Unit {0}) Bool} (f g : ℕ → Bool) (n m : ℕ) {left : Range ℕ} {closure : F} {r : Bool} →
    (xs : List ℕ) × (o : Option ℕ) × (j : F) × YieldsThen nat_range_steps (record { start = 0; end = n }) xs o left
    × FoldsTo (λ p x q. Called calls p (x, tt) true q) closure xs j
    × MatchOption o (r ≡ true) (λ x. (r ≡ false) × ((h : F) × Called calls j (x, tt) false h)) →
    ((x : ℕ) (b : Bool) (q : F) → Called calls closure (x, tt) b q → (q ≡ closure) × (b ≡ f x)) → n ≡ m →
    ((k : ℕ) → k < m → f k ≡ g k) → r ≡ all m g
all_over f g n m ran test same each =
    let whole : n - 0 ≡ n = omega arith in
    all_from_yields_List f _ _ _ ran (YieldsList-from_range 0 n n refl whole) test
    ∙ all_listed f n ∙ ap (λ k. all k f) same ∙ all_same f g m each

no_fault : {o : Option ℕ} {k : ℕ} → o ≡ Some k → o ≡ None → ⊥
no_fault p q = let z : ◌≡◌ {A = ℕ} 0 1 = cc in omega arith

-- whether there is no refusal
abbrev pub is_none : Option Refusal → Bool
is_none None = true
is_none (Some e) = false

-- a verdict is acceptance exactly if every state holds together and every start is known
pub decides_verdict : (c : Content) (sound known : ℕ → Bool) (blame : ℕ → Refusal) →
    Decides (is_ok (verdict_of c sound known blame))
    (((s : ℕ) → s < 2 ^ c.state → sound s ≡ true) × ((k : ℕ) → k < length c.starts → start_known known c.starts k ≡ true))
decides_verdict c sound known blame =
    by (first_failing (2 ^ c.state) sound) (first_failing (length c.starts) (start_known known c.starts)) refl refl
  where
    by : (f u : Option ℕ) → first_failing (2 ^ c.state) sound ≡ f → first_failing (length c.starts) (start_known known c.starts) ≡ u →
        Decides (is_ok (settled (option_map blame f) (option_map UnknownStart u) (count_of (2 ^ c.state) known)))
        (((s : ℕ) → s < 2 ^ c.state → sound s ≡ true) × ((k : ℕ) → k < length c.starts → start_known known c.starts k ≡ true))
    by (Some s) u p q = (λ e. absurd (false≢true e), λ both. absurd (no_fault (p ∙ refl) (all_none sound _ both.0)))
    by None (Some k) p q = (λ e. absurd (false≢true e), λ both. absurd (no_fault q (all_none (start_known known c.starts) _ both.1)))
    by None None p q = (λ _. (none_all sound _ p, none_all (start_known known c.starts) _ q), λ _. refl)

-- bytes of the right length, and only they, are not missized
pub sized : (n : ℕ) (bs : List ℕ) → Decides (is_none (missized n bs)) (length bs ≡ n)
sized n bs = by (ltb (length bs) n) (ltb n (length bs)) refl refl
  where
    by : (a b : Bool) → ltb (length bs) n ≡ a → ltb n (length bs) ≡ b →
        Decides (is_none (cond a (Some (CutOff (length bs))) (cond b (Some (GoesOn n)) None))) (length bs ≡ n)
    by true b p q = (λ e. absurd (false≢true e), λ e. absurd (let h = ltb-true _ _ p in omega arith))
    by false true p q = (λ e. absurd (false≢true e), λ e. absurd (let h = ltb-true _ _ q in omega arith))
    by false false p q = (λ _. let h = ltb-false _ _ p in let k = ltb-false _ _ q in omega arith, λ _. refl)

-- a test of each number below a bound is true exactly if it is true at each
pub each : (test : ℕ → Bool) (n : ℕ) → Decides (all n test) ((k : ℕ) → k < n → test k ≡ true)
each test n = decides_all test (λ k. test k ≡ true) (λ k. (λ e. e, λ e. e)) n

-- tests that are equal where a first one is true
pub under : (b : Bool) {x y : Bool} → (b ≡ true → x ≡ y) → implies b x ≡ implies b y
under true f = f refl
under false f = refl

pub and_assoc : (x y z : Bool) → (x && (y && z)) ≡ ((x && y) && z)
and_assoc true y z = refl
and_assoc false y z = refl

-- a test that is asked only where another is true
pub implied : (b x : Bool) → implies b x ≡ true → b ≡ true → x ≡ true
implied true x e h = e
implied false x e h = absurd (false≢true h)

pub implies_by : (b x : Bool) → (b ≡ true → x ≡ true) → implies b x ≡ true
implies_by true x f = f refl
implies_by false x f = refl
