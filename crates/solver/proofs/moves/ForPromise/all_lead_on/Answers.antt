use Rattle.std.proofs.Common.{ℕ, ◌<◌, Bool, true, false, MatchBool, length, refl, ◌∙◌, subst, zero-add, arith, rules}
use borrow.Author.Tests.{tests}
use Rattle.std.specs.List.{AllWithin, HoldsAt, range_with_len}
use Rattle.std.proofs.lemmas.Iterator.{YieldsList-from_range, cases_from_all}
use Rattle.std.proofs.lemmas.List.FromFn.{length-range_with_len, get_or-range_with_len}
use Rattle.solver.specs.Chosen.{LeadsOn, LeadsOff}
use Rattle.solver.proofs.moves.ForPromise.all_lead_on.Goals as goal

-- the same of the numbers below n as of their list
numbers : (r : Bool) (n : ℕ) (Yes No : ℕ → Type 0) →
    MatchBool r (AllWithin Yes (range_with_len 0 n) 0 (length (range_with_len 0 n)))
    ((k : ℕ) × (k < length (range_with_len 0 n)) × HoldsAt No (range_with_len 0 n) k) →
    MatchBool r ((a : ℕ) → a < n → Yes a) ((a : ℕ) × (a < n) × No a)
numbers true n Yes No h = λ a l.
    subst Yes (get_or-range_with_len 0 n a 0 l ∙ zero-add a) (h a 0 (omega arith) (omega (arith, length-range_with_len 0 n)))
numbers false n Yes No h =
    let l : h.0 < n = omega (arith, length-range_with_len 0 n) in
    (h.0, l, subst No (get_or-range_with_len 0 n h.0 0 l ∙ zero-add h.0) (h.2 0))

pub returns : goal.returns
returns c =
    numbers _ c.args.self.arena.answers (LeadsOn c.args.self c.args.s c.args.e) (LeadsOff c.args.self c.args.s c.args.e)
    (cases_from_all _ _ _ (LeadsOn c.args.self c.args.s c.args.e) (LeadsOff c.args.self c.args.s c.args.e) c.all.ensures.ran
    (YieldsList-from_range 0 c.args.self.arena.answers c.args.self.arena.answers refl (omega arith))
    (λ x q k. search (rules, tests)) (λ x q k. search (rules, tests)))
