-- The whole file from its parts, one by one: `n` is the file's length as the reader has it at that part.
use Rattle.std.proofs.Common.{◌≡◌, ℕ, ◌-◌, ◌^◌, ◌<◌, ◌≤◌, min, Bool, true, false, cond, leb, List, [], ◌∷◌, length, sym, refl, ap, ◌∙◌, arith}
use Rattle.std.proofs.lemmas.Bool.{leb-true}
use Rattle.game.specs.First.{no_refusal}
use Rattle.game.proofs.Rows.{went}
use Rattle.formula.specs.declared.scope.Scope.{Scope}
use Rattle.game.specs.declared.widths.Widths.{Widths}
use Rattle.game.specs.declared.refusal.Refusal.TheVariants.{GoesOn, Bits}
use Rattle.game.specs.declared.rules.StepRules.{StepRules}
use Rattle.game.specs.Content.{Content, state_scope, formulas_of, steps_of}
use Rattle.game.specs.Reading.{Step, part, refused, then, read_width, read_widths, read_steps, read_group, read_start_group, read_end, rules_in}

abbrev pub Triple : Type 0
Triple = List ℕ × List ℕ × List (List ℕ)

abbrev pub contents : Widths → Triple → List (List ℕ) → List (List ℕ) → List ℕ → Content
contents w t ps gs ss =
    record {
      state = w.state;
      moves = w.moves;
      answer = w.answer;
      move_rule = t.0;
      answer_rule = t.1;
      next = t.2;
      promises = ps;
      goals = gs;
      starts = ss;
    }

-- what is read after each part
abbrev pub after_goals : ℕ → Widths → Triple → List (List ℕ) → List (List ℕ) → List ℕ → Step Content
after_goals n w t ps gs rest = then (read_start_group n (2 ^ w.state) 1 16 rest) (λ ss rest. read_end n (contents w t ps gs ss) rest)

abbrev pub after_promises : ℕ → Widths → Triple → List (List ℕ) → List ℕ → Step Content
after_promises n w t ps rest = then (read_group n (state_scope w.state) 1 8 rest) (after_goals n w t ps)

abbrev pub after_steps : ℕ → Widths → Triple → List ℕ → Step Content
after_steps n w t rest = then (read_group n (state_scope w.state) 0 8 rest) (after_promises n w t)

abbrev pub after_widths : ℕ → Widths → List ℕ → Step Content
after_widths n w rest = then (read_steps n w rest) (after_steps n w)

-- one part, with the reader's length for the file's
step : {A : Type 0} (read : ℕ → Step A) (k : A → List ℕ → Step Content) (n m : ℕ) (x : Step A) → n ≡ m → read n ≡ x →
    then (read m) k ≡ then x k
step read k n m x e h = ap (λ l. then (read l) k) (sym e) ∙ ap (λ s. then s k) h

pub at_widths : (file : List ℕ) (x : Step Widths) → read_widths (length file) file ≡ x → rules_in file ≡ then x (after_widths (length file))
unfolding rules_in
at_widths file x h = step (λ n. read_widths n file) (after_widths (length file)) (length file) (length file) x refl h

pub at_steps : (n m : ℕ) (w : Widths) (rest : List ℕ) (x : Step Triple) → n ≡ m → read_steps n w rest ≡ x →
    after_widths m w rest ≡ then x (after_steps m w)
at_steps n m w rest x e h = step (λ l. read_steps l w rest) (after_steps m w) n m x e h

pub at_promises : (n m : ℕ) (w : Widths) (sc : Scope) (t : Triple) (rest : List ℕ) (x : Step (List (List ℕ))) → n ≡ m →
    sc ≡ state_scope w.state → read_group n sc 0 8 rest ≡ x → after_steps m w t rest ≡ then x (after_promises m w t)
at_promises n m w sc t rest x e s h =
    step (λ l. read_group l (state_scope w.state) 0 8 rest) (after_promises m w t) n m x e
    (ap (λ k. read_group n k 0 8 rest) (sym s) ∙ h)

pub at_goals : (n m : ℕ) (w : Widths) (sc : Scope) (t : Triple) (ps : List (List ℕ)) (rest : List ℕ) (x : Step (List (List ℕ))) →
    n ≡ m → sc ≡ state_scope w.state → read_group n sc 1 8 rest ≡ x →
    after_promises m w t ps rest ≡ then x (after_goals m w t ps)
at_goals n m w sc t ps rest x e s h =
    step (λ l. read_group l (state_scope w.state) 1 8 rest) (after_goals m w t ps) n m x e
    (ap (λ k. read_group n k 1 8 rest) (sym s) ∙ h)

pub at_starts : (n m states : ℕ) (w : Widths) (t : Triple) (ps gs : List (List ℕ)) (rest : List ℕ) (x : Step (List ℕ)) → n ≡ m →
    states ≡ 2 ^ w.state → read_start_group n states 1 16 rest ≡ x →
    after_goals m w t ps gs rest ≡ then x (λ ss rest. read_end m (contents w t ps gs ss) rest)
at_starts n m states w t ps gs rest x e s h =
    step (λ l. read_start_group l (2 ^ w.state) 1 16 rest) (λ ss rest. read_end m (contents w t ps gs ss) rest) n m x e
    (ap (λ k. read_start_group n k 1 16 rest) (sym s) ∙ h)

pub at_more : {A : Type 0} (n m : ℕ) (a : A) (rest : List ℕ) → n ≡ m → 0 < length rest → read_end m a rest ≡ refused (GoesOn (n - length rest))
at_more n m a [] e h = absurd (omega arith)
at_more n m a (b ∷ bs) e h = ap (λ k. refused (GoesOn (k - length (b ∷ bs)))) (sym e)

-- a count of bits that was read is within its limit
width_fits : (n most : ℕ) (bs : List ℕ) (b : ℕ) (rest : List ℕ) → read_width n most bs ≡ part b rest → b ≤ most
width_fits n most [] b rest e = no_refusal e
width_fits n most (x ∷ bs) b rest e = by (leb x most) refl e
  where
    by : (t : Bool) → leb x most ≡ t → ◌≡◌ {A = Step ℕ} (cond t (part x bs) (refused (Bits (n - length (x ∷ bs))))) (part b rest) → b ≤ most
    by true h e = let same : x ≡ b = cc in omega (arith, leb-true x most h)
    by false h e = no_refusal e

-- and so are all three
pub record Few (w : Widths) : Type 0 where
  pub state : w.state ≤ 12
  pub moves : w.moves ≤ 6
  pub answer : w.answer ≤ 6

pub widths_few : (n : ℕ) (bs : List ℕ) (w : Widths) (end : List ℕ) → read_widths n bs ≡ part w end → Few w
widths_few n bs w end =
    went (read_width n 12 bs) _ w end (λ s r₁ e₁. went (read_width n 6 r₁) _ w end (λ m r₂ e₂. went (read_width n 6 r₂) _ w end (λ a r₃ e₃ e.
    few s m a (width_fits n 12 bs s r₁ e₁) (width_fits n 6 r₁ m r₂ e₂) (width_fits n 6 r₂ a r₃ e₃) (cc))))
  where
    few : (s m a : ℕ) → s ≤ 12 → m ≤ 6 → a ≤ 6 → w ≡ record { state = s; moves = m; answer = a } → Few w
    few s m a x y z e =
        record { state = omega (arith, ap (λ v. v.state) e); moves = omega (arith, ap (λ v. v.moves) e); answer = omega (arith, ap (λ v. v.answer) e) }

-- so the number of states is the one that the rules speak of
pub few_states : {n : ℕ} {w : Widths} → n ≡ 2 ^ min w.state 12 → Few w → n ≡ 2 ^ w.state
few_states {n} {w} e f = let same : min w.state 12 ≡ w.state = omega (arith, f.state) in e ∙ ap (λ k. 2 ^ k) same

-- the rules in memory say what was read: no limit took anything away
pub at_end : (n : ℕ) (w : Widths) (st : StepRules) (ps gs : List (List ℕ)) (ss rest : List ℕ) → rest ≡ [] → Few w → st.next.count ≡ w.state →
    read_end n (contents w (steps_of st) ps gs ss) rest
    ≡ part (record {
      state = min w.state 12;
      moves = min w.moves 6;
      answer = min w.answer 6;
      move_rule = st.moves.bytes.now;
      answer_rule = st.answers.bytes.now;
      next = formulas_of (min st.next.count 12) st.next.bytes.now;
      promises = ps;
      goals = gs;
      starts = ss;
    }) []
at_end n w st ps gs ss rest e f k =
    let s : min w.state 12 ≡ w.state = omega (arith, f.state) in
    let m : min w.moves 6 ≡ w.moves = omega (arith, f.moves) in
    let a : min w.answer 6 ≡ w.answer = omega (arith, f.answer) in
    let b : min st.next.count 12 ≡ st.next.count = omega (arith, f.state, k) in
    rw (e, s, m, a, b) refl
