-- Reading and writing whole rules files are inverse, both ways round.
use Rattle.std.proofs.Common.{◌≡◌, ℕ, ◌^◌, ◌≤◌, Bool, true, false, cond, ltb, List, [], ◌∷◌, ◌++◌, length, get_or, Ok, Err, sym, refl, ap, ◌∙◌, append_assoc, append-nil, arith, take_all, w8, Fits}
use Rattle.std.specs.List.{AllByRecursion}
use Rattle.std.proofs.ByRecursion.{All-from_get_or}
use Rattle.std.proofs.lemmas.Bool.{ltb-false}
use Rattle.formula.specs.declared.scope.Scope.{Scope}
use Rattle.formula.specs.declared.reading.Fault.TheVariants.{Long}
use Rattle.formula.specs.Reading.{scan}
use Rattle.formula.proofs.Inverse.{no_fault}
use Rattle.game.specs.declared.refusal.Refusal.{Refusal}
use Rattle.game.specs.declared.widths.Widths.{Widths}
use Rattle.game.specs.Content.{Content, Valid, Sound, file_of, with_length, with_lengths, two_bytes, move_scope, step_scope, state_scope}
use Rattle.game.specs.Reading.{part, refused, read_formula, read_formulas, read_widths, read_width, read_steps, read_group, read_start_group, read_end, rules_in}
use Rattle.game.specs.Laws.{Byte, fitted, RulesReadWritten, RulesWrittenRead}
use Rattle.game.specs.First.{no_refusal}
use Rattle.game.proofs.Rows.{went}
use Rattle.game.proofs.Whole.{Triple, Few, contents, after_widths, at_widths, at_steps, at_promises, at_goals, at_starts}
use Rattle.game.proofs.PartInverse.{Exact, exact_as, Inverse, Row, width_inverse, formula_inverse, formulas_inverse, group_inverse, start_group_inverse}

-- the counts of bits
abbrev pub widths_bytes : Widths → List ℕ
widths_bytes w = w.state ∷ w.moves ∷ w.answer ∷ []

widths_inverse : (whole : ℕ) → Inverse (read_widths whole) widths_bytes Few
widths_inverse whole = record { back = back; forth = forth }
  where
    back : (bs : List ℕ) (w : Widths) (rest : List ℕ) → AllByRecursion Byte bs → read_widths whole bs ≡ part w rest → Exact widths_bytes Few bs w rest
    back bs w rest all e =
        went (read_width whole 12 bs) _ w rest (λ s r₁ e₁. went (read_width whole 6 r₁) _ w rest (λ m r₂ e₂. went (read_width whole 6 r₂) _ w rest (λ a r₃ e₃ e₄.
        let x = (width_inverse whole 12).back bs s r₁ all e₁ in
        let y = (width_inverse whole 6).back r₁ m r₂ x.bytes e₂ in
        let z = (width_inverse whole 6).back r₂ a r₃ y.bytes e₃ in
        let said : record { state = s; moves = m; answer = a } ≡ w = cc in
        let left : r₃ ≡ rest = cc in
        exact_as said left
        (record {
          sound = record { state = x.sound; moves = y.sound; answer = z.sound };
          same = ap (λ r. s ∷ m ∷ r) z.same ∙ ap (λ r. s ∷ r) y.same ∙ x.same;
          bytes = z.bytes;
        })))) e

    forth : (w : Widths) (rest : List ℕ) → Few w → read_widths whole (widths_bytes w ++ rest) ≡ part w rest
    forth w rest f =
        rw (
          (width_inverse whole 12).forth w.state (w.moves ∷ w.answer ∷ rest) f.state,
          (width_inverse whole 6).forth w.moves (w.answer ∷ rest) f.moves,
          (width_inverse whole 6).forth w.answer rest f.answer,
        ) refl

-- the rules of a step
abbrev pub steps_bytes : Triple → List ℕ
steps_bytes t = with_length t.0 ++ (with_length t.1 ++ with_lengths t.2)

record SoundSteps (w : Widths) (t : Triple) : Type 0 where
  moves : Sound (move_scope w.state w.moves) t.0
  answers : Sound (step_scope w.state w.moves w.answer) t.1
  next : Row (Sound (step_scope w.state w.moves w.answer)) w.state t.2

-- three rows of bytes, and what follows them
three : (a b c rest : List ℕ) → (a ++ (b ++ c)) ++ rest ≡ a ++ (b ++ (c ++ rest))
three a b c rest = simp append_assoc

steps_inverse : (whole : ℕ) (w : Widths) → Inverse (read_steps whole w) steps_bytes (SoundSteps w)
steps_inverse whole w = record { back = back; forth = forth }
  where
    back : (bs : List ℕ) (t : Triple) (rest : List ℕ) → AllByRecursion Byte bs → read_steps whole w bs ≡ part t rest → Exact steps_bytes (SoundSteps w) bs t rest
    back bs t rest all e =
        went (read_formula whole (move_scope w.state w.moves) bs) _ t rest
        (λ m r₁ e₁. went (read_formula whole (step_scope w.state w.moves w.answer) r₁) _ t rest
        (λ a r₂ e₂. went (read_formulas whole (step_scope w.state w.moves w.answer) w.state r₂) _ t rest
        (λ next r₃ e₃ e₄.
        let x = (formula_inverse whole (move_scope w.state w.moves)).back bs m r₁ all e₁ in
        let y = (formula_inverse whole (step_scope w.state w.moves w.answer)).back r₁ a r₂ x.bytes e₂ in
        let z = (formulas_inverse whole (step_scope w.state w.moves w.answer) w.state).back r₂ next r₃ y.bytes e₃ in
        let said : ◌≡◌ {A = Triple} (m, a, next) t = cc in
        let left : r₃ ≡ rest = cc in
        exact_as said left
        (record {
          sound = record { moves = x.sound; answers = y.sound; next = z.sound };
          same = three (with_length m) (with_length a) (with_lengths next) r₃
              ∙ ap (λ r. with_length m ++ (with_length a ++ r)) z.same ∙ ap (λ r. with_length m ++ r) y.same ∙ x.same;
          bytes = z.bytes;
        })))) e

    forth : (t : Triple) (rest : List ℕ) → SoundSteps w t → read_steps whole w (steps_bytes t ++ rest) ≡ part t rest
    forth t rest f =
        ap (read_steps whole w) (three (with_length t.0) (with_length t.1) (with_lengths t.2) rest)
        ∙ rw (
          (formula_inverse whole (move_scope w.state w.moves)).forth t.0 (with_length t.1 ++ (with_lengths t.2 ++ rest)) f.moves,
          (formula_inverse whole (step_scope w.state w.moves w.answer)).forth t.1 (with_lengths t.2 ++ rest) f.answers,
          (formulas_inverse whole (step_scope w.state w.moves w.answer) w.state).forth t.2 rest f.next,
        ) refl

-- the bytes of a group
abbrev pub group_bytes : List (List ℕ) → List ℕ
group_bytes fs = length fs ∷ with_lengths fs

abbrev pub start_group_bytes : List ℕ → List ℕ
start_group_bytes ss = length ss ∷ two_bytes ss

-- nothing was left at the end
ended : {A : Type 0} (whole : ℕ) (a c : A) (rest : List ℕ) → read_end whole a rest ≡ part c [] → (a ≡ c) × (rest ≡ [])
ended whole a c [] e = (cc, refl)
ended whole a c (b ∷ bs) e = no_refusal e

-- the file, as the parts make it
pub file_parts : (w : Widths) (t : Triple) (ps gs : List (List ℕ)) (ss : List ℕ) →
    file_of (contents w t ps gs ss) ≡ widths_bytes w ++ (steps_bytes t ++ (group_bytes ps ++ (group_bytes gs ++ start_group_bytes ss)))
file_parts w t ps gs ss = ap (λ r. widths_bytes w ++ r) (sym (three (with_length t.0) (with_length t.1) (with_lengths t.2) _))

pub read_written : RulesReadWritten
unfolding rules_in
read_written file c all e =
    let n = length file in
    went (read_widths n file) (after_widths n) c [] (λ w r₁ e₁.
    went (read_steps n w r₁) _ c [] (λ t r₂ e₂.
    went (read_group n (state_scope w.state) 0 8 r₂) _ c [] (λ ps r₃ e₃.
    went (read_group n (state_scope w.state) 1 8 r₃) _ c [] (λ gs r₄ e₄.
    went (read_start_group n (2 ^ w.state) 1 16 r₄) _ c [] (λ ss r₅ e₅ e₆.
    let a = (widths_inverse n).back file w r₁ all e₁ in
    let b = (steps_inverse n w).back r₁ t r₂ a.bytes e₂ in
    let p = (group_inverse n (state_scope w.state) 0 8).back r₂ ps r₃ b.bytes e₃ in
    let g = (group_inverse n (state_scope w.state) 1 8).back r₃ gs r₄ p.bytes e₄ in
    let s = (start_group_inverse n (2 ^ w.state) 1 16).back r₄ ss r₅ g.bytes e₅ in
    let z = ended n (contents w t ps gs ss) c r₅ e₆ in
    let last : start_group_bytes ss ≡ r₄ = sym (append-nil (start_group_bytes ss)) ∙ ap (λ r. start_group_bytes ss ++ r) (sym z.1) ∙ s.same in
    rw (← z.0) (
      record {
        few_state = a.sound.state;
        few_moves = a.sound.moves;
        few_answer = a.sound.answer;
        sound_moves = b.sound.moves;
        sound_answers = b.sound.answers;
        each_bit = b.sound.next.0;
        sound_next = b.sound.next.1;
        few_promises = p.sound.0.1;
        sound_promises = p.sound.1;
        some_goal = g.sound.0.0;
        few_goals = g.sound.0.1;
        sound_goals = g.sound.1;
        some_start = s.sound.0.0;
        few_starts = s.sound.0.1;
        sound_starts = s.sound.1;
      },
      file_parts w t ps gs ss
          ∙ ap (λ r. widths_bytes w ++ (steps_bytes t ++ (group_bytes ps ++ (group_bytes gs ++ r)))) last
          ∙ ap (λ r. widths_bytes w ++ (steps_bytes t ++ (group_bytes ps ++ r))) g.same
          ∙ ap (λ r. widths_bytes w ++ (steps_bytes t ++ r)) p.same
          ∙ ap (λ r. widths_bytes w ++ r) b.same
          ∙ a.same,
    )))))) e

pub written_read : RulesWrittenRead
written_read c v =
    let n = length (file_of c) in
    let w : Widths = record { state = c.state; moves = c.moves; answer = c.answer } in
    let t : Triple = (c.move_rule, c.answer_rule, c.next) in
    let starts = start_group_bytes c.starts in
    let goals = group_bytes c.goals ++ starts in
    let promises = group_bytes c.promises ++ goals in
    let steps = steps_bytes t ++ promises in
    let file : file_of c ≡ widths_bytes w ++ steps = file_parts w t c.promises c.goals c.starts in
    at_widths (file_of c) (part w steps)
    (ap (read_widths n) file ∙ (widths_inverse n).forth w steps (record { state = v.few_state; moves = v.few_moves; answer = v.few_answer }))
    ∙ at_steps n n w steps (part t promises) refl
    ((steps_inverse n w).forth t promises (record { moves = v.sound_moves; answers = v.sound_answers; next = (v.each_bit, v.sound_next) }))
    ∙ at_promises n n w (state_scope c.state) t promises (part c.promises goals) refl refl
    ((group_inverse n (state_scope c.state) 0 8).forth c.promises goals ((omega arith, v.few_promises), v.sound_promises))
    ∙ at_goals n n w (state_scope c.state) t c.promises goals (part c.goals starts) refl refl
    ((group_inverse n (state_scope c.state) 1 8).forth c.goals starts ((v.some_goal, v.few_goals), v.sound_goals))
    ∙ at_starts n n (2 ^ c.state) w t c.promises c.goals starts (part c.starts []) refl refl
    (ap (read_start_group n (2 ^ c.state) 1 16) (sym (append-nil starts))
    ∙ (start_group_inverse n (2 ^ c.state) 1 16).forth c.starts [] ((v.some_start, v.few_starts), v.sound_starts))

-- The same for what a reader of rules promises: `file` are the bytes of a slice.
-- the bytes of a slice are bytes
pub slice_bytes : (xs : List ℕ) → ((i : ℕ) → Fits w8 (get_or xs i 0)) → AllByRecursion Byte xs
slice_bytes xs h = All-from_get_or Byte xs 0 (λ i _. (h i).fits)

-- what is valid and has these bytes is what was read
pub only_one : (file : List ℕ) (c d : Content) → rules_in file ≡ part c [] → Valid d → file_of d ≡ file → c ≡ d
only_one file c d e v same = let f : rules_in file ≡ part d [] = ap rules_in (sym same) ∙ written_read d v in cc

-- nothing valid has bytes that are refused
pub none_valid : (file : List ℕ) (r : Refusal) → rules_in file ≡ refused r → (d : Content) → Valid d → file_of d ≡ file → ⊥
none_valid file r e d v same = no_refusal (sym e ∙ ap rules_in (sym same) ∙ written_read d v)

-- a formula that is read has at most 255 bytes
sound_short : (sc : Scope) (bs : List ℕ) → Sound sc bs → length bs ≤ 255
sound_short sc bs = by (ltb 255 (length bs)) refl
  where
    by : (t : Bool) → ltb 255 (length bs) ≡ t → cond t (Err Long) (scan sc 0 1 bs) ≡ Ok tt → length bs ≤ 255
    by true h e = absurd (no_fault Long e)
    by false h e = omega (arith, ltb-false 255 (length bs) h)

-- so valid rules are written as they are
pub valid_fitted : (c : Content) → Valid c → fitted c ≡ c
valid_fitted c v =
    rw (take_all 255 c.move_rule (sound_short _ c.move_rule v.sound_moves), take_all 255 c.answer_rule (sound_short _ c.answer_rule v.sound_answers)) refl
