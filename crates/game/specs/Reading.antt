-- What is read from the bytes of a rules file, or which refusal at which place: for every row of bytes. Assumes nothing.
--   Step, then                         what one part gives: a value and the bytes left, or a refusal
--   read_byte, read_width, read_count  single bytes
--   read_formula, -formulas, -group    formulas after their lengths, and why one is none
--   many, counted                      a number of parts one after the other, and the same after their count
--   read_start, -starts, -start-group  start states
--   read_widths, read_steps, rules_in  the parts of the file, and the whole
-- `whole` is the file's length throughout, so that a place is `whole` less the bytes left from there.
use Rattle.std.specs.Prelude.{◌≡◌, ℕ, zero, suc, ◌+◌, ◌-◌, ◌*◌, ◌^◌, Bool, cond, ◌&&◌, List, [], ◌∷◌, length, take, drop, Ok, Err, Result, nat_le, nat_lt}
use Rattle.formula.specs.declared.scope.Scope.{Scope}
use Rattle.formula.specs.declared.reading.Fault.{Fault}
use Rattle.formula.specs.declared.reading.Fault.TheVariants.{Symbol as Unfit, Short, Long}
use Rattle.formula.specs.Reading.{reading}
use Rattle.game.specs.declared.refusal.Refusal.{Refusal}
use Rattle.game.specs.declared.refusal.Refusal.TheVariants.{CutOff, GoesOn, Bits, Symbol, Length, Count, Start}
use Rattle.game.specs.declared.widths.Widths.{Widths}
use Rattle.game.specs.declared.rules.Rules.{Rules}
use Rattle.game.specs.Content.{Content, move_scope, step_scope, state_scope, content}

-- a value and the bytes that are left, or a refusal
pub data Step (A : Type 0) : Type 0 where
  part : A → List ℕ → Step A
  refused : Refusal → Step A

-- the next part, unless this one was refused: so the first fault in the order of the bytes counts
abbrev pub then : {A B : Type 0} → Step A → (A → List ℕ → Step B) → Step B
then (part a rest) k = k a rest
then (refused r) k = refused r

-- one byte; where none is left, the bytes end too early
abbrev pub read_byte : ℕ → List ℕ → Step ℕ
read_byte whole [] = refused (CutOff whole)
read_byte whole (b ∷ bs) = part b bs

-- a count of bits, at most `most`
abbrev pub read_width : ℕ → ℕ → List ℕ → Step ℕ
read_width whole most bs = then (read_byte whole bs) (λ b rest. cond (nat_le b most) (part b rest) (refused (Bits (whole - length bs))))

-- a count of promises, goals or starts, from `least` to `most`
abbrev pub read_count : ℕ → ℕ → ℕ → List ℕ → Step ℕ
read_count whole least most bs =
    then (read_byte whole bs) (λ b rest. cond (nat_le least b && nat_le b most) (part b rest) (refused (Count (whole - length bs))))

-- Why a row that should be a formula is none: `at` is the place of its length byte, `left` the bytes of the file after
-- that byte, and `cut` says that these are fewer than the length says. A bad byte is refused at its own place. A formula that ends where
-- the file does, with operands lacking, is cut off; any other end in the wrong place is the length's fault.
abbrev pub misread : ℕ → ℕ → ℕ → Bool → Fault → Refusal
misread whole at left cut (Unfit k) = Symbol (whole - (left - k))
misread whole at left cut Short = cond cut (CutOff whole) (Length at)
misread whole at left cut Long = Length at

-- a formula of `len` bytes from the bytes after its length byte, whose place is `at`
abbrev pub judged : ℕ → ℕ → ℕ → List ℕ → Result (Unit {0}) Fault → Step (List ℕ)
judged whole at len bs (Ok _) = cond (nat_le len (length bs)) (part (take len bs) (drop len bs)) (refused (Length at))
judged whole at len bs (Err f) = refused (misread whole at (length bs) (nat_lt (length bs) len) f)

-- a length, and a formula of the scope of that many bytes
abbrev pub read_formula : ℕ → Scope → List ℕ → Step (List ℕ)
read_formula whole sc bs =
    then (read_byte whole bs) (λ len rest. judged whole (whole - length bs) len rest (reading sc (take len rest)))

-- n parts one after the other
abbrev pub many : {A : Type 0} → (List ℕ → Step A) → ℕ → List ℕ → Step (List A)
many step zero bs = part [] bs
many step (suc n) bs = then (step bs) (λ a rest. then (many step n rest) (λ more rest. part (a ∷ more) rest))

-- n formulas one after the other
abbrev pub read_formulas : ℕ → Scope → ℕ → List ℕ → Step (List (List ℕ))
read_formulas whole sc = many (read_formula whole sc)

-- a count from `least` to `most`, and that many parts
abbrev pub counted : {A : Type 0} → ℕ → (List ℕ → Step A) → ℕ → ℕ → List ℕ → Step (List A)
counted whole step least most bs = then (read_count whole least most bs) (λ n rest. many step n rest)

-- a count and that many formulas
abbrev pub read_group : ℕ → Scope → ℕ → ℕ → List ℕ → Step (List (List ℕ))
read_group whole sc = counted whole (read_formula whole sc)

-- a state of two bytes, the low one first, below the number of states
abbrev pub read_start : ℕ → ℕ → List ℕ → Step ℕ
read_start whole states bs =
    then (read_byte whole bs) (λ low rest. then (read_byte whole rest) (λ high rest.
    cond (nat_lt (low + 256 * high) states) (part (low + 256 * high) rest) (refused (Start (whole - length bs)))))

-- n states one after the other
abbrev pub read_starts : ℕ → ℕ → ℕ → List ℕ → Step (List ℕ)
read_starts whole states = many (read_start whole states)

-- a count and that many states
abbrev pub read_start_group : ℕ → ℕ → ℕ → ℕ → List ℕ → Step (List ℕ)
read_start_group whole states = counted whole (read_start whole states)

-- nothing is left
abbrev pub read_end : {A : Type 0} → ℕ → A → List ℕ → Step A
read_end whole a [] = part a []
read_end whole a (b ∷ bs) = refused (GoesOn (whole - length (b ∷ bs)))

-- the counts of state, move and answer bits
abbrev pub read_widths : ℕ → List ℕ → Step Widths
read_widths whole bs =
    then (read_width whole 12 bs) (λ s rest. then (read_width whole 6 rest) (λ m rest. then (read_width whole 6 rest) (λ a rest.
    part (record { state = s; moves = m; answer = a }) rest)))

-- the move rule, the answer rule, and for each state bit its value after a step
abbrev pub read_steps : ℕ → Widths → List ℕ → Step (List ℕ × List ℕ × List (List ℕ))
read_steps whole w bs =
    then (read_formula whole (move_scope w.state w.moves) bs) (λ moves rest.
    then (read_formula whole (step_scope w.state w.moves w.answer) rest) (λ answers rest.
    then (read_formulas whole (step_scope w.state w.moves w.answer) w.state rest) (λ next rest.
    part (moves, answers, next) rest)))

-- the whole file: bits, step rules, promises, goals, starts, and nothing after them
unfoldable pub rules_in : List ℕ → Step Content
rules_in file =
    then (read_widths (length file) file) (λ w rest.
    then (read_steps (length file) w rest) (λ steps rest.
    then (read_group (length file) (state_scope w.state) 0 8 rest) (λ promises rest.
    then (read_group (length file) (state_scope w.state) 1 8 rest) (λ goals rest.
    then (read_start_group (length file) (2 ^ w.state) 1 16 rest) (λ starts rest.
    read_end (length file)
    (record {
      state = w.state;
      moves = w.moves;
      answer = w.answer;
      move_rule = steps.0;
      answer_rule = steps.1;
      next = steps.2;
      promises = promises;
      goals = goals;
      starts = starts;
    })
    rest)))))

-- what a reader of rules promises: the rules that the file holds, or the refusal
abbrev pub Reads : List ℕ → Result Rules Refusal → Type 0
Reads file (Ok r) = rules_in file ≡ part (content r) []
Reads file (Err e) = rules_in file ≡ refused e
