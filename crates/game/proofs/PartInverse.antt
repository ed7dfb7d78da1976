-- Reading and writing one part of a rules file are inverse, whatever bytes follow the part.
use Rattle.std.proofs.Common.{◌≡◌, ℕ, zero, suc, ◌+◌, ◌*◌, ◌/◌, ◌%◌, ◌<◌, ◌≤◌, Bool, true, false, cond, ◌&&◌, ltb, leb, List, [], ◌∷◌, ◌++◌, length, take, drop, Ok, Err, Result, sym, refl, ap, ◌∙◌, append_assoc, arith, length-append}
use native.Mathlib.Nat.{div-add-mod}
use Rattle.std.specs.List.{AllByRecursion}
use Rattle.std.proofs.lemmas.List.{take_at, drop_at, take-append-drop, length-take-le}
use Rattle.std.proofs.lemmas.Nat.{div-mul-add, mod-mul-add}
use Rattle.std.proofs.lemmas.Bool.{leb-true, ltb-true, le-leb, lt-ltb, and_parts, and_from}
use Rattle.formula.specs.declared.scope.Scope.{Scope}
use Rattle.formula.specs.declared.reading.Fault.{Fault}
use Rattle.formula.specs.Reading.{reading}
use Rattle.game.specs.declared.refusal.Refusal.{Refusal}
use Rattle.game.specs.Content.{Sound, with_length, with_lengths, two_bytes}
use Rattle.game.specs.Reading.{Step, part, refused, then, read_byte, read_width, read_count, judged, read_formula, read_formulas, many, read_group, read_start, read_starts, read_start_group}
use Rattle.game.specs.Laws.{Byte}
use Rattle.game.specs.First.{no_refusal}
use Rattle.game.proofs.Rows.{went}

-- what a step read from the bytes bs: it has P, and its bytes before those that are left are bs
pub record Exact {A : Type 0} (bytes_of : A → List ℕ) (P : A → Type 0) (bs : List ℕ) (a : A) (rest : List ℕ) : Type 0 where
  pub sound : P a
  pub same : bytes_of a ++ rest ≡ bs
  pub bytes : AllByRecursion Byte rest

-- a step reads exactly what has P, from the bytes of it
pub record Inverse {A : Type 0} (step : List ℕ → Step A) (bytes_of : A → List ℕ) (P : A → Type 0) : Type 0 where
  pub back : (bs : List ℕ) (a : A) (rest : List ℕ) → AllByRecursion Byte bs → step bs ≡ part a rest → Exact bytes_of P bs a rest
  pub forth : (a : A) (rest : List ℕ) → P a → step (bytes_of a ++ rest) ≡ part a rest

-- the same by other names
pub exact_as : {A : Type 0} {bytes_of : A → List ℕ} {P : A → Type 0} {bs : List ℕ} {a b : A} {rest left : List ℕ} → a ≡ b → rest ≡ left →
    Exact bytes_of P bs a rest → Exact bytes_of P bs b left
exact_as p q x = rw (← p, ← q) x

-- what passed a test was that part
passed : {A X : Type 0} (t : Bool) (x a : A) (more rest : List ℕ) (r : Refusal) → (t ≡ true → x ≡ a → more ≡ rest → X) →
    cond t (part x more) (refused r) ≡ part a rest → X
passed true x a more rest r k e = k refl (cc) (cc)
passed false x a more rest r k e = no_refusal e

-- one byte that passes a test
tested_byte : (whole : ℕ) (test : ℕ → Bool) (P : ℕ → Type 0) (r : List ℕ → Refusal) → ((b : ℕ) → test b ≡ true → P b) → ((b : ℕ) → P b → test b ≡ true) →
    Inverse (λ bs. then (read_byte whole bs) (λ b rest. cond (test b) (part b rest) (refused (r bs)))) (λ b. b ∷ []) P
tested_byte whole test P r to from =
    record { back = back; forth = λ b rest p. rw (from b p) refl }
  where
    back : (bs : List ℕ) (b : ℕ) (rest : List ℕ) → AllByRecursion Byte bs →
        then (read_byte whole bs) (λ b rest. cond (test b) (part b rest) (refused (r bs))) ≡ part b rest → Exact (λ b. b ∷ []) P bs b rest
    back [] b rest all e = no_refusal e
    back (x ∷ bs) b rest all e =
        passed (test x) x b bs rest (r (x ∷ bs)) (λ t same left. exact_as same left (record { sound = to x t; same = refl; bytes = all.1 })) e

-- a count of bits
pub width_inverse : (whole most : ℕ) → Inverse (read_width whole most) (λ b. b ∷ []) (λ b. b ≤ most)
width_inverse whole most = tested_byte whole (λ b. leb b most) _ _ (λ b. leb-true b most) (λ b. le-leb b most)

-- a count of promises, goals or starts
abbrev pub Within : ℕ → ℕ → ℕ → Type 0
Within least most n = (least ≤ n) × (n ≤ most)

count_inverse : (whole least most : ℕ) → Inverse (read_count whole least most) (λ b. b ∷ []) (Within least most)
count_inverse whole least most =
    tested_byte whole (λ b. leb least b && leb b most) _ _
    (λ b t. let p = and_parts (leb least b) (leb b most) t in (leb-true least b p.0, leb-true b most p.1))
    (λ b p. and_from (leb least b) (leb b most) (le-leb least b p.0) (le-leb b most p.1))

-- what follows the front of a row of bytes
all_drop : (n : ℕ) (bs : List ℕ) → AllByRecursion Byte bs → AllByRecursion Byte (drop n bs)
all_drop zero bs h = h
all_drop (suc n) [] h = tt
all_drop (suc n) (b ∷ bs) h = all_drop n bs h.1

-- a formula after its length
pub formula_inverse : (whole : ℕ) (sc : Scope) → Inverse (read_formula whole sc) with_length (Sound sc)
formula_inverse whole sc = record { back = back; forth = forth }
  where
    cut : (l : ℕ) (bs f rest : List ℕ) → AllByRecursion Byte bs → reading sc (take l bs) ≡ Ok tt → leb l (length bs) ≡ true → take l bs ≡ f → drop l bs ≡ rest →
        Exact with_length (Sound sc) (l ∷ bs) f rest
    cut l bs f rest all r t same left =
        let long : length (take l bs) ≡ l = length-take-le l bs (leb-true l (length bs) t) in
        exact_as same left
        (record { sound = r; same = rw long (ap (λ xs. l ∷ xs) (take-append-drop l bs)); bytes = all_drop l bs all })

    judge : (l : ℕ) (bs f rest : List ℕ) (at : ℕ) → AllByRecursion Byte bs → (r : Result (Unit {0}) Fault) → reading sc (take l bs) ≡ r →
        judged whole at l bs r ≡ part f rest → Exact with_length (Sound sc) (l ∷ bs) f rest
    judge l bs f rest at all (Ok x) r e = passed (leb l (length bs)) (take l bs) f (drop l bs) rest _ (cut l bs f rest all r) e
    judge l bs f rest at all (Err x) r e = no_refusal e

    back : (bs f rest : List ℕ) → AllByRecursion Byte bs → read_formula whole sc bs ≡ part f rest → Exact with_length (Sound sc) bs f rest
    back [] f rest all e = no_refusal e
    back (l ∷ bs) f rest all e = judge l bs f rest _ all.1 (reading sc (take l bs)) refl e

    forth : (f rest : List ℕ) → Sound sc f → read_formula whole sc (with_length f ++ rest) ≡ part f rest
    forth f rest s =
        let room : leb (length f) (length (f ++ rest)) ≡ true = le-leb _ _ (simp length-append (omega arith)) in
        rw (take_at f rest (length f) refl, s, room, drop_at f rest (length f) refl) (ap (λ x. part x rest) (take_at f rest (length f) refl))

-- a state of two bytes
abbrev start_bytes : ℕ → List ℕ
start_bytes s = s % 256 ∷ s / 256 ∷ []

joined_bytes : (s : ℕ) → s % 256 + 256 * (s / 256) ≡ s
joined_bytes s = omega (arith, div-add-mod s 256)

start_inverse : (whole states : ℕ) → Inverse (read_start whole states) start_bytes (λ s. s < states)
start_inverse whole states = record { back = back; forth = forth }
  where
    parted : (l k s : ℕ) (bs rest : List ℕ) → AllByRecursion Byte (l ∷ k ∷ bs) → ltb (l + 256 * k) states ≡ true → l + 256 * k ≡ s → bs ≡ rest →
        Exact start_bytes (λ s. s < states) (l ∷ k ∷ bs) s rest
    parted l k s bs rest all t same left =
        let turn : l + 256 * k ≡ k * 256 + l = omega arith in
        let low : s % 256 ≡ l = ap (λ n. n % 256) (sym same ∙ turn) ∙ mod-mul-add k 256 l all.0 in
        let high : s / 256 ≡ k = ap (λ n. n / 256) (sym same ∙ turn) ∙ div-mul-add k 256 l all.0 in
        record {
          sound = omega (arith, ltb-true (l + 256 * k) states t);
          same = rw (low, high, ← left) refl;
          bytes = rw (← left) all.1.1;
        }

    back : (bs : List ℕ) (s : ℕ) (rest : List ℕ) → AllByRecursion Byte bs → read_start whole states bs ≡ part s rest → Exact start_bytes (λ s. s < states) bs s rest
    back [] s rest all e = no_refusal e
    back (l ∷ []) s rest all e = no_refusal e
    back (l ∷ (k ∷ bs)) s rest all e =
        passed (ltb (l + 256 * k) states) (l + 256 * k) s bs rest _ (parted l k s bs rest all) e

    forth : (s : ℕ) (rest : List ℕ) → s < states → read_start whole states (start_bytes s ++ rest) ≡ part s rest
    forth s rest h = rw (joined_bytes s, lt-ltb s states h) refl

-- n parts, each with P
abbrev pub Row : {A : Type 0} → (A → Type 0) → ℕ → List A → Type 0
Row P n row = (length row ≡ n) × AllByRecursion P row

-- parts one after the other
row_inverse : {A : Type 0} (step : List ℕ → Step A) (bytes_of : A → List ℕ) (P : A → Type 0) (all_bytes : List A → List ℕ) → Inverse step bytes_of P →
    all_bytes [] ≡ [] → ((a : A) (more : List A) → all_bytes (a ∷ more) ≡ bytes_of a ++ all_bytes more) →
    (n : ℕ) → Inverse (many step n) all_bytes (Row P n)
row_inverse {A} step bytes_of P all_bytes one none some n = record { back = back n; forth = forth n }
  where
    back : (n : ℕ) (bs : List ℕ) (row : List A) (rest : List ℕ) → AllByRecursion Byte bs → many step n bs ≡ part row rest → Exact all_bytes (Row P n) bs row rest
    back zero bs row rest all e =
        let empty : [] ≡ row = cc in
        let left : bs ≡ rest = cc in
        exact_as empty left (record { sound = (refl, tt); same = rw none refl; bytes = all })
    back (suc n) bs row rest all e =
        went (step bs) _ row rest
        (λ a r₁ e₁. went (many step n r₁) _ row rest
        (λ more r₂ e₂ e₃.
        let x = one.back bs a r₁ all e₁ in
        let y = back n r₁ more r₂ x.bytes e₂ in
        let whole : a ∷ more ≡ row = cc in
        let left : r₂ ≡ rest = cc in
        exact_as whole left
        (record {
          sound = (ap suc y.sound.0, (x.sound, y.sound.1));
          same = rw (some a more) (append_assoc (bytes_of a) (all_bytes more) r₂ ∙ ap (λ r. bytes_of a ++ r) y.same ∙ x.same);
          bytes = y.bytes;
        })))
        e

    forth : (n : ℕ) (row : List A) (rest : List ℕ) → Row P n row → many step n (all_bytes row ++ rest) ≡ part row rest
    forth zero [] rest p = rw none refl
    forth zero (a ∷ row) rest p = absurd (omega (arith, p.0))
    forth (suc n) [] rest p = absurd (omega (arith, p.0))
    forth (suc n) (a ∷ row) rest p =
        let fewer : length row ≡ n = omega (arith, p.0) in
        rw (some a row, append_assoc (bytes_of a) (all_bytes row) rest, one.forth a (all_bytes row ++ rest) p.1.0, forth n row rest (fewer, p.1.1)) refl

-- formulas one after the other
pub formulas_inverse : (whole : ℕ) (sc : Scope) (n : ℕ) → Inverse (read_formulas whole sc n) with_lengths (Row (Sound sc) n)
formulas_inverse whole sc = row_inverse _ with_length _ with_lengths (formula_inverse whole sc) refl (λ _ _. refl)

-- states one after the other
starts_inverse : (whole states n : ℕ) → Inverse (read_starts whole states n) two_bytes (Row (λ s. s < states) n)
starts_inverse whole states = row_inverse _ start_bytes _ two_bytes (start_inverse whole states) refl (λ _ _. refl)

-- a count and that many parts
abbrev pub Group : {A : Type 0} → (A → Type 0) → ℕ → ℕ → List A → Type 0
Group P least most row = Within least most (length row) × AllByRecursion P row

counted_inverse : {A : Type 0} (whole least most : ℕ) (step : List ℕ → Step A) (P : A → Type 0) (all_bytes : List A → List ℕ) →
    ((n : ℕ) → Inverse (many step n) all_bytes (Row P n)) →
    Inverse (λ bs. then (read_count whole least most bs) (λ n rest. many step n rest)) (λ row. length row ∷ all_bytes row) (Group P least most)
counted_inverse {A} whole least most step P all_bytes rows = record { back = back; forth = forth }
  where
    back : (bs : List ℕ) (row : List A) (rest : List ℕ) → AllByRecursion Byte bs →
        then (read_count whole least most bs) (λ n rest. many step n rest) ≡ part row rest →
        Exact (λ row. length row ∷ all_bytes row) (Group P least most) bs row rest
    back bs row rest all e =
        went (read_count whole least most bs) _ row rest
        (λ n r₁ e₁ e₂.
        let x = (count_inverse whole least most).back bs n r₁ all e₁ in
        let y = (rows n).back r₁ row rest x.bytes e₂ in
        record {
          sound = (rw y.sound.0 x.sound, y.sound.1);
          same = ap (λ r. length row ∷ r) y.same ∙ ap (λ k. k ∷ r₁) y.sound.0 ∙ x.same;
          bytes = y.bytes;
        })
        e

    forth : (row : List A) (rest : List ℕ) → Group P least most row →
        then (read_count whole least most ((length row ∷ all_bytes row) ++ rest)) (λ n rest. many step n rest) ≡ part row rest
    forth row rest p =
        rw ((count_inverse whole least most).forth (length row) (all_bytes row ++ rest) p.0, (rows (length row)).forth row rest (refl, p.1)) refl

pub group_inverse : (whole : ℕ) (sc : Scope) (least most : ℕ) →
    Inverse (read_group whole sc least most) (λ fs. length fs ∷ with_lengths fs) (Group (Sound sc) least most)
group_inverse whole sc least most = counted_inverse whole least most _ _ with_lengths (formulas_inverse whole sc)

pub start_group_inverse : (whole states least most : ℕ) →
    Inverse (read_start_group whole states least most) (λ ss. length ss ∷ two_bytes ss) (Group (λ s. s < states) least most)
start_group_inverse whole states least most = counted_inverse whole least most _ _ two_bytes (starts_inverse whole states)
