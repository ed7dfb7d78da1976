-- Steps and their bytes.
--   in_spelled, spelled_in  reading and writing steps are inverse
--   whole_steps             the bytes of whole steps
--   shaped                  the bytes of a log have a start and no half step
--   read_again, read_written  the same for a whole log, as the reader takes it apart
use Rattle.std.proofs.Common.{◌≡◌, ℕ, suc, ◌+◌, ◌-◌, ◌*◌, ◌/◌, ◌%◌, ◌<◌, ◌≤◌, false, List, [], ◌∷◌, ◌++◌, length, get_or, take, drop, refl, ap, ◌∙◌, append_assoc, arith, le-ltb, ne_eqb}
use Rattle.std.specs.Int.{w16, to_le_bytes}
use Rattle.play.specs.Logs.{Step, Record, spelled, bytes_of, steps_in, misshapen}

pub in_spelled : (steps : List Step) → steps_in (spelled steps) ≡ steps
in_spelled [] = refl
in_spelled (x ∷ steps) = ap (λ t. x ∷ t) (in_spelled steps)

pub spelled_in : (bs : List ℕ) → (length bs % 2 ≡ 1 → ⊥) → spelled (steps_in bs) ≡ bs
spelled_in [] even = refl
spelled_in (e ∷ []) even = absurd (even refl)
spelled_in (e ∷ a ∷ bs) even = ap (λ t. e ∷ a ∷ t) (spelled_in bs (λ q. even (omega arith)))

pub whole_steps : (bs : List ℕ) → take (length bs - length bs % 2) bs ≡ spelled (steps_in bs)
whole_steps [] = refl
whole_steps (e ∷ []) = refl
whole_steps (e ∷ a ∷ bs) =
    let n : suc (suc (length bs)) - suc (suc (length bs)) % 2 ≡ suc (suc (length bs - length bs % 2)) = omega arith in
    rw n (ap (λ t. e ∷ a ∷ t) (whole_steps bs))

spelled_even : (steps : List Step) → length (spelled steps) % 2 ≡ 0
spelled_even [] = refl
spelled_even (x ∷ steps) = let h = spelled_even steps in omega arith

pub shaped : (r : Record) (bs : List ℕ) → bytes_of r ≡ bs → (2 ≤ length bs) × (length bs % 2 ≡ 0)
shaped r bs e = let h = spelled_even r.steps in rw (← e) (omega arith, omega arith)

pub read_again : (bs back : List ℕ) (start : ℕ) → start ≡ get_or bs 0 0 + 256 * get_or bs 1 0 → back ≡ drop 2 bs → 2 ≤ length bs →
    (length bs % 2 ≡ 1 → ⊥) → ((i : ℕ) → get_or bs i 0 < 256) → bytes_of (record { start = start; steps = steps_in back }) ≡ bs
read_again [] back start f k two even fit = absurd (omega arith)
read_again (b ∷ []) back start f k two even fit = absurd (omega arith)
read_again (b ∷ d ∷ bs) back start f k two even fit =
    let low : start % 256 ≡ b = omega (arith, f, fit 0) in
    let high : start / 256 ≡ d = omega (arith, f, fit 0) in
    let rest : spelled (steps_in bs) ≡ bs = spelled_in bs (λ q. even (omega arith)) in
    rw (k, low, high, rest)

pub read_written : (r : Record) (bs back : List ℕ) (start : ℕ) → bytes_of r ≡ bs → start ≡ get_or bs 0 0 + 256 * get_or bs 1 0 →
    back ≡ drop 2 bs → ◌≡◌ {A = Record} (record { start = start; steps = steps_in back }) r
read_written r bs back start e f k =
    let begun : r.start % 256 + 256 * (r.start / 256) ≡ r.start = omega arith in
    rw (f, k, ← e, begun, in_spelled r.steps)

-- when bytes are a log's
pub well_shaped : (bs : List ℕ) → 2 ≤ length bs → (length bs % 2 ≡ 1 → ⊥) → misshapen bs ≡ false
well_shaped bs two even = rw (le-ltb (length bs) 2 two, ne_eqb (length bs % 2) 1 even)

-- a start's two bytes
pub two_bytes_of : (s : ℕ) → s < 65536 → to_le_bytes w16 s ≡ s % 256 ∷ s / 256 ∷ []
two_bytes_of s fit = let high : s / 256 % 256 ≡ s / 256 = omega arith in ap (λ d. s % 256 ∷ d ∷ []) high

-- what the writer appended, part by part
pub written_log : (before mid after start : List ℕ) (s : ℕ) (bs : List ℕ) → s < 65536 → start ≡ to_le_bytes w16 s → mid ≡ before ++ start →
    after ≡ mid ++ take (length bs - length bs % 2) bs → after ≡ before ++ bytes_of (record { start = s; steps = steps_in bs })
written_log before mid after start s bs fit two first all =
    all ∙ rw (first, two, two_bytes_of s fit, whole_steps bs, append_assoc)
