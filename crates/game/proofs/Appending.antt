-- Bytes appended part by part, and the rows that the writer takes apart.
use Rattle.std.proofs.Common.{◌≡◌, ℕ, cond, List, [], ◌∷◌, ◌++◌, length, take, drop, is_ok, Ok, Err, Result, sym, refl, ap, ◌∙◌, append_assoc, append-nil, arith, length-take, take_all}
use Rattle.std.specs.List.{AllByRecursion}
use Rattle.std.proofs.lemmas.List.{take_at}
use Rattle.game.specs.Content.{first_formula, other_formulas, first_start, formulas_of, starts_of}
use Rattle.game.specs.Laws.{Byte, Longer, Appended}
use Rattle.game.proofs.Rows.{parts_count}

-- one call that appends all or nothing
pub appended_once : {A E : Type 0} (before after bytes : List ℕ) (r : Result A E) → after ≡ cond (is_ok r) (before ++ bytes) before →
    Appended before after r bytes
appended_once before after bytes (Ok x) e = e
appended_once before after bytes (Err x) e = ([], e ∙ sym (append-nil before))

-- more behind what was appended
pub longer_more : (before front after : List ℕ) {mid : List ℕ} → mid ≡ before ++ front → Longer mid after → Longer before after
longer_more before front after e h = (front ++ h.0, h.1 ∙ ap (λ m. m ++ h.0) e ∙ append_assoc before front h.0)

pub appended_more : {A E : Type 0} (before front back after : List ℕ) {mid : List ℕ} (r : Result A E) → mid ≡ before ++ front →
    Appended mid after r back → Appended before after r (front ++ back)
appended_more before front back after (Ok x) e h = h ∙ ap (λ m. m ++ back) e ∙ append_assoc before front back
appended_more before front back after (Err x) e h = longer_more before front after e h

-- the same bytes by another name
pub appended_as : {A E : Type 0} (before after : List ℕ) {bytes others : List ℕ} (r : Result A E) → bytes ≡ others →
    Appended before after r bytes → Appended before after r others
appended_as before after r e h = rw (← e) h

-- a row has as many formulas, or states, as it is asked for
pub formulas_count : (n : ℕ) (bs : List ℕ) → length (formulas_of n bs) ≡ n
formulas_count = parts_count first_formula other_formulas

pub starts_count : (n : ℕ) (bs : List ℕ) → length (starts_of n bs) ≡ n
starts_count = parts_count first_start (drop 2)

-- a formula in a row is as long as its length byte says, or shorter
pub first_whole : (bs : List ℕ) → AllByRecursion Byte bs → take 255 (first_formula bs) ≡ first_formula bs
first_whole [] h = refl
first_whole (l ∷ bs) h = take_all 255 (take l bs) (simp length-take (omega (arith, h.0)))

-- what stood before is what is left when the rest is cut off
pub cut_back : (before after : List ℕ) (n : ℕ) → length before ≡ n → Longer before after → take n after ≡ before
cut_back before after n e h = ap (take n) h.1 ∙ take_at before h.0 n e
