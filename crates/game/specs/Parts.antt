-- What one part of the reader promises. Assumes nothing.
--   Ended    whether nothing is left
--   Parted   the outcome is that of a step of the definition, and the bytes left are those that the step leaves
use Rattle.std.specs.Prelude.{◌≡◌, ℕ, ◌-◌, ◌<◌, List, [], length, Ok, Err, Result}
use Rattle.game.specs.declared.refusal.Refusal.{Refusal}
use Rattle.game.specs.declared.reader.Reader.{Reader}
use Rattle.game.specs.declared.refusal.Refusal.TheVariants.{GoesOn}
use Rattle.game.specs.Reading.{Step, part, refused}

-- From the reader r to the reader q, by a step of the definition: what was got stands for the step's value and what is
-- left is what the step leaves; or the refusal is the step's. The file's length stays.
abbrev pub Parted : {A B : Type 0} → Reader → Reader → Result A Refusal → (A → B) → (ℕ → List ℕ → Step B) → Type 0
Parted r q (Ok a) as_value step = (step r.whole r.rest.now ≡ part (as_value a) q.rest.now) × (q.whole ≡ r.whole)
Parted r q (Err e) as_value step = step r.whole r.rest.now ≡ refused e

-- nothing is left, or the first byte too many is refused
abbrev pub Ended : Reader → Result (Unit {0}) Refusal → Type 0
Ended r (Ok _) = r.rest.now ≡ []
Ended r (Err e) = (0 < length r.rest.now) × (e ≡ GoesOn (r.whole - length r.rest.now))
