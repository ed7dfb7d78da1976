-- The number, the place and the text of each refusal. Assumes nothing.
use Rattle.std.specs.Prelude.{ℕ, List, ◌++◌, codes}
use Rattle.std.specs.Fmt.{decimal}
use Rattle.game.specs.declared.refusal.Refusal.{Refusal}
use Rattle.game.specs.declared.refusal.Refusal.TheVariants.{CutOff, GoesOn, Bits, Symbol, Length, Count, Start, Lent, TableFault, WayFault, UnknownStart, ForbiddenMove, UnknownState}

-- the number that a refusal is printed with
abbrev pub number_of : Refusal → ℕ
number_of (CutOff n) = 1
number_of (GoesOn n) = 1
number_of (Bits n) = 2
number_of (Symbol n) = 3
number_of (Length n) = 4
number_of (Count n) = 5
number_of (Start n) = 6
number_of (Lent n) = 7
number_of (TableFault n) = 8
number_of (WayFault n) = 9
number_of (UnknownStart n) = 10
number_of ForbiddenMove = 11
number_of UnknownState = 11

-- the place that it is printed with: a byte of the file, or the file's length where bytes lack; a state; a start's number;
-- for lent memory, which; of a step, 0 for the move and 1 for the state
abbrev pub place_of : Refusal → ℕ
place_of (CutOff n) = n
place_of (GoesOn n) = n
place_of (Bits n) = n
place_of (Symbol n) = n
place_of (Length n) = n
place_of (Count n) = n
place_of (Start n) = n
place_of (Lent n) = n
place_of (TableFault n) = n
place_of (WayFault n) = n
place_of (UnknownStart n) = n
place_of ForbiddenMove = 0
place_of UnknownState = 1

-- the line that is printed of it
abbrev pub text_of : Refusal → List ℕ
text_of r = codes "refused " ++ decimal (number_of r) ++ codes " at " ++ decimal (place_of r)
