-- Reading and writing rules are inverse, both ways round; and what the writer promises. Assumes nothing.
--   Byte                                     a number that one byte holds
--   RulesReadWritten, RulesWrittenRead       the two ways round
--   fitted                                   rules as far as a length of one byte can say them
--   Longer, Appended, Written                what a part of the writer promises, and the whole
use Rattle.std.specs.Prelude.{◌≡◌, ℕ, ◌<◌, List, [], ◌++◌, take, Ok, Err, Result}
use Rattle.std.specs.List.{AllByRecursion}
use Rattle.game.specs.Content.{Content, Valid, file_of}
use Rattle.game.specs.Reading.{part, rules_in}

-- what one byte holds; so a start is read from two bytes in one way only
abbrev pub Byte : ℕ → Type 0
Byte b = b < 256

-- what was read is valid, and writes the bytes that it was read from
abbrev pub RulesReadWritten : Type 0
RulesReadWritten =
    (file : List ℕ) (c : Content) → AllByRecursion Byte file → rules_in file ≡ part c [] → Valid c × (file_of c ≡ file)

-- what is valid is read from its bytes as what it was
abbrev pub RulesWrittenRead : Type 0
RulesWrittenRead = (c : Content) → Valid c → rules_in (file_of c) ≡ part c []

-- the rules with no more of the move rule and the answer rule than a length of one byte can say: valid rules as they are
abbrev pub fitted : Content → Content
fitted c =
    record {
      state = c.state;
      moves = c.moves;
      answer = c.answer;
      move_rule = take 255 c.move_rule;
      answer_rule = take 255 c.answer_rule;
      next = c.next;
      promises = c.promises;
      goals = c.goals;
      starts = c.starts;
    }

-- what was there before, and some bytes behind it
abbrev pub Longer : List ℕ → List ℕ → Type 0
Longer before after = (some : List ℕ) × (after ≡ before ++ some)

-- these bytes stand behind what was there before; where memory is lacking, some bytes may
abbrev pub Appended : {A E : Type 0} → List ℕ → List ℕ → Result A E → List ℕ → Type 0
Appended before after (Ok _) bytes = after ≡ before ++ bytes
Appended before after (Err _) bytes = Longer before after

-- these bytes stand behind what was there before; where memory is lacking, none
abbrev pub Written : {A E : Type 0} → List ℕ → List ℕ → Result A E → List ℕ → Type 0
Written before after (Ok _) bytes = after ≡ before ++ bytes
Written before after (Err _) bytes = after ≡ before
