-- The game of the rules is within its sizes: its guards come first.
use Rattle.std.proofs.Common.{◌≡◌, ◌^◌, Bool, true, ◌&&◌, ltb}
use Rattle.std.proofs.lemmas.Bool.{and_parts, ltb-true}
use Rattle.game.specs.Meaning.{value_of}
use Rattle.rows.specs.Bounds.{RulesWithin}

third : (x y z w : Bool) → (x && (y && (z && w))) ≡ true → z ≡ true
third x y z w e = (and_parts z w (and_parts y _ (and_parts x _ e).1).1).0

pub rules_within : RulesWithin
rules_within c =
    record {
      states = λ s e legal. ltb-true _ _ (and_parts _ _ legal).0;
      moves = λ s e legal. ltb-true _ _ (and_parts _ _ (and_parts _ _ legal).1).0;
      answers = λ s e a allowed. ltb-true _ _ (third (ltb s (2 ^ c.state)) (ltb e (2 ^ c.moves)) _ (value_of c.answer_rule s e a) allowed);
    }
