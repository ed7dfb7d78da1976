use Rattle.std.proofs.Common.{◌≡◌, min, [], ◌∷◌, length, take, vec_items, sym, refl, ap, ◌∙◌, arith, length-take}
use Rattle.std.proofs.lemmas.Slice.{pushed}
use Rattle.std.proofs.lemmas.List.{take_min}
use Rattle.game.proofs.Appending.{appended_once, appended_more, appended_as}
use Rattle.game.proofs.writer.write_formula.Goals as goal

pub returns : goal.returns
returns c =
    let bytes = c.args.formula.bytes.now in
    let len = c.min-len.result in
    let short : min 255 (length bytes) ≡ len = omega (arith, c.min-len.ensures) in
    let front : take len bytes ≡ take 255 bytes = ap (λ n. take n bytes) (sym short) ∙ take_min 255 bytes in
    let long : len ≡ length (take 255 bytes) = sym (length-take 255 bytes ∙ short) in
    appended_as (vec_items c.args.out.now) (vec_items c.extend_from_slice.new.self) c.extend_from_slice.result
    (ap (λ n. n ∷ take len bytes) long ∙ ap (λ bs. length (take 255 bytes) ∷ bs) front)
    (appended_more (vec_items c.args.out.now) (len ∷ []) (take len bytes) (vec_items c.extend_from_slice.new.self) c.extend_from_slice.result
    (pushed (len ∷ []) refl c.in_ok-push.was c.push.ensures.items)
    (appended_once (vec_items c.push.new.self) (vec_items c.extend_from_slice.new.self) (take len bytes) c.extend_from_slice.result c.extend_from_slice.ensures.items))
