use Rattle.std.proofs.Common.{rules, List, ℕ, ◌≡◌, ◌<◌, ◌++◌, flat_map, string_bytes, take, sym, ◌∙◌, ap, length, get_or}
use Rattle.std.specs.List.{enumerate_from}
use Rattle.std.proofs.lemmas.List.{append_assoc}
use Rattle.text_writers.proofs.Places.{place_more}
use Rattle.text_writers.proofs.lines.write_lines_in_places.Goals as goal

pub loop-place-preserved : goal.loop-place-preserved
loop-place-preserved g c =
    λ line writes.
    let items = c.args.items.now in
    let place = c.loop-place.place in
    let item = c.index-items-place.result in
    let old = string_bytes c.args.text.now in
    let below : place < length items = search rules in
    let at : item ≡ get_or items place item = search rules in
    let wrote : string_bytes c.write.new.arg2 ≡ string_bytes c.loop-place.text ++ line (place, item) = search rules in
    wrote
    ∙ ap (λ (l : List ℕ). l ++ line (place, item)) (c.loop-place.invariant line writes)
    ∙ append_assoc old (flat_map line (enumerate_from 0 (take place items))) (line (place, item))
    ∙ ap (λ (l : List ℕ). old ++ l) (sym (place_more line place items item below at))
