use Rattle.std.proofs.Common.{rules, of_calls, sym, ◌≡◌, List, ℕ, subst, string_bytes, OnOk, ◌++◌, Contains}
use Rattle.text_writers.proofs.Places.{without_places}
use Rattle.text_writers.proofs.lines.write_lines.Goals as goal

pub returns : goal.returns
returns g c =
    λ line writes.
    let same = without_places line 0 c.args.items.now in
    subst (λ (l : List ℕ). OnOk c.write_lines_in_places.result (string_bytes c.write_lines_in_places.new.text ≡ string_bytes c.args.text.now ++ l)) same
    (c.write_lines_in_places.ensures (λ p. line p.1) (λ old place item result new below at post.
    let here : Contains c.args.items.now item.now = (place, below, sym at) in search (rules, of_calls, post, writes, here)))
