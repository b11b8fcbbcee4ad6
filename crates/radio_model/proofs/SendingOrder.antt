-- Transmissions by start, then node: what a sort by both leaves.
use Rattle.std.proofs.Common.{ℕ, List, Bool, get_or, AllPairs, sym, ◌∙◌, arith, true≢false}
use Rattle.std.specs.Cmp.{IsStrictWeakOrder}
use Rattle.std.specs.List.Sorted.{IsSortedBy}
use Rattle.std.specs.Ordering.{nat_cmp, ordering_then, is_lt}
use Rattle.std.proofs.lemmas.List.Sorted.{ranks_by, sorted_far}
use Rattle.lwb_base.proofs.Orders.{by_two_total, by_first, by_second, not_below}
use Rattle.radio_model.specs.Hearing.{Before}
use Rattle.radio_model.specs.OnAir.{Sending}

abbrev pub place_of : Sending → ℕ × ℕ
place_of x = (x.start, x.node)

abbrev pub is_before : Sending → Sending → Bool
is_before x y = is_lt (ordering_then (nat_cmp x.start y.start) (nat_cmp x.node y.node))

pub sending_order : IsStrictWeakOrder is_before
sending_order = ranks_by by_two_total place_of

pub before_pairs : (xs : List Sending) → IsSortedBy is_before xs → AllPairs Before xs
before_pairs xs sorted i j d less below =
    let x = get_or xs i d in
    let y = get_or xs j d in
    let so = sorted_far is_before sending_order xs sorted i j d (omega (arith, less)) below in
    record {
      start = not_below y.start x.start (λ up. true≢false (sym (by_first y.start x.start y.node x.node up) ∙ so));
      node = λ same. not_below y.node x.node (λ up. true≢false (sym (by_second y.start x.start y.node x.node (sym same) up) ∙ so));
    }
