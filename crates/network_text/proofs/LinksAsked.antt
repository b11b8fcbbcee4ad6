-- A search for a link among those of a trace.
use Rattle.std.proofs.Common.{◌≡◌, ℕ, List, true, false, length, Result, Ok, Err, IfOk, IfErr, sym, ◌∙◌}
use Rattle.std.specs.List.{list_any}
use Rattle.std.specs.List.Sorted.{IsSearchInRange, IsBinarySearchResult}
use Rattle.std.specs.Ordering.{is_eq}
use Rattle.std.specs.Result.{is_ok}
use Rattle.link_trace.specs.Order.{Ascends, by_link}
use Rattle.link_trace.specs.Passes.{is_link}
use Rattle.link_trace.specs.declared.lines.LinkLine.{LinkLine}
use Rattle.link_trace.proofs.Inserted.{found_there, not_found_there}
use Rattle.link_trace.proofs.Orders.{by_link_total, tells_link}

pub link_is_found : (ls : List LinkLine) (u v : ℕ) (r : Result ℕ ℕ) → Ascends by_link ls → IsSearchInRange r (length ls)
    → IsBinarySearchResult (λ x. by_link x (record { from = u; to = v })) ls r → is_ok r ≡ list_any (is_link u v) ls
link_is_found ls u v r up inside found =
    by r (found_there by_link by_link_total ls (record { from = u; to = v }) up r inside found)
    (not_found_there by_link by_link_total ls (record { from = u; to = v }) up r inside found)
    ∙ (λ i. list_any (λ (l : LinkLine). tells_link u v l i) ls)
  where
    by : (r : Result ℕ ℕ) → IfOk r (λ at. list_any (λ x. is_eq (by_link x (record { from = u; to = v }))) ls ≡ true)
        → IfErr r (λ at. list_any (λ x. is_eq (by_link x (record { from = u; to = v }))) ls ≡ false)
        → is_ok r ≡ list_any (λ x. is_eq (by_link x (record { from = u; to = v }))) ls
    by (Ok at) there none = sym there
    by (Err at) there none = sym none
