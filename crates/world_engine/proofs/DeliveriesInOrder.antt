-- Which lists of deliveries the order by frame, rank, slot and node makes the same.
use Rattle.std.proofs.Common.{◌≡◌, ℕ, ◌==◌, true, List, sym, ap, ◌∙◌, eq-eqb}
use Rattle.std.specs.List.{filter}
use Rattle.std.specs.List.Sorted.{ties}
use Rattle.bus_rules.specs.declared.delivery.Delivery.{Delivery}
use Rattle.air_log.specs.Deliveries.{delivery_comes_before}
use Rattle.lwb_base.specs.Sorting.{in_order}
use Rattle.air_log.proofs.DeliveryOrder.{is_order, tied_place}
use Rattle.lwb_base.proofs.StableSorts.{same_in_order}
use Rattle.air_log.proofs.QuietTicks.{refined}

tied_node : (z d : Delivery) → ties delivery_comes_before z d ≡ true → (d.node == z.node) ≡ true
tied_node z d tied = eq-eqb d.node z.node (sym (tied_place z d tied).node)

-- lists that have the same of each node
pub same_by_nodes : (xs ys : List Delivery) → ((v : ℕ) → filter (λ d. d.node == v) xs ≡ filter (λ d. d.node == v) ys)
    → in_order delivery_comes_before xs ≡ in_order delivery_comes_before ys
same_by_nodes xs ys alike = same_in_order delivery_comes_before is_order xs ys (λ z.
    sym (refined (ties delivery_comes_before z) (λ (d : Delivery). d.node == z.node) (tied_node z) xs)
    ∙ ap (filter (ties delivery_comes_before z)) (alike z.node)
    ∙ refined (ties delivery_comes_before z) (λ (d : Delivery). d.node == z.node) (tied_node z) ys)
