use Rattle.std.proofs.Common.{◌≡◌, ◌++◌, length, take, drop, rules, sym, ap, ◌∙◌}
use Rattle.std.proofs.lemmas.List.Sorted.{answers_always}
use Rattle.std.specs.List.{filter}
use Rattle.std.specs.List.Sorted.{ties}
use Rattle.air_log.specs.Deliveries.{delivery_comes_before}
use Rattle.lwb_base.specs.Sorting.{in_order}
use Rattle.air_log.proofs.DeliveryOrder.{place_of, is_order}
use Rattle.lwb_base.proofs.StableSorts.{sorted_by_insertion, same_in_order}
use Rattle.world_engine.proofs.SortedParts.{written_over}
use Rattle.world_engine.proofs.deliveries.sort_deliveries.Goals as goal

pub returns : goal.returns
returns c =
    let new = c.sort_slots.new.deliveries in
    let items = c.args.deliveries.now.items in
    let many : length new ≡ length items = c.sort_slots.ensures.many ∙ ap length c.deref_mut.ensures.value in
    let len : c.args.deliveries.now.len ≡ length items = sym c.deref_mut.ensures.len ∙ ap length c.deref_mut.ensures.value in
    let slots = written_over items new c.args.deliveries.now.len len many in
    sorted_by_insertion delivery_comes_before is_order (take c.args.deliveries.now.len (new ++ drop (length new) items)) c.sort_by_key.new.self.items
    (c.in_ok-sort_by_key.ensures.sorted place_of (answers_always _ _ _ (λ f a r g h. search rules)))
    (c.sort_by_key.ensures.stable place_of (answers_always _ _ _ (λ f a r g h. search rules)))
    ∙ ap (in_order delivery_comes_before) slots
    ∙ same_in_order delivery_comes_before is_order new items
    (λ z. c.in_ok-sort_slots.ensures.ties z ∙ ap (filter (ties delivery_comes_before z)) c.deref_mut.ensures.value)
