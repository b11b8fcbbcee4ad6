use Rattle.std.proofs.Common.{◌≡◌, ℕ, map, Bor, rules, ap, ◌∙◌}
use Rattle.std.specs.Cmp.{IsStrictWeakOrder, nat_cmp_total, on_total, then_total}
use Rattle.std.proofs.lemmas.List.Sorted.{ranks_by, answers_always}
use Rattle.air_log.specs.Entries.{node_of_entry}
use Rattle.lwb_base.specs.Sorting.{in_order}
use Rattle.air_log.specs.LogText.{entry_is_before, start_of, kind_number}
use Rattle.air_log.specs.declared.entry.Entry.{Entry}
use Rattle.lwb_base.proofs.StableSorts.{map-in_order, sorted_by_insertion}
use Rattle.air_log.proofs.printing.entries_in_order.Goals as goal

pub returns : goal.returns
returns c =
    let key : Bor Entry → ℕ × ℕ × ℕ = λ e. (start_of e.now, kind_number e.now, node_of_entry e.now) in
    let order : IsStrictWeakOrder (λ (a b : Bor Entry). entry_is_before a.now b.now) =
    ranks_by (then_total (then_total (on_total (λ (t : ℕ × ℕ × ℕ). t.0) nat_cmp_total) (on_total (λ (t : ℕ × ℕ × ℕ). t.1) nat_cmp_total))
    (on_total (λ (t : ℕ × ℕ × ℕ). t.2) nat_cmp_total)) key in
    let found : map (λ (e : Bor Entry). e.now) c.in_ok-sorted.sorted.items ≡ c.args.entries.now = search rules in
    let sorted : c.sort_by_cached_key.new.self.items ≡ in_order (λ (a b : Bor Entry). entry_is_before a.now b.now) c.in_ok-sorted.sorted.items =
    sorted_by_insertion (λ (a b : Bor Entry). entry_is_before a.now b.now) order c.in_ok-sorted.sorted.items c.sort_by_cached_key.new.self.items
    (c.in_ok-sort_by_cached_key.ensures.sorted key (answers_always _ _ _ (λ f a r g h. search rules)))
    (c.sort_by_cached_key.ensures.stable key (answers_always _ _ _ (λ f a r g h. search rules))) in
    ap (map (λ (e : Bor Entry). e.now)) sorted ∙ map-in_order (λ (e : Bor Entry). e.now) entry_is_before c.in_ok-sorted.sorted.items
    ∙ ap (in_order entry_is_before) found
