use Rattle.std.proofs.Common.{rules}
use Rattle.std.proofs.lemmas.List.Sorted.{answers_always}
use Rattle.lwb_base.proofs.StableSorts.{sorted_by_insertion}
use Rattle.bus_time.specs.Reading.{starts_first}
use Rattle.bus_time.proofs.BeginningOrder.{place_of, is_order}
use Rattle.bus_time.proofs.beginning.sort.Goals as goal

pub returns : goal.returns
returns c =
    sorted_by_insertion starts_first is_order c.args.beginnings.now.items c.sort_by_key.new.self.items
    (c.in_ok-sort_by_key.ensures.sorted place_of (answers_always _ _ _ (λ f a r g h. search rules)))
    (c.sort_by_key.ensures.stable place_of (answers_always _ _ _ (λ f a r g h. search rules)))
