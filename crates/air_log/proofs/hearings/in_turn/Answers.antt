use Rattle.std.proofs.Common.{◌≡◌, rules}
use Rattle.std.proofs.lemmas.List.Sorted.{answers_always}
use Rattle.lwb_base.specs.Sorting.{in_order}
use Rattle.lwb_base.proofs.StableSorts.{sorted_by_insertion}
use Rattle.air_log.proofs.HearingsInAir.{place_of, before, is_order, sorted_ascends, received}
use Rattle.air_log.proofs.hearings.in_turn.Goals as goal

pub returns-clause-taken : goal.returns-clause-taken
returns-clause-taken c =
    let sorted : c.sort_by_key.new.self.items ≡ in_order before c.args.heard.items =
    sorted_by_insertion before is_order c.args.heard.items c.sort_by_key.new.self.items
    (c.in_ok-sort_by_key.ensures.sorted place_of (answers_always _ _ _ (λ f a r g h. search rules)))
    (c.sort_by_key.ensures.stable place_of (answers_always _ _ _ (λ f a r g h. search rules))) in
    received c.args.heard.items c.sort_by_key.new.self.items sorted

pub returns-clause-ascends : goal.returns-clause-ascends
returns-clause-ascends c =
    sorted_ascends c.sort_by_key.new.self.items (c.in_ok-sort_by_key.ensures.sorted place_of (answers_always _ _ _ (λ f a r g h. search rules)))
