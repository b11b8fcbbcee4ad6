use Rattle.std.proofs.Common.{◌≡◌, ℕ, List, Bool, None, if◌then◌else◌, length, map, get_or, sym, ◌∙◌, ap, arith}
use Rattle.std.specs.List.{last_or}
use Rattle.bus_terms.specs.Bus.{Cost}
use Rattle.plain_bus.specs.SlotFloods.{Seen, seen_window}
use Rattle.plain_bus.specs.SlotCosts.{bytes_in, bytes_sent_by, charged, said_bytes, steps_at, steps_in, with_slot}
use Rattle.plain_bus.specs.declared.cost.Steps.{Steps}
use Rattle.plain_bus.specs.declared.station.Station.{Station}
use Rattle.plain_bus.proofs.StepsAdded.{few_steps}
use Rattle.plain_bus.proofs.MembersOfSlots.{map_of_map}
use Rattle.plain_bus.proofs.SaidBehind.{window_at, first_at}
use Rattle.plain_bus.proofs.StepsCounted.{steps_told}
use Rattle.plain_bus.proofs.charging.charge.Goals as goal

-- what a place without steps would have
abbrev no_steps : Steps
no_steps = record { count = 0; last = None }

pub returns-clause-cost : goal.returns-clause-cost
returns-clause-cost c b sends behind are some =
    let ids = c.args.setting.now.ids.now in
    let ws = c.args.windows.now in
    let xs = c.args.end.now.stations.each.items in
    let place = c.args.place in
    let v : ℕ = get_or ids place 0 in
    let w = c.index-windows-place.result in
    let x = c.index-stations-place.result in
    let p = c.args.setting.now.profile in
    let limit = c.args.setting.now.limit in
    let x_at : x ≡ get_or xs place x = c.index-stations-place.is ∙ ap (λ (l : List Station). get_or l place x) c.as_slice-stations.ensures.value in
    let window = window_at b ids ws xs behind place w (omega (arith, c.requires.place, c.requires.windows)) c.requires.place c.index-windows-place.is in
    let first = first_at b ids ws xs behind place x (omega (arith, c.requires.place, c.requires.stations)) x_at in
    let lengths : c.args.sent.now.lengths.items ≡ map (λ (u : ℕ). said_bytes (b.window u)) ids =
    c.requires.lengths ∙ map_of_map said_bytes seen_window ws ∙ ap (map said_bytes) behind.windows ∙ sym (map_of_map said_bytes b.window ids) in
    let bytes : c.bytes_sent-bytes.result ≡ bytes_sent_by b v =
    c.bytes_sent-bytes.ensures b (c.as_slice-lengths.ensures.value ∙ lengths) (λ o k is. behind.here v o k (sym first ∙ is))
    ∙ ap (λ (y : Seen). bytes_in b y x.heard) window ∙ ap (bytes_in b (b.window v)) first in
    let masks = c.args.end.now.senders.items in
    let steps : steps_at masks place 12 ≡ steps_in (sends v) =
    ap (steps_at masks place) (sym c.requires.steps) ∙ steps_told sends ids masks place are c.requires.steps c.requires.place in
    let told = c.requires.counted.each place no_steps (omega (arith, c.requires.few, c.requires.place)) in
    let with_bytes : ℕ → Cost = λ n. with_slot p limit w.is_open n (steps_in (sends v)) c.args.cost.now in
    c.add_slot.ensures.value (steps_in (sends v)) (ap (λ (y : Steps). y.count) told ∙ ap length steps)
    (ap (λ (y : Steps). y.last) told ∙ ap (last_or None) steps)
    some
    ∙ ap with_bytes bytes
    ∙ ap (λ (y : Seen). with_slot p limit y.is_open (bytes_sent_by b v) (steps_in (sends v)) c.args.cost.now) window
    ∙ ap (λ (own : Bool). if own then charged p limit b sends v c.args.cost.now else c.args.cost.now) (sym c.if-not-is_own.false)

pub add_slot-requires-clause-count : goal.add_slot-requires-clause-count
add_slot-requires-clause-count c =
    let counted = c.requires.counted in
    few_steps c.args.end.now.senders.items 12 c.args.sent.now.steps c.args.sent.now.steps counted c.args.place no_steps
    (omega (arith, c.requires.few, c.requires.place, counted.size))

pub add_slot-requires-clause-last : goal.add_slot-requires-clause-last
add_slot-requires-clause-last c k is =
    let early = c.requires.counted.early c.args.place no_steps k (omega (arith, c.requires.few, c.requires.place)) is in
    omega (arith, early)
