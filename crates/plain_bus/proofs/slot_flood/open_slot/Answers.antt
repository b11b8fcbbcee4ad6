use Rattle.std.proofs.Common.{List, subst, sym, ◌∙◌}
use Rattle.bus_rules.specs.Slots.{part_of}
use Rattle.bus_terms.specs.Rounds.{before_slot}
use Rattle.plain_bus.specs.SlotFloods.{AreWindows}
use Rattle.plain_bus.specs.declared.window.Window.{Window}
use Rattle.plain_bus.proofs.MembersOfSlots.{windows_seen}
use Rattle.plain_bus.proofs.SlotsRun.{seen_all}
use Rattle.plain_bus.proofs.slot_flood.open_slot.Goals as goal

pub returns : goal.returns
returns c =
    let rank = c.args.rank in
    let f = c.args.frame in
    let j = c.args.slot in
    record {
      early = c.in_ok-open_all.ensures.early;
      nodes = c.in_ok-open_all.ensures.nodes;
      windows = c.in_ok-open_all.ensures.windows;
      place = c.flood_in.ensures.place;
      flood = λ s t p start others are part lines sealed limit.
          c.flood_in.ensures.flood s t rank (part_of p j) (before_slot s rank f p start j)
          (subst (λ (ws : List Window). AreWindows s rank f (part_of p j) (before_slot s rank f p start j) ws) (sym c.deref.ensures.value)
          (windows_seen s rank f (part_of p j) (before_slot s rank f p start j) c.open_all.new.windows.items
          (c.in_ok-open_all.ensures.windows ∙ seen_all s rank f p start others j c.args.nodes.now c.args.part.now are part)))
          lines sealed limit;
    }
