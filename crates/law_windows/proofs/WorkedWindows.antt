-- The worked windows, by computation.
use Rattle.std.proofs.Common.{◌≡◌, ℕ, arith, refl, sym, subst}
use Rattle.std.specs.Option.{IfSome}
use Rattle.lwb_base.specs.Messages.{least_passing}
use Rattle.schedule_codec.specs.Packing.{digits, packed_number}
use Rattle.schedule_codec.specs.Reading.{schedule_of, asks_in}
use Rattle.bus_rules.specs.Streams.{schedule_heard}
use Rattle.bus_rules.specs.Granting.{plan_round, turns}
use Rattle.bus_rules.specs.HostPlans.{host_plan}
use Rattle.node_core.specs.Rows.{joins as joins_by}
use Rattle.air_log.specs.FirstRound.{opening_with}
use Rattle.scenario_text.specs.Setups.{setup_of}
use Rattle.law_trails.specs.OnePacket.{drifting, one_packet}
use Rattle.law_trails.specs.OnePacketNodes.{first_plan}
use Rattle.law_trails.proofs.DriftingClocks.{member_clock}
use Rattle.law_windows.specs.WindowFloods.{WindowHasFlood}
use Rattle.law_windows.specs.WindowRows.{ClosesAs, IsOpened}
use Rattle.law_windows.specs.WorkedWindows.{asking_window, joined_window}

pub joins : IsOpened one_packet drifting 2 joined_window
unfolding least_passing digits packed_number schedule_of asks_in schedule_heard host_plan plan_round turns
joins = record {
  frame_before = refl;
  frame_after = refl;
  rank_before = refl;
  rank_after = refl;
  by = record {
    scanned = refl;
    packet = opening_with 0;
    schedule = record { plan = first_plan; gap = 0 };
    says = refl;
    of_rank = refl;
    in_slot = refl;
    happened = (0, omega arith, refl);
    after = subst (λ (clock : ℕ → ℕ). joined_window.after
        ≡ (joins_by (setup_of one_packet 2) joined_window.before (clock joined_window.opened) (opening_with 0) (record { plan = first_plan; gap = 0 })).node)
        (sym member_clock) refl;
  };
}

pub joins_closing : IfSome joined_window.closed (ClosesAs one_packet drifting 2 joined_window)
unfolding least_passing digits packed_number schedule_of asks_in schedule_heard host_plan plan_round turns
joins_closing = refl

pub joins_flood : WindowHasFlood (setup_of one_packet 2) joined_window
unfolding least_passing digits packed_number schedule_of asks_in schedule_heard host_plan plan_round turns
joins_flood = refl

pub asks : IsOpened one_packet drifting 2 asking_window
unfolding least_passing digits packed_number schedule_of asks_in schedule_heard host_plan plan_round turns
asks = record {
  frame_before = refl;
  frame_after = refl;
  rank_before = refl;
  rank_after = refl;
  by = record { awaited = refl; after = refl };
}

pub asks_closing : IfSome asking_window.closed (ClosesAs one_packet drifting 2 asking_window)
unfolding least_passing digits packed_number schedule_of asks_in schedule_heard host_plan plan_round turns
asks_closing = refl

pub asks_flood : WindowHasFlood (setup_of one_packet 2) asking_window
unfolding least_passing digits packed_number schedule_of asks_in schedule_heard host_plan plan_round turns
asks_flood = refl
