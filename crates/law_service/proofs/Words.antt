-- The words of the crates below, and of this crate, that most of its proofs name, passed on from one place. Declares nothing.
pub use Rattle.std.specs.List.{list_any, range_with_len}
unfoldable pub use Rattle.std.specs.Str.{chars, is_utf8}
pub use Rattle.std.proofs.lemmas.Bool.{and_parts, cases_eq, cond-false, cond-true, cond_both, eqb-true, false≢true, le-leb, leb-true}
pub use Rattle.std.proofs.lemmas.Bool.{ne_eqb, or_cases, or_from, or_parts}
pub use Rattle.std.proofs.lemmas.Grind.{fold-append}
unfoldable pub use lib.Utf8.{encode}
pub use Rattle.lwb_base.specs.Messages.{Ask, Plan, Schedule, code, code_of, node_of, stream_of}
unfoldable pub use Rattle.lwb_base.specs.Messages.{least_passing}
pub use Rattle.lwb_base.specs.Profile.{Numbers, contended, one}
pub use Rattle.lwb_base.proofs.Elements.{contains_cases, contains_head, contains_tail, not_in_none}
pub use Rattle.link_trace.specs.Passes.{cuts_by, is_loss, passes}
pub use Rattle.link_trace.specs.declared.lines.LoseLine.{LoseLine}
unfoldable pub use Rattle.text_readers.specs.Reading.{draft_after_line}
unfoldable pub use Rattle.scenario_text.specs.Network.{network_line}
pub use Rattle.scenario_text.specs.ScenarioFacts.{IsSoundScenario}
pub use Rattle.scenario_text.specs.ScenarioGrammar.{IsScenario}
pub use Rattle.scenario_text.specs.OverLines.{IsOverScenario}
unfoldable pub use Rattle.scenario_text.specs.ScenarioGrammar.{scenario_after_words, scenario_line}
pub use Rattle.scenario_text.specs.ScenarioParts.{ScenarioParts}
unfoldable pub use Rattle.scenario_text.specs.ScriptGrammar.{put_line, script_line, step_line}
pub use Rattle.scenario_text.specs.Setups.{setup_of}
pub use Rattle.scenario_text.specs.declared.script.ScriptLine.{ScriptLine}
pub use Rattle.scenario_text.proofs.SoundOver.{over_own_lines, over_sound}
pub use Rattle.bus_rules.specs.Cores.{Core, booted, closing_accepted, empty_plan, frame_ended, is_member, opening_accepted, schedule_accepted}
pub use Rattle.bus_rules.specs.Granting.{Grants, count_of, gap_of, given, granted_by, grants_for, last_code, owed_to, owners_by, share_in, total}
unfoldable pub use Rattle.bus_rules.specs.Granting.{plan_round, turns}
pub use Rattle.bus_rules.specs.HostPlans.{Answered, HostPlan, Served, answer, answers_to, put_if, serve, served, with_ack}
unfoldable pub use Rattle.bus_rules.specs.HostPlans.{host_plan}
pub use Rattle.bus_rules.specs.Plans.{last_slot, opening}
pub use Rattle.bus_rules.specs.Slots.{DataOf, Message, Opened, RequestOf, ScheduleOf, data_of, delivery_of, host_closes, hosts_now, is_own, is_schedule_part}
pub use Rattle.bus_rules.specs.Slots.{opened_slot, part_of, request_of, silent}
pub use Rattle.bus_rules.specs.States.{State, StateOff, StateOn, at_core}
pub use Rattle.bus_rules.specs.Streams.{Streams, WaitingPacket, acknowledged, after_contention, after_put, cleared, declared, due_of, due_stream, first_waiting}
pub use Rattle.bus_rules.specs.Streams.{heard_host, is_host, names, owner_named, tries_after, unbound, with_agreed}
unfoldable pub use Rattle.bus_rules.specs.Streams.{schedule_heard}
pub use Rattle.bus_rules.specs.Tables.{Table, TableEntry, after_request, has_code, interval_of, is_full, new_entry, with_entry, without}
pub use Rattle.bus_rules.specs.Tuning.{holds_in, hosts_in, rank_of}
pub use Rattle.bus_rules.specs.declared.act.Act.TheVariants.{Declare, On, Put}
pub use Rattle.bus_rules.specs.declared.delivery.Delivery.{Delivery}
pub use Rattle.bus_rules.specs.declared.part.Part.{Part}
pub use Rattle.bus_rules.specs.declared.part.Part.TheVariants.{Closing, Contention, Data as DataSlot, Opening}
pub use Rattle.bus_rules.specs.declared.tune.Tune.TheVariants.{Hold, Host}
pub use Rattle.bus_rules.proofs.Ranks.{hosts_own, member_hosts, planned_rank}
pub use Rattle.bus_terms.specs.Bus.{bus_deliveries, state_at}
unfoldable pub use Rattle.bus_terms.specs.Bus.{before_frame}
unfoldable pub use Rattle.bus_terms.specs.Distances.{walks}
pub use Rattle.bus_terms.specs.FloodOfText.{ids}
pub use Rattle.bus_terms.specs.Flooding.{Accepts, Hears, Moment, STEPS, Setting, accepted, candidates, has, hears, may_hear, named, offer, pick, takes}
unfoldable pub use Rattle.bus_terms.specs.Flooding.{moment}
pub use Rattle.bus_terms.specs.HostedRounds.{IsHosted, node_before, slot_in, state_after_round}
pub use Rattle.bus_terms.specs.Rounds.{Slot, accepted_at, after_round, closed_slot_of, delivery_in_slot, left_by, message_said, opened_at, rank_in}
pub use Rattle.bus_terms.specs.Rounds.{round_deliveries, round_plan, rounds, slot_at, slot_of_round, takes_part}
unfoldable pub use Rattle.bus_terms.specs.Rounds.{before_slot}
pub use Rattle.bus_terms.specs.ScriptedStates.{is_on_and, lines_of, state_after_line}
pub use Rattle.bus_terms.proofs.ContentionSlots.{IsRequest, contention_at, kept_by, only_requests, own_of, requests}
pub use Rattle.bus_terms.proofs.HostedRounds.{Hosting, closing_last, closing_opens, has_planned, host_member, leads, left_windowed, opening_said, said_message}
pub use Rattle.bus_terms.proofs.HostedRounds.{sole_host}
pub use Rattle.bus_terms.proofs.Options.{from_filter, heard_parts, in_filter, inspect, named_parts, only_from, sends_parts}
pub use Rattle.bus_terms.proofs.ReceivedByPaths.{in_filtered, in_whole, of_filtered, one_at_most}
pub use Rattle.bus_terms.proofs.ReceivedInRounds.{accepted_none, ids_rise}
pub use Rattle.bus_terms.proofs.SaidByParts.{owner_alone, window_of, windowed}
pub use Rattle.bus_terms.proofs.WorkedBuses.{at, link, node}
pub use Rattle.law_service.specs.Contenders.{AreContenders, AreTied, AreTiedAfter, Collide, ContendersAreLost, ContendersStayTied, ContentionKeepsTies}
pub use Rattle.law_service.specs.Contenders.{DifferentPacketsCollide, HaveSameNeighbours, SchedulesKeepTies, ThreeSlotsPart, TiesShareSlots, own_number}
pub use Rattle.law_service.specs.DataService.{DataIsDelivered, HasData}
pub use Rattle.law_service.specs.FirstSlots.{FitsNextRound, NewStreamsAreGranted, OwedSlotsAreGranted, PlansRound, RoundsFollow, table_at}
pub use Rattle.law_service.specs.Reach.{HasNoLines, IsWithin, LosesNothing, SlotsWithoutLinesLoseNothing, TakesPart, is_linked}
pub use Rattle.law_service.specs.RequestService.{Acknowledges, KeepsRequest, LoneRequestsAreAcknowledged, LoneRequestsAreKept, ReachesHost}
