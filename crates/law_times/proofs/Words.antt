-- The words of the crates below, and of this crate, that most of its proofs name, passed on from one place. Declares nothing.
pub use Rattle.std.specs.List.{cons_option, find, list_all, list_any, range_with_len, slice_index_or}
pub use Rattle.std.specs.Option.{option_map_or, option_or}
unfoldable pub use Rattle.std.specs.Str.{chars, is_utf8}
pub use Rattle.std.proofs.Math.Nat.{add-mul-div_right, div-eq_of_lt, div-lt_iff_lt-mul, div-mul-le_self, lt-div-mul-add, lt-mul-div-succ, mod-eq_of_lt}
pub use Rattle.std.proofs.Math.Nat.{mod_self, mul-le-mul_left, mul-le-mul_right, mul-suc}
pub use Rattle.std.proofs.lemmas.Bool.{and_parts, cases_Bool, cases_eq, cases_lt, cond-false, cond-true, cond_both, eq-eqb, eqb-false, eqb-true, false≢true}
pub use Rattle.std.proofs.lemmas.Bool.{le-leb, le-ltb, leb-true, lt-leb, lt-ltb, ltb-false, ltb-true, ne_eqb, not-true, or_cases, or_left, or_parts, or_right}
pub use Rattle.std.proofs.lemmas.List.{length-map, take_all}
pub use Rattle.std.proofs.lemmas.List.Quantifiers.{position-Some}
pub use Rattle.std.proofs.lemmas.List.Sums.{count_by_more_no, count_by_more_yes, sum_by-cons}
pub use Rattle.std.proofs.lemmas.Nat.{le-div, mod_below}
unfoldable pub use lib.Utf8.{encode}
pub use Rattle.lwb_base.specs.Messages.{Ask, Plan, Schedule, code, code_of, node_of, stream_of}
unfoldable pub use Rattle.lwb_base.specs.Messages.{least_passing}
pub use Rattle.lwb_base.specs.Profile.{IsProfile, Numbers, contended, one}
pub use Rattle.lwb_base.proofs.Elements.{all_passes, contains_at, contains_cases, contains_head, contains_tail, filter_from, filtered, in_filter}
pub use Rattle.lwb_base.proofs.Elements.{in_flat, map_contains, map_from}
pub use Rattle.lwb_base.proofs.Elements.{not_in_none, one_of, some_of}
pub use Rattle.link_trace.specs.declared.lines.LoseLine.{LoseLine}
unfoldable pub use Rattle.text_readers.specs.Reading.{draft_after_line}
unfoldable pub use Rattle.scenario_text.specs.Network.{network_line}
pub use Rattle.scenario_text.specs.ScenarioFacts.{IsSoundScenario, turned_by}
pub use Rattle.scenario_text.specs.ScenarioGrammar.{IsScenario}
pub use Rattle.scenario_text.specs.OverLines.{IsOverScenario}
unfoldable pub use Rattle.scenario_text.specs.ScenarioGrammar.{scenario_after_words, scenario_line}
pub use Rattle.scenario_text.specs.ScenarioParts.{ScenarioParts}
unfoldable pub use Rattle.scenario_text.specs.ScriptGrammar.{put_line, script_line, step_line}
pub use Rattle.scenario_text.specs.Setups.{setup_of}
pub use Rattle.scenario_text.specs.declared.script.ScriptLine.{ScriptLine}
pub use Rattle.scenario_text.proofs.SoundOver.{over_own_lines, over_sound}
pub use Rattle.bus_rules.specs.Cores.{Core, Setup, as_host, begins_host, booted, closing_accepted, empty_plan, frame_ended, is_fresh, is_member, no_plan}
pub use Rattle.bus_rules.specs.Cores.{opening_accepted, own_rank, schedule_accepted}
pub use Rattle.bus_rules.specs.Granting.{Grants, count_of, gap_of, given, grant, granted_by, grants_for, last_code, owed_to, share_in, total}
unfoldable pub use Rattle.bus_rules.specs.Granting.{plan_round}
pub use Rattle.bus_rules.specs.HostPlans.{Answered, HostPlan, Served, answer, answers_to, put_if, serve, served, with_ack}
unfoldable pub use Rattle.bus_rules.specs.HostPlans.{host_plan}
pub use Rattle.bus_rules.specs.Plans.{last_slot, opening, slots_named}
pub use Rattle.bus_rules.specs.Slots.{Closed, Data, DataOf, Message, Opened, RequestOf, ScheduleOf, closed_slot, delivery_of, host_closes, hosts_now, is_own}
pub use Rattle.bus_rules.specs.Slots.{is_schedule_part, opened_slot, owner_heard, part_of, request_of, silent, slot_heard}
pub use Rattle.bus_rules.specs.States.{State, StateOff, StateOn, at_core, core_after_act, state_after_act}
pub use Rattle.bus_rules.specs.Streams.{Stream, Streams, WaitingPacket, acknowledged, after_contention, after_forgetting, after_put, after_taking, cleared}
pub use Rattle.bus_rules.specs.Streams.{due_of, due_stream, emptied, first_waiting, forgotten, granted_stream, has_due_request, heard_host, is_host, named_in}
pub use Rattle.bus_rules.specs.Streams.{names, no_stream, owner_named, put_to, queued, refuses, request_is_due, requested, stream_at, streams_after_act}
pub use Rattle.bus_rules.specs.Streams.{tries_after, unbound, wishes, with_agreed, with_stream, without_first}
unfoldable pub use Rattle.bus_rules.specs.Streams.{schedule_heard}
pub use Rattle.bus_rules.specs.Tables.{AreEntries, EntriesAreAbove, EntriesAscend, Table, TableEntry, after_request, entry_after_data, entry_of, has_code}
pub use Rattle.bus_rules.specs.Tables.{interval_of, is_full, missed, new_entry, no_table, with_entry, without}
pub use Rattle.bus_rules.specs.Tuning.{holds_in, hosts, hosts as is_hosting, hosts_in, is_rank, is_scan, next_tune, rank_of, scans}
pub use Rattle.bus_rules.specs.declared.act.Act.{Act}
pub use Rattle.bus_rules.specs.declared.act.Act.TheVariants.{Declare, Leave, Off, On, Put}
pub use Rattle.bus_rules.specs.declared.delivery.Delivery.{Delivery}
pub use Rattle.bus_rules.specs.declared.part.Part.{Part}
pub use Rattle.bus_rules.specs.declared.part.Part.TheVariants.{Closing, Contention, Data as DataSlot, Opening}
pub use Rattle.bus_rules.specs.declared.tune.Tune.{Tune}
pub use Rattle.bus_rules.specs.declared.tune.Tune.TheVariants.{Hold, Host, Scan}
pub use Rattle.bus_rules.proofs.Ranks.{host_now, member_hosts, planned_rank, rank_is, same_schedule}
pub use Rattle.bus_rules.proofs.Switches.{acts_keep}
pub use Rattle.bus_terms.specs.Bus.{bus_deliveries, frames_of, ranks_of, state_at}
unfoldable pub use Rattle.bus_terms.specs.Bus.{before_frame}
pub use Rattle.bus_terms.specs.Distances.{IsDistance}
unfoldable pub use Rattle.bus_terms.specs.Distances.{walks}
pub use Rattle.bus_terms.specs.FloodOfText.{ids}
pub use Rattle.bus_terms.specs.Flooding.{Accepts, Hears, Moment, STEPS, Setting, accepted, candidates, has, hears, may_hear, named, offer, pick, takes}
unfoldable pub use Rattle.bus_terms.specs.Flooding.{moment}
pub use Rattle.bus_terms.specs.HostedRounds.{IsHosted, node_before, slot_in, state_after_round}
pub use Rattle.bus_terms.specs.Rounds.{Slot, accepted_at, after_round, closed_slot_of, delivery_in_slot, first_node, left_by, message_said, opened_at, plan_in}
pub use Rattle.bus_terms.specs.Rounds.{rank_in, round_deliveries, round_of_rank, round_plan, rounds, slot_at, slot_deliveries, slots_of, takes_part}
unfoldable pub use Rattle.bus_terms.specs.Rounds.{before_slot}
pub use Rattle.bus_terms.specs.ScriptedStates.{is_on_and, lines_of, power, state_after_line, states_after_script}
pub use Rattle.bus_terms.proofs.ContentionSlots.{only_data, requests}
pub use Rattle.bus_terms.proofs.FirstHearings.{accepted_first}
pub use Rattle.bus_terms.proofs.HostedRounds.{Hosting, accepts_none, before_closing, begins, closing_last, closing_opens, found_only, has_planned, heard_from}
pub use Rattle.bus_terms.proofs.HostedRounds.{host_member, is_closing, leads, left_windowed, opening_said, said_message, sole_host}
pub use Rattle.bus_terms.proofs.HostsOfRanks.{IsRightful, IsRightfulState, contention_no_schedule, data_no_schedule, due_hosts, due_rank, one_of_rank, rightful}
pub use Rattle.bus_terms.proofs.HostsOfRanks.{rightful_before}
pub use Rattle.bus_terms.proofs.KeptInRounds.{rounds_keep, slots_keep}
pub use Rattle.bus_terms.proofs.KeptNone.{keeps_nothing, kept_of}
pub use Rattle.bus_terms.proofs.KeptRanks.{hosted, member_of}
pub use Rattle.bus_terms.proofs.ReceivedByPaths.{in_filtered, in_whole, of_filtered}
pub use Rattle.bus_terms.proofs.SaidByParts.{windowed}
pub use Rattle.bus_terms.proofs.WorkedBuses.{at, backup, link, node}
pub use Rattle.law_service.specs.Contenders.{own_number}
pub use Rattle.law_service.specs.DataService.{HasData, delivery}
pub use Rattle.law_service.specs.FirstSlots.{FitsNextRound, PlansRound, table_at}
pub use Rattle.law_service.specs.Reach.{HasNoLines, IsWithin, LosesNothing, TakesPart, is_linked}
pub use Rattle.law_service.proofs.AcceptedSchedules.{closings, openings}
pub use Rattle.law_service.proofs.ComputedCores.{core_of, is_on, on_core}
pub use Rattle.law_service.proofs.DeliveredData.{delivered_within}
pub use Rattle.law_service.proofs.GrantedSlots.{fitting_grants, gap_range, round_gap}
pub use Rattle.law_service.proofs.LoneRequests.{same_core}
pub use Rattle.law_service.proofs.LosslessSlots.{lose_nothing, none_harder}
pub use Rattle.law_service.proofs.OffNodes.{says_none}
pub use Rattle.law_times.specs.ContentionTurns.{Asker, IsBackingOff, PartWithin, SixNeverPart, SixOfThreeNeverPart, asks_again, asks_anew, asks_in, ids_apart}
pub use Rattle.law_times.specs.ContentionTurns.{parting_bound, requests_after, six_askers, six_waiters, slot_after}
unfoldable pub use Rattle.law_times.specs.ContentionTurns.{after_turns}
pub use Rattle.law_times.specs.Contentions.{AreAlone, AreTwo, Asks, IsAnswered, IsHeardAlone, IsNamed, IsNew, PartOnTheBus, PassesOver, changes_wish}
pub use Rattle.law_times.specs.Failovers.{BackupsTakeOver, HostsWithin, IsLastHost, LosesHost, NodesFollow, failover_bound}
pub use Rattle.law_times.specs.FirstRounds.{Begins, FirstRoundsCome, IsUpBy, MembersStay, NodesJoin}
pub use Rattle.law_times.specs.Losses.{AwaitRound, CostsFew, LossesCostFew, ScannersReturn, has_round, is_lossless}
unfoldable pub use Rattle.law_times.specs.Losses.{lossy_rounds, lossy_row, scanned}
pub use Rattle.law_times.specs.Paces.{HasEntry, HasSlowStreams, IsOnPace, OwedAlwaysFits, SlotsComeWithin, StreamsKeepPace, is_fast, latency_bound}
pub use Rattle.law_times.specs.Queues.{AgreedPacketsComeWithin, AwaitsSlot, IsAgreed, IsDelivered, IsQueued, IsServed, PacketsComeWithin, StreamPacket}
pub use Rattle.law_times.specs.Queues.{delivery_to, leaves, resets}
pub use Rattle.law_times.specs.Reaches.{IsGroup, IsLossless, IsReached}
pub use Rattle.law_times.specs.ScriptedPower.{BootsIn, StaysOff, StaysOn, has_line, is_on_in, power_after_line, power_in, turns_off, turns_on}
unfoldable pub use Rattle.law_times.specs.ScriptedPower.{power_before}
pub use Rattle.law_times.specs.SixNodes.{HasNoStream, NobodyIsAnswered, SixAreNeverAnswered, six_nodes, the_seven, the_six}
pub use Rattle.law_times.specs.Tunes.{AreMembers, HasTune, Hosts, IsTuned}
