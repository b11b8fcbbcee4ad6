-- Each slot of a round is a run of the theorem on floods, if its scanning nodes listen.
use Rattle.std.proofs.Common.{◌≡◌, ℕ, ◌+◌, ◌*◌, ◌^◌, ◌≤◌, List, [], ◌∷◌, Bool, true, false, ◌||◌, ◌==◌, if◌then◌else◌, length, refl, ◌∙◌, ap, arith, eq-eqb}
use Rattle.std.proofs.Math.Nat.{mul-le-mul_right}
use Rattle.lwb_base.specs.declared.limits.TheConstants.{MOST_FRAMES}
use Rattle.lwb_base.specs.Messages.{Plan}
use Rattle.lwb_base.specs.Profile.{step}
use Rattle.time_reference.specs.Budgets.{budget_of, budget_one, budget_two}
use Rattle.time_reference.proofs.BudgetRoom.{packets_grow}
use Rattle.scenario_text.specs.ScenarioParts.{ScenarioParts}
use Rattle.radio_model.specs.Hearing.{Scene, TunedThrough}
use Rattle.air_log.specs.declared.entry.Entry.{Entry}
use Rattle.air_log.specs.HearsAir.{scene_of}
use Rattle.air_log.specs.NodeEvents.{Event}
use Rattle.law_trails.proofs.ProfilePackets.{covers}
use Rattle.law_safety.proofs.RunFacts.{run_fits}
use Rattle.law_safety.proofs.RunSendings.{of_flood}
use Rattle.bus_terms.specs.Flooding.{has}
use Rattle.lwb_flood.specs.FloodRun.{Run, initiates}
use Rattle.lwb_flood.specs.FloodBySteps.{IsFloodBySteps}
use Rattle.lwb_flood.specs.Windows.{IsSlotFlood}
use Rattle.lwb_flood.proofs.Slots.{slot_run}
use Rattle.lwb_flood.proofs.WholeFlood.{flood_by_steps}
use Rattle.law_terms.specs.LawfulRuns.{IsLawfulRun}
use Rattle.bus_terms.specs.HostedRounds.{slot_in}
use Rattle.law_terms.specs.SlotLaws.{IsRound}
use Rattle.law_terms.specs.SlotRuns.{RunsLaw}
use Rattle.law_terms.specs.SlotSteps.{IsSlotStart}
use Rattle.law_bus.proofs.RunsOfLogs.{whole}
use Rattle.law_bus.specs.ScannerLaws.{ScannersListen, ScannersLaw}
use Rattle.law_bus.specs.SlotRun.{AreEvents, run_of_slot, size_by}
use Rattle.law_bus.proofs.ListeningInSlots.{has_events, listens, origin_times}
use Rattle.law_bus.proofs.RelayedInSlots.{has_sendings}
use Rattle.law_bus.proofs.ScannersListen.{scanners_listen}
use Rattle.law_bus.proofs.SlotEvents.{all_events}
use Rattle.law_bus.proofs.SlotPackets.{has_initiators, first_of, first_packet}
use Rattle.law_bus.proofs.SlotParties.{known_party}
use Rattle.law_bus.proofs.SlotRecords.{is_run_of}
use Rattle.law_bus.proofs.SlotStarts.{in_it}
use Rattle.law_bus.proofs.SlotsOnAir.{by_rule}

least_of : (b : Bool) → 7 ≤ (if b then budget_one else budget_two).packet
least_of true = omega arith
least_of false = omega arith

module _ (s : ScenarioParts) (clocks : ℕ → ℕ → ℕ) (air : List Entry) (lawful : IsLawfulRun s clocks air)
    (rank f j : ℕ) (p : Plan) (round : IsRound s rank f p) (start : IsSlotStart s clocks air rank f p j)
    (events : ℕ → List Event) (are : AreEvents s clocks air rank f j events) where
  abbrev r : Run
  r = run_of_slot s clocks air rank f p j events

  abbrev a : Scene
  a = scene_of s.profile s.trace air

  abbrev long : ℕ → ℕ
  long o = length (r.message o)

  abbrev size : ℕ
  size = size_by long (slot_in s rank f p j).flood.initiators

  record HasSize (n : ℕ) : Type 0 where
    least : 7 ≤ n
    most : n ≤ (budget_of s.profile).packet

  said_size : (o : ℕ) → initiates r o → HasSize (long o)
  said_size o here =
      let x = first_of s clocks air lawful rank f j p round start events are o here in
      let there = in_it s clocks air lawful rank f j p round.in_run start events are o here in
      let flood = of_flood s clocks air (whole s clocks air lawful) x there.0 in
      let same : length x.packet ≡ long o = ap (λ (q : List ℕ). length q) (first_packet s clocks air lawful rank f j p round start events are o here) in
      let least = flood.some in
      let most = flood.most in
      let room = (covers s.profile lawful.sound.profile).packets in
      record { least = omega (arith, least, same); most = omega (arith, most, same, room) }

  least_packet : 7 ≤ (budget_of s.profile).packet
  least_packet = least_of (s.profile.seconds == 4)

  size_in : (l : List ℕ) → (slot_in s rank f p j).flood.initiators ≡ l → HasSize (size_by long l)
  size_in [] is = record { least = omega arith; most = least_packet }
  size_in (o ∷ os) is = said_size o (ap (λ (l : List ℕ). has l o) is ∙ ap (λ (b : Bool). b || has os o) (eq-eqb o o refl))

  has_size : HasSize size
  has_size = size_in (slot_in s rank f p j).flood.initiators refl

  in_range : (o : ℕ) → initiates r o → r.starts o + 12 * step s.profile size ≤ 2 ^ 45
  in_range o here =
      let b = budget_of s.profile in
      let fits = run_fits s lawful.sound in
      let begins = (origin_times s clocks air lawful rank f j p round start events are o here).1 in
      let frames : s.frames * s.profile.frame ≤ MOST_FRAMES * s.profile.frame = mul-le-mul_right s.profile.frame lawful.sound.few_frames in
      let room = fits.run in
      let window = fits.window in
      let close = fits.close in
      let whole_round = fits.round in
      let alarm = fits.alarm in
      let clock = fits.clock in
      let turn = fits.turn_short in
      let slots : 1 * s.profile.slot ≤ (b.last + 1) * s.profile.slot = mul-le-mul_right s.profile.slot (omega arith) in
      let grows = (packets_grow s.profile b fits size b.packet has_size.most).1 in
      omega (arith, begins, frames, room, window, close, whole_round, alarm, clock, turn, slots, grows)

  is_slot : ScannersListen s clocks air rank f j r → IsSlotFlood s.profile (budget_of s.profile) size clocks r (TunedThrough a)
  is_slot scanners = record {
    size = has_size.least;
    air = refl;
    turn = refl;
    delta = refl;
    spread = omega arith;
    in_range = in_range;
    clocks_drift = λ v here. lawful.drift v (known_party s clocks air lawful rank f j p round.in_run start v here);
    relay_start = λ v e here. refl;
    initiators = has_initiators s clocks air lawful rank f j p round start events are;
    sent = has_sendings s clocks air lawful rank f j p round start events are;
    happened = has_events s clocks air lawful rank f j p round start events are;
    hears = by_rule s clocks air lawful rank f j p round.in_run start events;
    windows = listens s clocks air lawful rank f j p round start events are scanners;
  }

  pub by_steps : ScannersListen s clocks air rank f j r → IsFloodBySteps r
  by_steps scanners = flood_by_steps r (TunedThrough a)
      (slot_run s.profile (budget_of s.profile) (run_fits s lawful.sound) size clocks r (TunedThrough a) (is_slot scanners))

runs_by_scanners : ScannersLaw → RunsLaw
runs_by_scanners scanners s clocks air lawful rank f j p round within start =
    let some = all_events s clocks air lawful rank f j round.in_run in
    let listen = scanners s clocks air lawful rank f j p round within start some.0 some.1 in (
      run_of_slot s clocks air rank f p j some.0,
      is_run_of s clocks air lawful rank f j p round start some.0 some.1,
      by_steps s clocks air lawful rank f j p round start some.0 some.1 listen,
    )

pub slots_are_runs : RunsLaw
slots_are_runs = runs_by_scanners scanners_listen
