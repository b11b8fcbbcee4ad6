-- A scanning node joins by the first schedule of its rank that it receives in a frame.
use Rattle.std.proofs.Common.{◌≡◌, ℕ, suc, ◌+◌, ◌/◌, ◌≤◌, inl, inr, List, Bool, true, false, ◌==◌, if◌then◌else◌, min}
use Rattle.std.proofs.Common.{Contains, refl, sym, ◌∙◌, ap, subst, arith, true≢false, eq-eqb}
use Rattle.std.proofs.Math.Nat.{mul-le-mul_right}
use Rattle.std.proofs.lemmas.Bool.{cases_lt}
use Rattle.radio_model.specs.Hearing.{frame_of_sending}
use Rattle.bus_rules.specs.Cores.{Setup}
use Rattle.node_core.specs.declared.stage.Stage.{Stage}
use Rattle.node_core.specs.declared.stage.Stage.TheVariants.{Idle, Scanning, AwaitFrame, AwaitSlot, InWindow}
use Rattle.node_core.specs.Nodes.{Node}
use Rattle.node_core.specs.Rows.{frame_alarms}
use Rattle.scenario_text.specs.ScenarioParts.{ScenarioParts}
use Rattle.scenario_text.specs.declared.script.ScriptLine.{ScriptLine}
use Rattle.air_log.specs.declared.entry.Entry.{Entry}
use Rattle.air_log.specs.Devices.{Device, Power, PowerOff, PowerOn}
use Rattle.air_log.specs.Lawful.{heard_by}
use Rattle.scenario_text.specs.Setups.{setup_of}
use Rattle.air_log.specs.Trails.{Reception, ending_at, device_after_receptions as heard_all, frame_start, device_after_script}
use Rattle.lwb_base.proofs.Elements.{in_filtered}
use Rattle.law_trails.specs.Phases.{Phase, Lines, Hearings, End, Alarms, Start, Over, next_phase, device_at}
use Rattle.law_trails.specs.TrailLinks.{device_in}
use Rattle.law_trails.proofs.HeardInTrails.{reception_is}
use Rattle.law_trails.proofs.SentInTrails.{sent_lasts}
use Rattle.law_safety.specs.CountedFrames.{InFrame}
use Rattle.law_safety.specs.SetAlarms.{rank_at}
use Rattle.law_safety.specs.Rows.{AtTick}
use Rattle.law_safety.proofs.FrameStarts.{counts_near, line_starts}
use Rattle.law_safety.proofs.RunFacts.{frame_begins, frame_ends, frame_in_run}
use Rattle.law_safety.proofs.InvariantHolds.{all_rows}
use Rattle.law_windows.specs.WindowLaws.{ScannersJoinFirst}
use Rattle.law_windows.specs.ScannedSchedules.{NoneHeard, ScansAt, ScansBy, JoinsFirst}
use Rattle.law_windows.specs.WindowSteps.{taken_in}
use Rattle.law_windows.proofs.ScannedHearings.{scanned_device}
use Rattle.law_windows.proofs.KnownThroughout.{KeepsKnown, all_windows}

module _ (s : ScenarioParts) (clocks : ℕ → ℕ → ℕ) (air : List Entry) (v : ℕ) where
  abbrev S : Setup
  S = setup_of s v

  abbrev Scanned : ℕ → Phase → Power → Type 0
  Scanned t phase p = ScansBy s air v (taken_in t phase) p

  -- nothing of a frame has ended before it begins
  not_yet : (t : ℕ) → AtTick s clocks air v t → (rank frame until : ℕ) → until ≤ suc t → until ≤ frame_start s frame → NoneHeard s air v rank frame until
  not_yet t at rank frame until now early x y heard of_frame ends says own =
      let reach = at.run.heedful.heard v x heard in
      let lasts = (sent_lasts s clocks air at.run.heedful.trails x reach.sent).1 in
      let begins = frame_begins s at.run.driven.sound x.start in
      let start : frame_start s (frame_of_sending s.profile x) ≡ frame_start s frame = ap (λ (f : ℕ). frame_start s f) of_frame in
      omega (arith, lasts, begins, start, early, ends)

  in_frame : (t : ℕ) → AtTick s clocks air v t → (until : ℕ) → until ≤ suc t → (n : Node) → until ≤ frame_start s n.frame → (st : Stage)
      → ScansAt s air v until n st
  in_frame t at until now n early Idle = tt
  in_frame t at until now n early Scanning = not_yet t at (rank_at n) n.frame until now early
  in_frame t at until now n early AwaitFrame = tt
  in_frame t at until now n early (AwaitSlot j) = tt
  in_frame t at until now n early (InWindow j w) = tt

  -- where a line is given
  told : (t : ℕ) → AtTick s clocks air v t → (l : ScriptLine) (n m : Node) → frame_start s l.frame ≡ t → InFrame s clocks v t n → m.frame ≡ n.frame
      → Scanned t Lines (PowerOn m)
  told t at l n m now frame same =
      let start = line_starts s at.run.driven.sound t l now in
      let counts = (counts_near s clocks v t n frame).0 in
      let from : t / s.profile.frame ≤ m.frame = omega (arith, counts, same) in
      let frames = mul-le-mul_right s.profile.frame from in
      in_frame t at t (omega arith) m (omega (arith, start, frames)) m.stage

  ends_frame : (t : ℕ) → AtTick s clocks air v t → (n : Node) → InFrame s clocks v t n → Scanned t Alarms (PowerOn (frame_alarms (setup_of s v) n).node)
  ends_frame t at n frame =
      let r = frame_alarms S n in
      let early = frame_in_run s at.run.driven.sound t at.in_run in
      let counts = counts_near s clocks v t n frame in
      let next : t / s.profile.frame + 1 ≤ min (n.frame + 1) 16777215 = omega (arith, counts.0, counts.1, early) in
      let frames = mul-le-mul_right s.profile.frame next in
      let ends = frame_ends s at.run.driven.sound t in
      in_frame t at (suc t) (omega arith) r.node (omega (arith, frames, ends)) r.node.stage

  closes : (until : ℕ) (m : Node) (j : ℕ) (b : Bool) → ScansAt s air v until m (if b then AwaitSlot (j + 1) else AwaitFrame)
  closes until m j true = tt
  closes until m j false = tt

  -- where all receptions of the tick have been taken
  all_taken : (t : ℕ) (d : Device) → ScansBy s air v t d.power → d ≡ device_at s v (clocks v) (heard_by air v) t End → ScansBy s air v (suc t) d.power
  all_taken t d scans enters = by_power d.power refl scans
    where
      by_power : (p : Power) → d.power ≡ p → ScansBy s air v t p → ScansBy s air v (suc t) p
      by_power (PowerOff count) on scans = tt
      by_power (PowerOn n) on scans = by_stage n.stage refl scans
        where
          by_stage : (st : Stage) → n.stage ≡ st → ScansAt s air v t n st → ScansAt s air v (suc t) n st
          by_stage Idle stage scans = tt
          by_stage AwaitFrame stage scans = tt
          by_stage (AwaitSlot j) stage scans = tt
          by_stage (InWindow j w) stage scans = tt
          by_stage Scanning stage scans = λ x y heard of_frame ends says own. elim (cases_lt x.end t) [
            | inl earlier ↦ scans x y heard of_frame earlier says own
            | inr late ↦ (
                let now : x.end ≡ t = omega (arith, late, ends) in
                let h : Reception = record { packet = x.packet; end = x.end } in
                let known : Contains (heard_by air v) h = (reception_is air v h).1 (record { sending = x; there = heard; packet = refl; end = refl }) in
                let among : Contains (ending_at t (heard_by air v)) h =
                in_filtered (λ (r : Reception). r.end == t) (heard_by air v) h known (eq-eqb x.end t now) in
                let power : (heard_all (clocks v) S t (heard_by air v) (device_after_script s v (clocks v) t (device_in s clocks air v t))).power ≡ PowerOn n =
                ap (λ (e : Device). e.power) (sym enters) ∙ on in
                (scanned_device (clocks v) S t (ending_at t (heard_by air v))
                (device_after_script s v (clocks v) t (device_in s clocks air v t)) n power stage).1 h among y says own
                )
          ]

  goes_on : (t : ℕ) (phase : Phase) (d : Device) → Scanned t phase d.power → d ≡ device_at s v (clocks v) (heard_by air v) t (next_phase phase)
      → Scanned t (next_phase phase) d.power
  goes_on t Lines d is enters = is
  goes_on t Hearings d is enters = all_taken t d is enters
  goes_on t End d is enters = is
  goes_on t Alarms d is enters = is
  goes_on t Start d is enters = is
  goes_on t Over d is enters = is

  -- at another place
  elsewhere : (until : ℕ) (n : Node) (st : Stage) → n.stage ≡ st → ScansAt s air v until n st → ScansBy s air v until (PowerOn n)
  elsewhere until n st stage is = subst (ScansAt s air v until n) (sym stage) is

  steps : (t : ℕ) → AtTick s clocks air v t → KeepsKnown s clocks air v (λ t phase p. ScansBy s air v (taken_in t phase) p) (JoinsFirst s air v) t
  steps t at = record {
    told = λ l n m now frame same. told t at l n m now frame same;
    off = λ l boots now. tt;
    joined = λ d h n y fine now on stage scans heard. subst (ScansAt s air v t n) stage scans;
    hears = λ n j w stage. elsewhere t n (InWindow j w) stage tt;
    goes_on = λ n j w stage. elsewhere (suc t) n (InWindow j w) stage tt;
    ends_frame = λ n frame. ends_frame t at n frame;
    opened = λ d n j fine due on stage scans heard. absurd (true≢false heard);
    closes = λ n j b stage. elsewhere (suc t) n (if b then AwaitSlot (j + 1) else AwaitFrame) stage (closes (suc t) n j b);
    ended = λ p is. is;
    started = λ p is. is;
    onwards = λ phase d is enters. goes_on t phase d is enters;
    passes = λ p is. is;
  }

pub scanners_join_first : ScannersJoinFirst
scanners_join_first s clocks air run v known =
    all_windows s clocks air v (λ t phase p. ScansBy s air v (taken_in t phase) p) (JoinsFirst s air v) (λ x happenings last closed is. is)
    all_rows run known tt (steps s clocks air v)
