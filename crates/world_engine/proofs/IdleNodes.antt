-- Where nodes are idle, listed frame by frame while the log grows.
use Rattle.std.proofs.Common.{◌≡◌, ℕ, zero, suc, ◌+◌, ◌<◌, ◌≤◌, List, [], ◌∷◌, ◌++◌, length, filter_map, Option, Some, None, nat_lt}
use Rattle.std.proofs.Common.{if◌then◌else◌, refl, sym, ◌∙◌, ap, arith, add-one, append-nil}
use Rattle.std.specs.Prelude.{slice_get, flat_map, Contains}
use Rattle.std.specs.List.{cons_option, range_with_len}
use Rattle.std.proofs.lemmas.Option.{slice_get-get_or}
use Rattle.lwb_base.proofs.Elements.{filter_same}
use Rattle.scenario_text.specs.ScenarioParts.{ScenarioParts}
use Rattle.scenario_text.specs.ScenarioFacts.{IsSoundScenario}
use Rattle.event_calendar.specs.Orders.{Due}
use Rattle.bus_rules.specs.Cores.{Setup}
use Rattle.air_log.specs.declared.entry.Entry.{Entry}
use Rattle.air_log.specs.Devices.{Device}
use Rattle.air_log.specs.Lawful.{heard_by}
use Rattle.air_log.specs.Trails.{Reception, frame_start, device_after_script, tune_of, tune_at}
use Rattle.world_engine.specs.Counting.{TrailsStay}
use Rattle.world_engine.specs.Fields.{FieldState}
use Rattle.world_engine.specs.Frames.{told_before}
use Rattle.air_log.specs.Idling.{idle_as, idle_at, idle_in, idle_before, all_idle}
use Rattle.air_log.specs.declared.idle.Idle.{Idle}
use Rattle.air_log.proofs.IdleFrames.{frames_more, frames_alike}
use Rattle.world_engine.specs.Idling.{idle_now}
use Rattle.world_engine.specs.Moments.{InLines}
use Rattle.world_engine.specs.Running.{IsRunning}
use Rattle.world_engine.proofs.CountedScans.{tune_here}
use Rattle.world_engine.proofs.NextMoments.{starts_up}
use Rattle.world_engine.proofs.PlacedNodes.{as_many_devices, setup_at_place}

-- a place of what a list contains
place_in : {X : Type 0} (xs : List X) (x : X) → Contains xs x → (p : ℕ) × (slice_get xs p ≡ Some x)
place_in xs x (k, below, is) = (k, slice_get-get_or xs k x below ∙ ap (λ (y : _). let o : Option _ = Some y in o) is)

-- choices that are the same at each place
chosen_placed : {X Z Y : Type 0} (f : X → Option Y) (g : Z → Option Y) (xs : List X) (zs : List Z) → length xs ≡ length zs
    → ((p : ℕ) (x : X) (z : Z) → slice_get xs p ≡ Some x → slice_get zs p ≡ Some z → f x ≡ g z) → filter_map f xs ≡ filter_map g zs
chosen_placed f g [] [] long same = refl
chosen_placed f g [] (z ∷ zs) long same = absurd (omega (arith, long))
chosen_placed f g (x ∷ xs) [] long same = absurd (omega (arith, long))
chosen_placed f g (x ∷ xs) (z ∷ zs) long same =
    ap (λ (o : Option _). cons_option o (filter_map f xs)) (same 0 x z refl refl)
    ∙ ap (λ (ys : List _). cons_option (g z) ys) (chosen_placed f g xs zs (omega (arith, long)) (λ p y w at here. same (suc p) y w at here))

module _ (s : ScenarioParts) (clocks : ℕ → ℕ → ℕ) where
  -- what is received later changes none of the frames so far
  idle_stay : (t f : ℕ) (old new : List Entry) → ((g : ℕ) → g < f → frame_start s g ≤ t) → TrailsStay s clocks t old new
      → idle_before s clocks old f ≡ idle_before s clocks new f
  idle_stay t f old new before stay = frames_alike (idle_in s clocks old) (idle_in s clocks new) f (λ g less.
      filter_same (idle_at s clocks old g) (idle_at s clocks new g) s.nodes (λ n there.
      let at = place_in s.nodes n there in
      ap (λ (d : Device).
      idle_as g n.node (if nat_lt g s.frames then tune_of (device_after_script s n.node (clocks n.node) (frame_start s g) d).power else None))
      (sym (stay at.0 n at.1 (frame_start s g) (before g less)))))

  pub heard_alike : (old new : List Entry) → ((v : ℕ) → heard_by new v ≡ heard_by old v) → all_idle s clocks old ≡ all_idle s clocks new
  heard_alike old new same = frames_alike (idle_in s clocks old) (idle_in s clocks new) s.frames (λ g less.
      filter_same (idle_at s clocks old g) (idle_at s clocks new g) s.nodes (λ n there.
      ap (λ (hs : List Reception). idle_as g n.node (tune_at s n.node (clocks n.node) hs g)) (sym (same n.node))))

  -- a frame: its lines, after which the idle devices are listed, and its events
  module _ (sound : IsSoundScenario s) (f : ℕ) (within : f < s.frames) (mid : FieldState) (due : List Due)
      (run : IsRunning s clocks (told_before s (f + 1)) (frame_start s f) (InLines (told_before s (f + 1))) mid due) where
    idle_here : filter_map (idle_now f) mid.devices ≡ idle_in s clocks mid.air f
    idle_here = chosen_placed (idle_now f) (idle_at s clocks mid.air f) mid.devices s.nodes (as_many_devices s mid due run.places) (λ p d n there at.
        ap (λ (q : Setup). idle_as f q.id (tune_of d.power)) (setup_at_place s mid due run.places p n d at there)
        ∙ ap (idle_as f n.node) (tune_here s clocks sound f within mid due run p n d at there))

    pub listed_through : (idle listed : List Idle) (first last : FieldState) → idle ≡ idle_before s clocks first.air f
        → listed ≡ idle ++ filter_map (idle_now f) mid.devices → TrailsStay s clocks (frame_start s f) first.air mid.air
        → TrailsStay s clocks (frame_start s f) mid.air last.air → listed ≡ idle_before s clocks last.air (f + 1)
    listed_through idle listed first last are more stay stays =
        more
        ∙ ap (λ (l : List Idle). l ++ filter_map (idle_now f) mid.devices)
        (are ∙ idle_stay (frame_start s f) f first.air mid.air (λ g less. starts_up s g f (omega (arith, less))) stay)
        ∙ ap (λ (l : List Idle). idle_before s clocks mid.air f ++ l) idle_here
        ∙ sym (frames_more (idle_in s clocks mid.air) f)
        ∙ idle_stay (frame_start s f) (f + 1) mid.air last.air (λ g less. starts_up s g f (omega (arith, less))) stays
