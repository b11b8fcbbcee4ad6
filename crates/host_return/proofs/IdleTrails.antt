-- Where nodes are idle, by their trails.
use Rattle.std.proofs.Common.{◌≡◌, ℕ, ◌<◌, List, [], ◌∷◌, filter_map, map, Option, refl, ◌∙◌, ap, arith}
use Rattle.std.specs.Prelude.{slice_get, flat_map}
use Rattle.std.specs.List.{cons_option, range_with_len}
use Rattle.std.specs.Option.{option_flatten}
use Rattle.std.proofs.lemmas.List.FromFn.{length-map-range_with_len, get_or-map-range_with_len}
use Rattle.std.proofs.lemmas.Option.{slice_get-get_or}
use Rattle.lwb_base.proofs.Elements.{filter_same}
use Rattle.scenario_text.specs.ScenarioParts.{ScenarioParts}
use Rattle.scenario_text.specs.declared.lines.NodeLine.{NodeLine}
use Rattle.scenario_clocks.specs.StatedClocks.{scenario_clock}
use Rattle.air_log.specs.declared.entry.Entry.{Entry}
use Rattle.air_log.specs.Lawful.{heard_by}
use Rattle.air_log.specs.Trails.{tune_at}
use Rattle.air_log.specs.Idling.{idle_as, idle_at, idle_in}
use Rattle.air_log.proofs.IdleFrames.{frames_alike}
use Rattle.host_return.specs.Probes.{idle_of}
use Rattle.host_return.specs.TrailsInOrder.{trail_in, idle_told}
use Rattle.host_return.specs.declared.idle_trails.NodeTrail.{NodeTrail}

-- a choice of what a map gives
chosen_of : {X Y Z : Type 0} (f : X → Y) (h : Y → Option Z) (xs : List X) → filter_map h (map f xs) ≡ filter_map (λ x. h (f x)) xs
chosen_of f h [] = refl
chosen_of f h (x ∷ xs) = ap (cons_option (h (f x))) (chosen_of f h xs)

-- at the place of a frame
told_at : {X : Type 0} (F : ℕ → Option X) (n f : ℕ) → f < n → option_flatten (slice_get (map F (range_with_len 0 n)) f) ≡ F f
told_at F n f less =
    ap option_flatten (slice_get-get_or (map F (range_with_len 0 n)) f (F f) (omega (arith, less, length-map-range_with_len F 0 n)))
    ∙ get_or-map-range_with_len F 0 n f f (F f) less (omega arith)

module _ (s : ScenarioParts) (air : List Entry) where
  frame_told : (f : ℕ) → f < s.frames → filter_map (idle_told f) (map (trail_in s air) s.nodes) ≡ idle_in s (scenario_clock s) air f
  frame_told f less =
      chosen_of (trail_in s air) (idle_told f) s.nodes
      ∙ filter_same (λ (n : NodeLine). idle_told f (trail_in s air n)) (idle_at s (scenario_clock s) air f) s.nodes (λ n there.
      ap (idle_as f n.node) (told_at (tune_at s n.node (scenario_clock s n.node) (heard_by air n.node)) s.frames f less))

  -- all frames, by the trails of all nodes
  pub all_told : (trails : List NodeTrail) → trails ≡ map (trail_in s air) s.nodes
      → flat_map (λ f. filter_map (idle_told f) trails) (range_with_len 0 s.frames) ≡ idle_of s air
  all_told trails are = frames_alike (λ (f : ℕ). filter_map (idle_told f) trails) (idle_in s (scenario_clock s) air) s.frames (λ f less.
      ap (filter_map (idle_told f)) are ∙ frame_told f less)
