-- Where nodes are idle is listed by frame and then node.
use Rattle.std.proofs.Common.{◌≡◌, ℕ, zero, suc, ◌<◌, ◌≤◌, List, [], ◌∷◌, filter_map, Option, Some, None, refl, sym, subst, arith, add-one}
use Rattle.std.specs.Prelude.{AllPairs, Contains}
use Rattle.std.specs.List.{cons_option, range_with_len}
use Rattle.lwb_base.proofs.Elements.{filter_from, from_flat, pairs_cons, pairs_append, pairs_head, pairs_tail}
use Rattle.scenario_text.specs.ScenarioFacts.{IsSoundScenario}
use Rattle.scenario_text.specs.ScenarioParts.{ScenarioParts}
use Rattle.scenario_text.specs.declared.lines.NodeLine.{NodeLine}
use Rattle.scenario_clocks.specs.StatedClocks.{scenario_clock}
use Rattle.air_log.specs.declared.entry.Entry.{Entry}
use Rattle.air_log.specs.Idling.{idle_at, idle_in, idle_before}
use Rattle.air_log.specs.declared.idle.Idle.{Idle}
use Rattle.air_log.proofs.IdleFrames.{frames_more}
use Rattle.host_return.specs.Probes.{idle_of}
use Rattle.host_return.proofs.IdleInRuns.{listed_as, range_below, tune_in}

-- x comes before y
pub record IsEarlier (x y : Idle) : Type 0 where
  pub frame : x.frame ≤ y.frame
  pub node : x.frame ≡ y.frame → x.node < y.node

abbrev IsBelow : NodeLine → NodeLine → Type 0
IsBelow a b = a.node < b.node

none_pairs : AllPairs IsEarlier []
none_pairs i j d less within = absurd (omega (arith, within))

module _ (s : ScenarioParts) (air : List Entry) where
  frame_ordered : (f : ℕ) (ns : List NodeLine) → AllPairs IsBelow ns → AllPairs IsEarlier (filter_map (idle_at s (scenario_clock s) air f) ns)
  frame_ordered f [] ascend = none_pairs
  frame_ordered f (n ∷ ns) ascend =
      by_case (idle_at s (scenario_clock s) air f n) refl (frame_ordered f ns (pairs_tail IsBelow n ns ascend))
    where
      rest : List Idle
      rest = filter_map (idle_at s (scenario_clock s) air f) ns

      by_case : (o : Option Idle) → idle_at s (scenario_clock s) air f n ≡ o → AllPairs IsEarlier rest → AllPairs IsEarlier (cons_option o rest)
      by_case None is ordered = ordered
      by_case (Some x) is ordered = pairs_cons IsEarlier x rest (λ y there.
          let w = filter_from (idle_at s (scenario_clock s) air f) ns y there in
          let m : NodeLine = w.0 in
          let of_x = listed_as f n.node (tune_in s air f n.node) x is in
          let of_y = listed_as f m.node (tune_in s air f m.node) y w.2 in
          let up = pairs_head IsBelow n ns ascend m w.1 in
          let frame_x = of_x.frame in
          let frame_y = of_y.frame in
          let node_x = of_x.node in
          let node_y = of_y.node in
          record { frame = omega (arith, frame_x, frame_y); node = λ same. omega (arith, node_x, node_y, up) }) ordered

  ordered_before : (ascend : AllPairs IsBelow s.nodes) (k : ℕ) → AllPairs IsEarlier (idle_before s (scenario_clock s) air k)
  ordered_before ascend zero = none_pairs
  ordered_before ascend (suc k) =
      subst (λ (n : ℕ). AllPairs IsEarlier (idle_before s (scenario_clock s) air n)) (add-one k)
      (subst (AllPairs IsEarlier) (sym (frames_more (idle_in s (scenario_clock s) air) k))
      (pairs_append IsEarlier (idle_before s (scenario_clock s) air k) (idle_in s (scenario_clock s) air k) (ordered_before ascend k)
      (frame_ordered k s.nodes ascend) across))
    where
      across : (x y : Idle) → Contains (idle_before s (scenario_clock s) air k) x → Contains (idle_in s (scenario_clock s) air k) y → IsEarlier x y
      across x y in_x in_y =
          let w = from_flat (idle_in s (scenario_clock s) air) (range_with_len 0 k) x in_x in
          let n = filter_from (idle_at s (scenario_clock s) air w.0) s.nodes x w.2 in
          let m = filter_from (idle_at s (scenario_clock s) air k) s.nodes y in_y in
          let frame_x = (listed_as w.0 n.0.node (tune_in s air w.0 n.0.node) x n.2).frame in
          let frame_y = (listed_as k m.0.node (tune_in s air k m.0.node) y m.2).frame in
          let below = range_below k w.0 w.1 in
          record { frame = omega (arith, frame_x, frame_y, below); node = λ same. absurd (omega (arith, frame_x, frame_y, below, same)) }

  pub idle_ordered : IsSoundScenario s → AllPairs IsEarlier (idle_of s air)
  idle_ordered sound = ordered_before sound.ascending s.frames
