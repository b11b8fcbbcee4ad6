-- Where nodes are idle, as a run lists it: those are listed that probe.
use Rattle.std.proofs.Common.{◌≡◌, ℕ, ◌<◌, List, Bool, true, false, ◌&&◌, ◌==◌, nat_lt, if◌then◌else◌, Option, Some, None}
use Rattle.std.proofs.Common.{refl, sym, ◌∙◌, ap, subst, arith}
use Rattle.std.specs.Prelude.{◌%◌, Contains}
use Rattle.std.specs.List.{range_with_len}
use Rattle.std.specs.Option.{option_map}
use Rattle.std.proofs.lemmas.Bool.{and_parts, eq-eqb, eqb-true}
use Rattle.std.proofs.lemmas.List.FromFn.{length-range_with_len, get_or-range_with_len}
use Rattle.lwb_base.proofs.Elements.{any_of, some_of, filter_from, in_filter, in_flat, from_flat}
use Rattle.bus_rules.specs.declared.tune.Tune.{Tune}
use Rattle.bus_rules.specs.declared.tune.Tune.TheVariants.{Scan, Hold, Host}
use Rattle.scenario_text.specs.FloodParts.{knows}
use Rattle.scenario_text.specs.ScenarioParts.{ScenarioParts}
use Rattle.scenario_text.specs.declared.lines.NodeLine.{NodeLine}
use Rattle.scenario_clocks.specs.StatedClocks.{scenario_clock}
use Rattle.air_log.specs.declared.entry.Entry.{Entry}
use Rattle.air_log.specs.Lawful.{heard_by}
use Rattle.air_log.specs.Trails.{tune_at}
use Rattle.air_log.specs.Idling.{idle_node, idle_as, idle_at, idle_in}
use Rattle.air_log.specs.declared.idle.Idle.{Idle}
use Rattle.host_return.specs.Probes.{probed_with, probed_rank, probed_from, idle_of, IsIdleIn}

module _ (f v : ℕ) where
  -- what is listed of node v with this tune
  pub record IsListedAs (tune : Option Tune) (i : Idle) : Type 0 where
    pub frame : i.frame ≡ f
    pub node : i.node ≡ v
    pub probes : probed_with f tune ≡ probed_from f i.rank

  pub listed_as : (tune : Option Tune) (i : Idle) → idle_as f v tune ≡ Some i → IsListedAs tune i
  listed_as None i is = absurd (cc)
  listed_as (Some (Scan r waited)) i is = absurd (cc)
  listed_as (Some (Hold r due)) i is = absurd (cc)
  listed_as (Some (Host r due)) i is = by_test (nat_lt 0 r && nat_lt f due) refl is
    where
      probed : Bool → Option ℕ
      probed b = if b then Some (f % r) else None

      hosted : Bool → Option ℕ
      hosted b = if b then Some r else None

      by_test : (b : Bool) → (nat_lt 0 r && nat_lt f due) ≡ b → option_map (idle_node f v) (hosted b) ≡ Some i → IsListedAs (Some (Host r due)) i
      by_test true both made =
          let same : idle_node f v r ≡ i = cc in
          subst (IsListedAs (Some (Host r due))) same (record {
            frame = refl;
            node = refl;
            probes = ap probed both ∙ sym (ap probed (and_parts (nat_lt 0 r) (nat_lt f due) both).0);
          })
      by_test false neither made = absurd (cc)

  pub listed_where : (tune : Option Tune) (q : ℕ) → probed_with f tune ≡ Some q → (i : Idle) × (idle_as f v tune ≡ Some i)
  listed_where None q is = absurd (cc)
  listed_where (Some (Scan r waited)) q is = absurd (cc)
  listed_where (Some (Hold r due)) q is = absurd (cc)
  listed_where (Some (Host r due)) q is = by_test (nat_lt 0 r && nat_lt f due) refl is
    where
      probed : Bool → Option ℕ
      probed b = if b then Some (f % r) else None

      hosted : Bool → Option ℕ
      hosted b = if b then Some r else None

      by_test : (b : Bool) → (nat_lt 0 r && nat_lt f due) ≡ b → probed b ≡ Some q
          → (i : Idle) × (option_map (idle_node f v) (hosted (nat_lt 0 r && nat_lt f due)) ≡ Some i)
      by_test true both some = (idle_node f v r, ap (λ (b : Bool). option_map (idle_node f v) (hosted b)) both)
      by_test false neither none = absurd (cc)

-- the frames of a run
range_has : (n f : ℕ) → f < n → Contains (range_with_len 0 n) f
range_has n f less = (f, omega (arith, less, length-range_with_len 0 n), get_or-range_with_len 0 n f f less ∙ omega arith)

pub range_below : (n f : ℕ) → Contains (range_with_len 0 n) f → f < n
range_below n f (k, below, at) =
    let long = length-range_with_len 0 n in
    let less : k < n = omega (arith, below, long) in
    let is = get_or-range_with_len 0 n k f less in
    omega (arith, less, is, at)

module _ (s : ScenarioParts) (air : List Entry) where
  abbrev pub tune_in : ℕ → ℕ → Option Tune
  tune_in f v = tune_at s v (scenario_clock s v) (heard_by air v) f

  pub idle_in_run : (i : Idle) → Contains (idle_of s air) i → IsIdleIn s air i
  idle_in_run i there =
      let w = from_flat (idle_in s (scenario_clock s) air) (range_with_len 0 s.frames) i there in
      let f = w.0 in
      let m = filter_from (idle_at s (scenario_clock s) air f) s.nodes i w.2 in
      let n : NodeLine = m.0 in
      let is = listed_as f n.node (tune_in f n.node) i m.2 in
      record {
        known = any_of (λ (l : NodeLine). l.node == i.node) s.nodes n m.1 (eq-eqb n.node i.node (sym is.node));
        probes = subst (λ (k : ℕ). probed_rank s air k i.node ≡ probed_from k i.rank) (sym is.frame)
            (subst (λ (v : ℕ). probed_rank s air f v ≡ probed_from f i.rank) (sym is.node) is.probes);
      }

  -- a node that probes in a frame
  pub record IsListed (f v : ℕ) : Type 0 where
    pub idle : Idle
    pub there : Contains (idle_of s air) idle
    pub frame : idle.frame ≡ f
    pub node : idle.node ≡ v

  pub idle_listed : (f v q : ℕ) → knows s.nodes v ≡ true → f < s.frames → probed_rank s air f v ≡ Some q → IsListed f v
  idle_listed f v q known less probes =
      let w = some_of (λ (l : NodeLine). l.node == v) s.nodes known in
      let n : NodeLine = w.0 in
      let same : n.node ≡ v = eqb-true n.node v w.2 in
      let own : probed_rank s air f n.node ≡ Some q = subst (λ (u : ℕ). probed_rank s air f u ≡ Some q) (sym same) probes in
      let made = listed_where f n.node (tune_in f n.node) q own in
      let is = listed_as f n.node (tune_in f n.node) made.0 made.1 in
      record {
        idle = made.0;
        there = in_flat (idle_in s (scenario_clock s) air) (range_with_len 0 s.frames) f made.0 (range_has s.frames f less)
            (in_filter (idle_at s (scenario_clock s) air f) s.nodes n made.0 w.1 made.1);
        frame = is.frame;
        node = is.node ∙ same;
      }
