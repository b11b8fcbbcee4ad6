-- The nodes that are up and within reach of the host are a group that joins its first round.
use Rattle.std.proofs.Common.{◌≡◌, ◌≢◌, ℕ, ◌+◌, ◌<◌, ◌≤◌, List, filter, Bool, true, false, not, ◌&&◌, ◌||◌, ◌==◌, nat_lt, nat_le, is_none}
use Rattle.std.proofs.Common.{Some, None, Option, inl, inr, refl, sym, ◌∙◌, ap, subst, arith}
use Rattle.std.specs.Prelude.{◌⊎◌, find}
use Rattle.std.specs.List.{range_with_len}
use Rattle.std.proofs.lemmas.Bool.{and_from, and_parts, cases_eq, eq-eqb, eqb-true, false≢true, le-leb, leb-true, lt-ltb, ltb-true, or_cases, or_left, or_right}
use Rattle.lwb_base.specs.declared.limits.TheConstants.{GREATEST_GAP, QUIET_FRAMES}
use Rattle.scenario_text.specs.OverLines.{IsOverScenario}
use Rattle.scenario_text.specs.ScenarioGrammar.{IsScenario}
use Rattle.scenario_text.specs.ScenarioParts.{ScenarioParts}
use Rattle.scenario_text.proofs.SoundOver.{over_own_lines, over_sound}
use Rattle.bus_rules.specs.Cores.{own_rank}
use Rattle.bus_terms.specs.FloodOfText.{ids}
use Rattle.bus_terms.specs.Flooding.{STEPS, has}
use Rattle.bus_terms.proofs.OneInitiator.{any_of, witness}
use Rattle.drawn_bus.specs.DrawnScenarios.{drawn_scenario}
use Rattle.drawn_links.specs.declared.ratio_line.RatioLine.{RatioLine}
use Rattle.law_service.specs.Reach.{is_linked}
use Rattle.law_times.specs.FirstRounds.{Begins, IsUpBy, MembersStay, NodesJoin}
use Rattle.law_times.specs.Losses.{LossesCostFew}
use Rattle.law_times.specs.Reaches.{IsGroup, IsLossless, IsReached}
use Rattle.law_times.specs.ScriptedPower.{StaysOn}
use Rattle.law_times.specs.Tunes.{AreMembers}
use Rattle.bus_bounds.specs.BoundFindings.{first_off}
use Rattle.bus_bounds.specs.JoinFindings.{JOIN_FRAMES, boots_by, is_reached, is_up, nodes_up}
use Rattle.bus_bounds.specs.KeptJoins.{AreUp, IsCertain, IsMemberFrom, IsUp, ScansFew}
use Rattle.bus_bounds.specs.PowerLines.{boots_in, is_within, power_lines}
use Rattle.bus_bounds.specs.declared.power_line.PowerLine.{PowerLine}
use Rattle.bus_bounds.proofs.PowerSaid.{boots_back, boots_is, has_off}
use Rattle.bus_bounds.proofs.QuietFrames.{drawn_quiet}
use Rattle.bus_bounds.proofs.Searches.{found_passes, none_found, none_weaker, passes_somewhere}
use Rattle.bus_bounds.proofs.WalksAlong.{a_walk, by_walk, in_kept, in_range, more_nodes, no_link, of_kept, range_has, stays_within}

-- the laws that are used
pub record AreLaws : Type 0 where
  pub join : NodesJoin
  pub stay : MembersStay
  pub few : LossesCostFew GREATEST_GAP

-- by its lines: no off line in some frames, nor in fewer
module _ (d : ScenarioParts) (v : ℕ) where
  abbrev goes : ℕ → ℕ → PowerLine → Bool
  goes b e l = (l.node == v) && not l.on && is_within b e l

  pub stays_in : (b e c g : ℕ) → b ≤ c → g ≤ e → first_off (power_lines d.script) v b e ≡ None → StaysOn d c g v
  stays_in b e c g later earlier none =
      has_off d c g v ∙ none_weaker (goes b e) (goes c g) wider (power_lines d.script) (none_found (goes b e) (power_lines d.script) none)
    where
      wider : (l : PowerLine) → goes c g l ≡ true → goes b e l ≡ true
      wider l is =
          let parts = and_parts ((l.node == v) && not l.on) (is_within c g l) is in
          let ends = and_parts (nat_lt c l.frame) (nat_le l.frame g) parts.1 in
          let low = ltb-true c l.frame ends.0 in
          let high = leb-true l.frame g ends.1 in
          and_from ((l.node == v) && not l.on) (is_within b e l) parts.0
          (and_from (nat_lt b l.frame) (nat_le l.frame e) (lt-ltb b l.frame (omega (arith, low, later))) (le-leb l.frame e (omega (arith, high, earlier))))

  pub goes_off : (b e : ℕ) (l : PowerLine) → first_off (power_lines d.script) v b e ≡ Some l → StaysOn d b e v → ⊥
  goes_off b e l found stays =
      let ls = power_lines d.script in
      false≢true (sym stays ∙ has_off d b e v ∙ passes_somewhere (goes b e) (goes b e) ls l found (found_passes (goes b e) ls l found))

  pub none_off : (b e : ℕ) → StaysOn d b e v → is_none (first_off (power_lines d.script) v b e) ≡ true
  none_off b e stays = by (find (goes b e) (power_lines d.script)) refl
    where
      by : (o : Option PowerLine) → find (goes b e) (power_lines d.script) ≡ o → is_none o ≡ true
      by None is = refl
      by (Some l) is = absurd (goes_off b e l is stays)

  -- whether it boots by the first round
  pub boot_by : (is : IsOverScenario d) (b : ℕ) → IsUpBy d b (b + QUIET_FRAMES) v → boots_by (power_lines d.script) b v ≡ true
  boot_by is b up =
      let ls = power_lines d.script in
      any_of (boots_in ls v) (range_with_len b (QUIET_FRAMES + 1)) up.frame
      (range_has b (QUIET_FRAMES + 1) up.frame up.range.0 (let last = up.range.1 in omega (arith, last))) (by (boots_in ls v up.frame) refl)
    where
      by : (t : Bool) → boots_in (power_lines d.script) v up.frame ≡ t → boots_in (power_lines d.script) v up.frame ≡ true
      by true boots = boots
      by false never = absurd (boots_back d (over_sound d is).script_ascends up.frame v never up.boots)

  pub up_is : (is : IsOverScenario d) (b : ℕ) → IsUp d b v → is_up (power_lines d.script) b v ≡ true
  up_is is b up =
      let ls = power_lines d.script in
      and_from (is_none (first_off ls v b (b + JOIN_FRAMES))) (boots_by ls b v) (none_off b (b + JOIN_FRAMES) up.stays) (boot_by is b up.by)

  none_of : (o : Option PowerLine) → is_none o ≡ true → o ≡ None
  none_of None is = refl
  none_of (Some l) is = absurd (false≢true is)

  pub up_off : (b : ℕ) → is_up (power_lines d.script) b v ≡ true → first_off (power_lines d.script) v b (b + JOIN_FRAMES) ≡ None
  up_off b up =
      let ls = power_lines d.script in
      none_of (first_off ls v b (b + JOIN_FRAMES)) (and_parts (is_none (first_off ls v b (b + JOIN_FRAMES))) (boots_by ls b v) up).0

  pub up_by : (is : IsOverScenario d) (b : ℕ) → is_up (power_lines d.script) b v ≡ true → IsUpBy d b (b + QUIET_FRAMES) v
  up_by is b up =
      let ls = power_lines d.script in
      let boots = (and_parts (is_none (first_off ls v b (b + JOIN_FRAMES))) (boots_by ls b v) up).1 in
      let w = witness (boots_in ls v) (range_with_len b (QUIET_FRAMES + 1)) boots in
      let r = in_range b (QUIET_FRAMES + 1) w.0 w.1 in
      record {
        frame = w.0;
        range = (r.0, omega (arith, r.1));
        boots = boots_is d (over_sound d is).script_ascends w.0 v w.2;
        stays = stays_in b (b + JOIN_FRAMES) w.0 (b + QUIET_FRAMES) r.0 (omega arith) (up_off b up);
      }

-- the host and the nodes that are up, and those of them that are within reach
module _ (s : ScenarioParts) (said : IsScenario s) (ratios : List RatioLine) (host : ℕ) (known : has (ids s.nodes) host ≡ true) (b : ℕ) where
  abbrev ls : List PowerLine
  ls = power_lines s.script

  abbrev may : ℕ → Bool
  may v = (v == host) || is_up ls b v

  abbrev nodes : List ℕ
  nodes = nodes_up ls (ids s.nodes) host b

  abbrev among : List ℕ
  among = filter (is_reached s nodes host) nodes

  pub host_there : has nodes host ≡ true
  host_there = in_kept may (ids s.nodes) host known (or_left (host == host) (is_up ls b host) (eq-eqb host host refl))

  pub in_group : (v : ℕ) → has nodes v ≡ true → is_reached s nodes host v ≡ true → has among v ≡ true
  in_group v there reached = in_kept (is_reached s nodes host) nodes v there reached

  pub up_there : (v : ℕ) → has (ids s.nodes) v ≡ true → is_up ls b v ≡ true → has nodes v ≡ true
  up_there v there up = in_kept may (ids s.nodes) v there (or_right (v == host) (is_up ls b v) up)

  -- nodes that are up along which walks lead to v lead there along all that are
  pub far : (v : ℕ) → v ≢ host → is_reached s nodes host v ≡ false → (others : List ℕ) → AreUp s host b others → has others v ≡ true → ⊥
  far v other none others up there =
      let way = up.group.reached v there other in
      false≢true (sym none ∙ by_walk (is_linked s) host nodes STEPS way.links v way.few (more_nodes (is_linked s) host others nodes are way.links v way.walk))
    where
      are : (u : ℕ) → has others u ≡ true → has nodes u ≡ true
      are u in_others = in_kept may (ids s.nodes) u (up.group.known u in_others) (by (cases_eq u host))
        where
          by : (u ≡ host) ⊎ (u ≢ host) → may u ≡ true
          by (inl same) = or_left (u == host) (is_up ls b u) (eq-eqb u host same)
          by (inr differs) = or_right (u == host) (is_up ls b u) (up_is s u (over_own_lines s said) b (up.up u in_others differs))

  module _ (own : own_rank host s.hosts ≡ Some 0) (boots : boots_in ls host b ≡ true) (led : first_off ls host b (b + JOIN_FRAMES) ≡ None) (seed : ℕ) where
    abbrev d : ScenarioParts
    d = drawn_scenario s ratios seed

    over : IsOverScenario d
    over = (s.trace, said)

    abbrev last : ℕ
    last = b + JOIN_FRAMES

    -- who is in the group is known and may be in it
    parts : (v : ℕ) → has among v ≡ true → (has (ids s.nodes) v ≡ true) × (may v ≡ true)
    parts v there = of_kept may (ids s.nodes) v (of_kept (is_reached s nodes host) nodes v there).0

    off : (v : ℕ) → has among v ≡ true → first_off ls v b last ≡ None
    off v there = elim (or_cases (v == host) (is_up ls b v) (parts v there).1) [
      | inl same ↦ ap (λ (w : ℕ). first_off ls w b last) (eqb-true v host same) ∙ led
      | inr up ↦ up_off d v b up
    ]

    is_group : IsGroup d host (b + QUIET_FRAMES) last among
    is_group = record {
      led = in_group host host_there (by_walk (is_linked s) host nodes STEPS 0 host (omega arith)
          (no_link (is_linked s) host nodes host ∙ eq-eqb host host refl));
      known = λ v there. (parts v there).0;
      stay = λ v there. stays_in d v b last (b + QUIET_FRAMES) last (omega arith) (omega arith) (off v there);
      reached = λ v there other. way v (of_kept (is_reached s nodes host) nodes v there).1;
    }
      where
        way : (v : ℕ) → is_reached s nodes host v ≡ true → IsReached d among host v
        way v reached =
            let w = a_walk (is_linked s) host nodes STEPS v reached in
            record {
              links = w.0;
              few = w.1;
              walk = stays_within (is_linked s) host nodes among STEPS (λ u there near. in_group u there near) w.0 v w.1 w.2;
            }

    begins : Begins d host b last
    begins = record {
      first = own;
      boots = boots_is d (over_sound d over).script_ascends b host boots;
      stays = stays_in d host b last b last (omega arith) (omega arith) led;
    }

    by_first : (v : ℕ) → has among v ≡ true → v ≢ host → IsUpBy d b (b + QUIET_FRAMES) v
    by_first v there other = elim (or_cases (v == host) (is_up ls b v) (parts v there).1) [
      | inl same ↦ absurd (other (eqb-true v host same))
      | inr up ↦ up_by d v over b up
    ]

    module _ (laws : AreLaws) (quiet : IsLossless s (b + QUIET_FRAMES)) (certain : IsCertain s ratios (b + QUIET_FRAMES)) where
      in_frame : (f : ℕ) → b + QUIET_FRAMES ≤ f → f < last → IsLossless d f
      in_frame f low high =
          let same : b + QUIET_FRAMES ≡ f = omega (arith, low, high) in
          subst (IsLossless d) same (drawn_quiet s ratios (b + QUIET_FRAMES) certain seed quiet)

      members : AreMembers d 0 last host among
      members = laws.join d over host b last begins among is_group by_first last (omega arith) (omega arith) in_frame

      pub is_member : (v : ℕ) → has nodes v ≡ true → is_reached s nodes host v ≡ true → IsMemberFrom d last v
      is_member v there reached = record {
        host = host;
        own = own;
        among = among;
        there = in_group v there reached;
        members = members;
        stay = λ g e low high group lossless. laws.stay d over 0 host last e among group members g low high lossless;
      }

      pub scans_few : (v : ℕ) → v ≢ host → has nodes v ≡ true → is_reached s nodes host v ≡ true → ScansFew d last v
      scans_few v other there reached = record {
        host = host;
        own = own;
        among = among;
        there = in_group v there reached;
        few = λ n e group early rows. (laws.few d over 0 host last e among group members n early rows).few v (in_group v there reached) other;
      }
