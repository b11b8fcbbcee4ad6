-- What is found of the nodes that join is so.
use Rattle.std.proofs.Common.{◌≡◌, ◌≢◌, ℕ, ◌+◌, List, [], ◌∷◌, filter, Bool, true, false, not, ◌||◌, ◌==◌, flat_map, map, take}
use Rattle.std.proofs.Common.{Some, None, Option, inl, inr, refl, sym, ◌∙◌, ap, subst, arith}
use Rattle.std.specs.Prelude.{All}
use Rattle.std.specs.List.{AllByRecursion, range_with_len}
use Rattle.std.proofs.lemmas.Bool.{cases_lt, eq-eqb, false≢true, or_left, or_right}
use Rattle.std.proofs.lemmas.List.Elements.{All-append, All-cons, All-nil, recursion_from_All}
use Rattle.lwb_base.specs.declared.limits.TheConstants.{GREATEST_GAP, QUIET_FRAMES}
use Rattle.scenario_text.specs.FloodParts.{knows}
use Rattle.scenario_text.specs.ScenarioGrammar.{IsScenario}
use Rattle.scenario_text.specs.ScenarioParts.{ScenarioParts}
use Rattle.scenario_text.specs.declared.lines.NodeLine.{NodeLine}
use Rattle.scenario_text.proofs.SoundOver.{over_own_lines, over_sound}
use Rattle.bus_rules.specs.Cores.{own_rank}
use Rattle.bus_terms.specs.FloodOfText.{ids}
use Rattle.bus_terms.specs.Flooding.{has}
use Rattle.bus_terms.proofs.HostsOfRanks.{one_of_rank}
use Rattle.drawn_bus.specs.DrawnScenarios.{drawn_scenario}
use Rattle.drawn_links.specs.declared.ratio_line.RatioLine.{RatioLine}
use Rattle.law_times.specs.ScriptedPower.{BootsIn, StaysOn}
use Rattle.bus_bounds.specs.BoundFindings.{against_verdict, first_off}
use Rattle.bus_bounds.specs.JoinFindings.{JOIN_FRAMES, boots_by, boots_of, is_reached, join_finding, join_findings, joins_to, nodes_up}
use Rattle.bus_bounds.specs.JoinFindings.{join_verdict, of_node, others, round_verdict}
use Rattle.bus_bounds.specs.KeptBounds.{AreKeptBy, Fails, IsKept, IsKeptBy, IsOpen, IsOpenBy}
use Rattle.bus_bounds.specs.KeptJoins.{AreUp, JoinFails}
use Rattle.bus_bounds.specs.PowerLines.{boots_in, power_lines}
use Rattle.bus_bounds.specs.declared.finding.Bound.TheVariants.{Joined, Scanning}
use Rattle.bus_bounds.specs.declared.finding.Finding.{Finding}
use Rattle.bus_bounds.specs.declared.finding.Reason.{Reason}
use Rattle.bus_bounds.specs.declared.finding.Reason.TheVariants.{Loss, Power, Ratio, Reach, Rounds}
use Rattle.bus_bounds.specs.declared.power_line.PowerLine.{PowerLine}
use Rattle.bus_bounds.proofs.FirstsKept.{none_past}
use Rattle.bus_bounds.proofs.JoinVerdicts.{by_power, by_round}
use Rattle.bus_bounds.proofs.JoinedNodes.{AreLaws, boot_by, far, goes_off, is_member, scans_few, up_there}
use Rattle.bus_bounds.proofs.PowerSaid.{boots_back}
use Rattle.bus_bounds.proofs.QuietFrames.{no_loss, no_ratio, some_loss, some_ratio}
use Rattle.bus_bounds.proofs.Searches.{each_kept, each_or_one, first_rank, none_in_range, none_mapped}
use Rattle.bus_bounds.proofs.WalksAlong.{of_kept}

-- in each piece, and of each element
all_pieces : {A : Type 0} (P : Finding → Type 0) (g : A → List Finding) (xs : List A) → AllByRecursion (λ x. All P (g x)) xs → All P (flat_map g xs)
all_pieces P g [] all = All-nil P
all_pieces P g (x ∷ xs) all = All-append P (g x) (flat_map g xs) all.0 (all_pieces P g xs all.1)

each_of : (P : ℕ → Type 0) (xs : List ℕ) → ((v : ℕ) → has xs v ≡ true → P v) → AllByRecursion P xs
each_of P [] gives = tt
each_of P (x ∷ xs) gives =
    (gives x (or_left (x == x) (has xs x) (eq-eqb x x refl)), each_of P xs (λ v there. gives v (or_right (x == v) (has xs v) there)))

pub known_ids : (ns : List NodeLine) (v : ℕ) → knows ns v ≡ true → has (ids ns) v ≡ true
known_ids [] v is = is
known_ids (n ∷ ns) v is = by (n.node == v) is (known_ids ns v)
  where
    by : (b : Bool) → (b || knows ns v) ≡ true → (knows ns v ≡ true → has (ids ns) v ≡ true) → (b || has (ids ns) v) ≡ true
    by true is rest = refl
    by false is rest = rest is

module _ (s : ScenarioParts) (said : IsScenario s) (ratios : List RatioLine) (host : ℕ) (own : own_rank host s.hosts ≡ Some 0)
    (known : has (ids s.nodes) host ≡ true) where
  abbrev ls : List PowerLine
  ls = power_lines s.script

  -- of both bounds what holds of one of them
  both : (P : Finding → Type 0) (b : Option ℕ) (v : ℕ) → P (join_finding s ratios host Joined JOIN_FRAMES v b)
      → P (join_finding s ratios host Scanning GREATEST_GAP v b) → All P (of_node s ratios host b v)
  both P b v joined scanning =
      All-cons P (join_finding s ratios host Joined JOIN_FRAMES v b) (join_finding s ratios host Scanning GREATEST_GAP v b ∷ []) joined
      (All-cons P (join_finding s ratios host Scanning GREATEST_GAP v b) [] scanning (All-nil P))

  -- each node but the host, after each boot or where there is none
  each_node : (P : Finding → Type 0)
      → ((b v : ℕ) → boots_in ls host b ≡ true → has (ids s.nodes) v ≡ true → v ≢ host → All P (of_node s ratios host (Some b) v))
      → (((b : ℕ) → BootsIn s b host → ⊥) → (v : ℕ) → All P (of_node s ratios host None v)) → All P (joins_to s ratios host)
  each_node P after never =
      all_pieces P (λ b. flat_map (of_node s ratios host b) (others s host)) (boots_of s host)
      (recursion_from_All (λ b. All P (flat_map (of_node s ratios host b) (others s host))) (boots_of s host)
      (each_or_one (λ b. All P (flat_map (of_node s ratios host b) (others s host))) None (map Some frames) (λ none. at_none (none_booted none))
      (each_kept (λ b. All P (flat_map (of_node s ratios host b) (others s host))) (boots_in ls host) Some (range_with_len 0 s.frames) at_boot)))
    where
      frames : List ℕ
      frames = filter (boots_in ls host) (range_with_len 0 s.frames)

      none_booted : map Some frames ≡ [] → (b : ℕ) → BootsIn s b host → ⊥
      none_booted none b boots =
          let nobody = none_mapped Some frames none in
          elim (cases_lt b s.frames) [
            | inl within ↦ boots_back s (over_sound s (over_own_lines s said)).script_ascends b host
                (none_in_range (boots_in ls host) 0 s.frames nobody b (omega arith) (omega (arith, within))) boots
            | inr past ↦ none_past s (over_own_lines s said) host b past boots
          ]

      at_none : ((b : ℕ) → BootsIn s b host → ⊥) → All P (flat_map (of_node s ratios host None) (others s host))
      at_none nobody =
          all_pieces P (of_node s ratios host None) (others s host)
          (each_of (λ v. All P (of_node s ratios host None v)) (others s host) (λ v there. never nobody v))

      at_boot : (b : ℕ) → boots_in ls host b ≡ true → All P (flat_map (of_node s ratios host (Some b)) (others s host))
      at_boot b boots =
          all_pieces P (of_node s ratios host (Some b)) (others s host)
          (each_of (λ v. All P (of_node s ratios host (Some b) v)) (others s host)
          (λ v there. at_node v (of_kept (λ w. not (w == host)) (ids s.nodes) v there)))
        where
          at_node : (v : ℕ) → (has (ids s.nodes) v ≡ true) × (not (v == host) ≡ true) → All P (of_node s ratios host (Some b) v)
          at_node v is =
              after b v boots is.0 (λ same. false≢true (ap not (sym (eq-eqb v host same)) ∙ is.1))

  -- what holds
  module _ (laws : AreLaws) (seed : ℕ) where
    abbrev d : ScenarioParts
    d = drawn_scenario s ratios seed

    stands : (x : Finding) (o : Option PowerLine) → IsKeptBy d x (against_verdict o)
    stands x None = tt
    stands x (Some l) = tt

    pub joins_kept : All (IsKept d) (joins_to s ratios host)
    joins_kept = each_node (IsKept d) at_boot (λ nobody v. both (IsKept d) None v tt tt)
      where
        at_boot : (b v : ℕ) → boots_in ls host b ≡ true → has (ids s.nodes) v ≡ true → v ≢ host → All (IsKept d) (of_node s ratios host (Some b) v)
        at_boot b v boots there other = both (IsKept d) (Some b) v joined scanning
          where
            joined : IsKept d (join_finding s ratios host Joined JOIN_FRAMES v (Some b))
            joined = by_power ls s.frames host b v (IsKeptBy d (join_finding s ratios host Joined JOIN_FRAMES v (Some b)))
                (round_verdict s ratios host b JOIN_FRAMES v)
                (λ l off. tt) (λ l off. tt) (λ never o. stands (join_finding s ratios host Joined JOIN_FRAMES v (Some b)) o) (λ late. tt)
                (λ led up. by_round s ratios host b (IsKeptBy d (join_finding s ratios host Joined JOIN_FRAMES v (Some b))) JOIN_FRAMES v
                (λ l lost. tt) (λ l rated. tt)
                (λ quiet certain reached. is_member s said ratios host known b own boots led seed laws (no_loss s (b + QUIET_FRAMES) quiet)
                (no_ratio s ratios (b + QUIET_FRAMES) certain) v (up_there s said ratios host known b v there up) reached)
                (λ far_off. tt))

            scanning : IsKept d (join_finding s ratios host Scanning GREATEST_GAP v (Some b))
            scanning = by_power ls s.frames host b v (IsKeptBy d (join_finding s ratios host Scanning GREATEST_GAP v (Some b)))
                (round_verdict s ratios host b GREATEST_GAP v)
                (λ l off. tt) (λ l off. tt) (λ never o. stands (join_finding s ratios host Scanning GREATEST_GAP v (Some b)) o) (λ late. tt)
                (λ led up. by_round s ratios host b (IsKeptBy d (join_finding s ratios host Scanning GREATEST_GAP v (Some b))) GREATEST_GAP v
                (λ l lost. tt) (λ l rated. tt)
                (λ quiet certain reached. scans_few s said ratios host known b own boots led seed laws (no_loss s (b + QUIET_FRAMES) quiet)
                (no_ratio s ratios (b + QUIET_FRAMES) certain) v other (up_there s said ratios host known b v there up) reached)
                (λ far_off. tt))

  -- what is open
  module _ (b v : ℕ) (other : v ≢ host) where
    same_host : (h : ℕ) → own_rank h s.hosts ≡ Some 0 → h ≡ host
    same_host h first = one_of_rank s.hosts h host 0 first own

    host_off : (l : PowerLine) → first_off ls host b (b + JOIN_FRAMES) ≡ Some l → JoinFails s ratios v (Some b) Power
    host_off l off h begins up = goes_off s host b (b + JOIN_FRAMES) l off (subst (StaysOn s b (b + JOIN_FRAMES)) (same_host h begins.first) begins.stays)

    own_off : (l : PowerLine) → first_off ls v b (b + JOIN_FRAMES) ≡ Some l → JoinFails s ratios v (Some b) Power
    own_off l off h begins up = goes_off s v b (b + JOIN_FRAMES) l off up.stays

    not_up : boots_by ls b v ≡ false → JoinFails s ratios v (Some b) Power
    not_up never h begins up = false≢true (sym never ∙ boot_by s v (over_own_lines s said) b up.by)

    too_far : is_reached s (nodes_up ls (ids s.nodes) host b) host v ≡ false → JoinFails s ratios v (Some b) Reach
    too_far none h among first up there =
        far s said ratios host known b v other none among (subst (λ (w : ℕ). AreUp s w b among) (same_host h first) up) there

    module _ (x : Finding) (fails : (r : Reason) → JoinFails s ratios v (Some b) r → Fails s ratios x.bound x.node x.frame r) where
      stands_open : JoinFails s ratios v (Some b) Power → (o : Option PowerLine) → IsOpenBy s ratios x (against_verdict o)
      stands_open is None = fails Power is
      stands_open is (Some l) = fails Power is

      one_open : (frames : ℕ) → IsOpenBy s ratios x (join_verdict s ratios host b frames v)
      one_open frames =
          by_power ls s.frames host b v (IsOpenBy s ratios x) (round_verdict s ratios host b frames v) (λ l off. fails Power (host_off l off))
          (λ l off. fails Power (own_off l off)) (λ never o. stands_open (not_up never) o) (λ late. fails Rounds late)
          (λ led up. by_round s ratios host b (IsOpenBy s ratios x) frames v (λ l lost. fails Loss (some_loss s (b + QUIET_FRAMES) l lost))
          (λ l rated. fails Ratio (some_ratio s ratios (b + QUIET_FRAMES) l rated)) (λ quiet certain reached. tt) (λ none. fails Reach (too_far none)))

    open_here : All (IsOpen s ratios) (of_node s ratios host (Some b) v)
    open_here =
        both (IsOpen s ratios) (Some b) v (one_open (join_finding s ratios host Joined JOIN_FRAMES v (Some b)) (λ r is. is) JOIN_FRAMES)
        (one_open (join_finding s ratios host Scanning GREATEST_GAP v (Some b)) (λ r is. is) GREATEST_GAP)

  pub joins_open : All (IsOpen s ratios) (joins_to s ratios host)
  joins_open =
      each_node (IsOpen s ratios) (λ b v boots there other. open_here b v other) (λ nobody v. both (IsOpen s ratios) None v (none nobody) (none nobody))
    where
      none : ((b : ℕ) → BootsIn s b host → ⊥) → (h b : ℕ) → own_rank h s.hosts ≡ Some 0 → BootsIn s b h → ⊥
      none nobody h b first boots = nobody b (subst (BootsIn s b) (one_of_rank s.hosts h host 0 first own) boots)

-- the host of rank 0 is the first one, and is a node of the scenario
module _ (s : ScenarioParts) (said : IsScenario s) (ratios : List RatioLine) where
  pub of_first : (P : Finding → Type 0) → ((host : ℕ) → own_rank host s.hosts ≡ Some 0 → has (ids s.nodes) host ≡ true → All P (joins_to s ratios host))
      → (hosts : List ℕ) → s.hosts ≡ hosts → All P (flat_map (joins_to s ratios) (take 1 hosts))
  of_first P gives [] at = All-nil P
  of_first P gives (h ∷ rest) at =
      let hosts = recursion_from_All (λ (w : ℕ). knows s.nodes w ≡ true) (h ∷ rest)
      (subst (All (λ (w : ℕ). knows s.nodes w ≡ true)) at (over_sound s (over_own_lines s said)).hosts_known) in
      All-append P (joins_to s ratios h) [] (gives h (ap (own_rank h) at ∙ first_rank h rest) (known_ids s.nodes h hosts.0)) (All-nil P)

  pub all_joins_kept : AreLaws → AreKeptBy s ratios (join_findings s ratios)
  all_joins_kept laws seed =
      of_first (IsKept (drawn_scenario s ratios seed)) (λ host own known. joins_kept s said ratios host own known laws seed) s.hosts refl

  pub all_joins_open : All (IsOpen s ratios) (join_findings s ratios)
  all_joins_open = of_first (IsOpen s ratios) (λ host own known. joins_open s said ratios host own known) s.hosts refl
