-- What is found of the hosts that are the last ones on is so.
use Rattle.std.proofs.Common.{◌≡◌, ℕ, ◌+◌, List, Bool, true, not, ◌&&◌, ◌==◌}
use Rattle.std.proofs.Common.{Some, None, Option, inl, inr, length, refl, sym, ◌∙◌, ap, arith}
use Rattle.std.specs.Prelude.{find, reverse}
use Rattle.std.proofs.lemmas.Bool.{and_from, and_parts, cases_eq, eq-eqb, eqb-true, false≢true, ne_eqb, not-false, not-true}
use Rattle.scenario_text.specs.OverLines.{IsOverScenario}
use Rattle.scenario_text.specs.ScenarioParts.{ScenarioParts}
use Rattle.scenario_text.proofs.SoundOver.{over_sound}
use Rattle.bus_rules.specs.Cores.{own_rank}
use Rattle.drawn_links.specs.declared.ratio_line.RatioLine.{RatioLine}
use Rattle.bus_terms.specs.Flooding.{has}
use Rattle.law_times.specs.Failovers.{HostsWithin, IsLastHost, failover_bound}
use Rattle.bus_bounds.specs.BoundFindings.{against_verdict, alone_verdict, failover_finding, failover_verdict, frame_of, is_other, last_off}
use Rattle.bus_bounds.specs.BoundFindings.{stands_against, turns_against}
use Rattle.bus_bounds.specs.KeptBounds.{IsKept, IsKeptBy, IsOpen, IsOpenBy}
use Rattle.bus_bounds.specs.PowerLines.{is_on_before, is_within, last_line, power_lines}
use Rattle.bus_bounds.specs.declared.finding.Bound.TheVariants.{Failover}
use Rattle.bus_bounds.specs.declared.finding.Finding.{Finding}
use Rattle.bus_bounds.specs.declared.power_line.PowerLine.{PowerLine}
use Rattle.bus_bounds.proofs.FirstsKept.{by_verdict}
use Rattle.bus_bounds.proofs.PowerSaid.{has_off, has_on, on_in}
use Rattle.bus_bounds.proofs.Searches.{any_reversed, found_passes, found_there, has_found, has_rank, none_found, none_weaker, passes_somewhere}

module _ (d : ScenarioParts) (is : IsOverScenario d) (host : ℕ) (there : has d.hosts host ≡ true) where
  abbrev ls : List PowerLine
  ls = power_lines d.script

  abbrev most : ℕ
  most = failover_bound (length d.hosts)

  abbrev counted : Option PowerLine → Finding
  counted o = record { bound = Failover; node = host; frame = frame_of o; verdict = failover_verdict ls d.hosts d.frames host o }

  abbrev turns : ℕ → PowerLine → Bool
  turns b l = turns_against d.hosts host l && is_within b (b + most) l

  -- what a host is by its test, itself and another
  own_test : (b : ℕ) → stands_against ls host b host ≡ not (is_on_before ls host (b + 1))
  own_test b = rw (eq-eqb host host refl) refl

  other_test : (b v : ℕ) → (v ≡ host → ⊥) → stands_against ls host b v ≡ is_on_before ls v (b + 1)
  other_test b v other = rw (ne_eqb v host other) refl

  own_turn : (l : PowerLine) → l.node ≡ host → turns_against d.hosts host l ≡ not l.on
  own_turn l own = rw (eq-eqb l.node host own) refl

  other_turn : (l : PowerLine) → (l.node ≡ host → ⊥) → turns_against d.hosts host l ≡ (has d.hosts l.node && l.on)
  other_turn l other = rw (ne_eqb l.node host other) refl

  -- nothing found: it alone is on
  alone : (b : ℕ) → find (stands_against ls host b) d.hosts ≡ None → find (turns b) ls ≡ None → (rank : ℕ) → own_rank host d.hosts ≡ Some rank
      → IsLastHost d rank host b (b + most)
  alone b nobody none rank own =
      let up = (over_sound d is).script_ascends in
      let no_turn = none_found (turns b) ls none in
      record {
        own = own;
        on = on_in d up b host ∙ not-false (is_on_before ls host (b + 1)) (sym (own_test b) ∙ has_found (stands_against ls host b) d.hosts host nobody there);
        stays = has_off d b (b + most) host
            ∙ none_weaker (turns b) (λ (l : PowerLine). (l.node == host) && not l.on && is_within b (b + most) l) (λ l goes.
            let parts = and_parts ((l.node == host) && not l.on) (is_within b (b + most) l) goes in
            let who = and_parts (l.node == host) (not l.on) parts.0 in
            and_from (turns_against d.hosts host l) (is_within b (b + most) l) (own_turn l (eqb-true l.node host who.0) ∙ who.1) parts.1) ls no_turn;
        others = λ h known other. record {
          off = on_in d up b h ∙ sym (other_test b h other) ∙ has_found (stands_against ls host b) d.hosts h nobody known;
          stays = has_on d b (b + most) h
              ∙ none_weaker (turns b) (λ (l : PowerLine). (l.node == h) && l.on && is_within b (b + most) l) (λ l comes.
              let parts = and_parts ((l.node == h) && l.on) (is_within b (b + most) l) comes in
              let who = and_parts (l.node == h) l.on parts.0 in
              let at = eqb-true l.node h who.0 in
              and_from (turns_against d.hosts host l) (is_within b (b + most) l)
              (other_turn l (λ same. other (sym at ∙ same)) ∙ and_from (has d.hosts l.node) l.on (ap (has d.hosts) at ∙ known) who.1) parts.1) ls no_turn;
        };
      }

  -- a host that stands against it
  against : (b v : ℕ) → find (stands_against ls host b) d.hosts ≡ Some v → (rank : ℕ) → IsLastHost d rank host b (b + most) → ⊥
  against b v found rank last =
      let up = (over_sound d is).script_ascends in
      let stands = found_passes (stands_against ls host b) d.hosts v found in
      elim (cases_eq v host) [
        | inl same ↦ false≢true (sym (not-true (is_on_before ls host (b + 1)) (sym (own_test b) ∙ ap (stands_against ls host b) (sym same) ∙ stands))
            ∙ sym (on_in d up b host) ∙ last.on)
        | inr other ↦
            (let off = last.others v (found_there (stands_against ls host b) d.hosts v found) other in
            false≢true (sym off.off ∙ on_in d up b v ∙ sym (other_test b v other) ∙ stands))
      ]

  -- a line that turns it
  turned : (b : ℕ) (l : PowerLine) → find (turns b) ls ≡ Some l → (rank : ℕ) → IsLastHost d rank host b (b + most) → ⊥
  turned b l found rank last =
      let parts = and_parts (turns_against d.hosts host l) (is_within b (b + most) l) (found_passes (turns b) ls l found) in
      elim (cases_eq l.node host) [
        | inl own ↦ false≢true (sym last.stays ∙ has_off d b (b + most) host
            ∙ passes_somewhere (turns b) (λ (m : PowerLine). (m.node == host) && not m.on && is_within b (b + most) m) ls l found
            (and_from ((l.node == host) && not l.on) (is_within b (b + most) l)
            (and_from (l.node == host) (not l.on) (eq-eqb l.node host own) (sym (own_turn l own) ∙ parts.0)) parts.1))
        | inr other ↦
            (let who = and_parts (has d.hosts l.node) l.on (sym (other_turn l other) ∙ parts.0) in
            let off = last.others l.node who.0 other in
            false≢true (sym off.stays ∙ has_on d b (b + most) l.node
            ∙ passes_somewhere (turns b) (λ (m : PowerLine). (m.node == l.node) && m.on && is_within b (b + most) m) ls l found
            (and_from ((l.node == l.node) && l.on) (is_within b (b + most) l)
            (and_from (l.node == l.node) l.on (eq-eqb l.node l.node refl) who.1) parts.1)))
      ]

  -- by whether a host stands against it
  module _ (b : ℕ) (x : Finding) where
    stands_kept : (o : Option PowerLine) → IsKeptBy d x (against_verdict o)
    stands_kept None = tt
    stands_kept (Some l) = tt

  alone_kept : HostsWithin (length d.hosts) most → (l : PowerLine) (q : Option ℕ) → find (stands_against ls host l.frame) d.hosts ≡ q
      → IsKeptBy d (counted (Some l)) (alone_verdict ls d.hosts d.frames host l.frame most q)
  alone_kept within l (Some v) found = stands_kept l.frame (counted (Some l)) (last_line ls v (l.frame + 1))
  alone_kept within l None nobody =
      let b = l.frame in
      let rank = has_rank d.hosts host there in
      by_verdict (IsKeptBy d (counted (Some l))) d.frames (find (turns b) ls) b most (λ m broken. tt)
      (λ none before. record {
        rank = rank.0;
        own = rank.1;
        hosts = within d is refl rank.0 host b (b + most) (alone b nobody none rank.0 rank.1) (b + most) (omega arith) (omega arith);
      })
      (λ none after. tt)

  stands_open : (ratios : List RatioLine) (l : PowerLine) → ((rank : ℕ) → IsLastHost d rank host l.frame (l.frame + most) → ⊥) → (o : Option PowerLine)
      → IsOpenBy d ratios (counted (Some l)) (against_verdict o)
  stands_open ratios l fails None = fails
  stands_open ratios l fails (Some m) = fails

  alone_open : (ratios : List RatioLine) (l : PowerLine) (q : Option ℕ) → find (stands_against ls host l.frame) d.hosts ≡ q
      → IsOpenBy d ratios (counted (Some l)) (alone_verdict ls d.hosts d.frames host l.frame most q)
  alone_open ratios l (Some v) found = stands_open ratios l (against l.frame v found) (last_line ls v (l.frame + 1))
  alone_open ratios l None nobody =
      by_verdict (IsOpenBy d ratios (counted (Some l))) d.frames (find (turns l.frame) ls) l.frame most
      (λ m broken. turned l.frame m broken) (λ none before. tt)
      (λ none after. after)

  -- by whether another host goes off
  off_kept : HostsWithin (length d.hosts) most → (o : Option PowerLine) → IsKept d (counted o)
  off_kept within None = tt
  off_kept within (Some l) = alone_kept within l (find (stands_against ls host l.frame) d.hosts) refl

  off_open : (ratios : List RatioLine) (o : Option PowerLine) → last_off ls d.hosts host ≡ o → IsOpen d ratios (counted o)
  off_open ratios None none =
      let goes : PowerLine → Bool = λ l. is_other d.hosts host l.node && not l.on in
      sym (any_reversed goes ls) ∙ none_found goes (reverse ls) none
  off_open ratios (Some l) some = alone_open ratios l (find (stands_against ls host l.frame) d.hosts) refl

  pub one_failover_kept : HostsWithin (length d.hosts) most → IsKept d (failover_finding ls d.hosts d.frames host)
  one_failover_kept within = off_kept within (last_off ls d.hosts host)

  pub one_failover_open : (ratios : List RatioLine) → IsOpen d ratios (failover_finding ls d.hosts d.frames host)
  one_failover_open ratios = off_open ratios (last_off ls d.hosts host) refl
