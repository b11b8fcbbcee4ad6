-- Each allowed line keeps what is true of a draft.
use Rattle.std.proofs.Common.{◌≡◌, ℕ, ◌<◌, List, [], ◌∷◌, true, false, not, ◌&&◌, ◌==◌, nat_le}
use Rattle.std.proofs.Common.{Option, Some, None, is_none, length, refl, sym, ◌∙◌, subst, arith, inr}
use Rattle.std.proofs.lemmas.Bool.{and_parts, and_right, or_parts, leb-true, not-true, eqb-true, false≢true}
use Rattle.std.proofs.lemmas.List.{length_push}
use Rattle.std.specs.List.{AllByRecursion, list_any}
use Rattle.lwb_base.specs.declared.limits.TheConstants.{MOST_FRAMES}
use Rattle.lwb_base.specs.Profile.{contended}
use Rattle.lwb_base.proofs.Lists.{each_append}
use Rattle.link_trace.specs.Order.{by_loss, by_cut, by_capture}
use Rattle.link_trace.specs.Passes.{is_loss, is_cut, is_capture}
use Rattle.scenario_text.specs.FloodParts.{knows}
use Rattle.scenario_text.specs.Network.{is_id, with_loss_at, with_cut_at, with_capture_at, has_script_room}
use Rattle.scenario_text.specs.ScenarioGrammar.{Scenario, line_fault, with_scenario_line, is_frame}
use Rattle.scenario_text.specs.declared.scenario_line.ScenarioLine.{ScenarioLine}
use Rattle.scenario_text.specs.declared.scenario_line.ScenarioLine.TheVariants as line
use Rattle.scenario_text.specs.declared.written_act.WrittenAct.TheVariants as written
use Rattle.bus_rules.specs.declared.act.Act.{Act}
use Rattle.bus_rules.specs.declared.act.Act.TheVariants.{On, Off, Declare, Leave, Put}
use Rattle.scenario_text.proofs.RatesKept.{map_all, climbs_more}
use Rattle.scenario_text.proofs.LineRuns.{Allowed}
use Rattle.scenario_text.proofs.CanonicalFacts.{can_boot, said_act, said_link, said_loss, said_cut, said_capture, Fits, FitsAct, HasBytes, judged}
use Rattle.scenario_text.proofs.DraftFacts.{IsFine, with_line_length}
use Rattle.scenario_text.proofs.LineRuns.{allowed}
use Rattle.scenario_text.proofs.FirstDrafts.{fine_top, profile_fine}
use Rattle.scenario_text.proofs.ScriptKept.{power_of, next, act_fine}
use Rattle.scenario_text.proofs.TraceKept.{trace_fine, loss_trace, cut_trace, capture_trace}
use Rattle.scenario_text.proofs.NetworkKept.{network_fine}

-- the bytes of a payload
abbrev pub IsRead : ScenarioLine → Type 0
IsRead (line.Script f i (written.Put s (Some p))) = AllByRecursion (λ b. b < 256) p
IsRead other = Unit {0}

-- hosts
none_equal : (h : ℕ) (hs : List ℕ) → list_any (λ g. g == h) hs ≡ false → AllByRecursion (λ g. (g == h) ≡ false) hs
none_equal h [] none = tt
none_equal h (g ∷ hs) none = let p = or_parts (g == h) (list_any (λ g. g == h) hs) none in (p.0, none_equal h hs p.1)

host_fine : (d : Scenario) (r i : ℕ) → IsFine d → Allowed d (line.Host r i) → IsFine (with_scenario_line d (line.Host r i))
host_fine d r i fine a =
    let n = fine.network in
    let range = and_parts (nat_le r 3) (is_id i) a.range in
    let fresh = and_parts (r == length d.hosts) (not (list_any (λ h. h == i) d.hosts)) a.fresh in
    let at = eqb-true r (length d.hosts) fresh.0 in
    let rank = leb-true r 3 range.0 in
    record {
      network = record { sends = n.sends; few_nodes = n.few_nodes; rises = n.rises; offsets = n.offsets; follows = n.follows; rates = n.rates };
      first = λ is. absurd (false≢true is);
      second = λ is. absurd (false≢true is);
      profile = fine.profile;
      frames = fine.frames;
      ids = fine.ids;
      ticks = fine.ticks;
      hosts = record {
        known = each_append (λ h. knows d.network.nodes h ≡ true) d.hosts (i ∷ []) fine.hosts.known (a.known, tt);
        few = omega (arith, at, rank, length_push d.hosts i);
        distinct = climbs_more (λ g h. (g == h) ≡ false) d.hosts i fine.hosts.distinct
            (none_equal i d.hosts (not-true (list_any (λ h. h == i) d.hosts) fresh.1));
      };
      script = fine.script;
      trace = fine.trace;
      unframed = fine.unframed;
      power = fine.power;
      counted = fine.counted;
      few = fine.few;
      limit = fine.limit;
    }

-- the number of frames
frames_fine : (d : Scenario) (f : ℕ) → IsFine d → Allowed d (line.Frames f) → IsFine (with_scenario_line d (line.Frames f))
frames_fine d f fine a =
    let n = fine.network in
    let range = and_parts (nat_le 1 f) (nat_le f MOST_FRAMES) a.range in
    let no_frames = none_is d.frames a.fresh in
    let empty = fine.unframed no_frames in
    let ns = d.network.nodes in
    let t = d.network.trace in
    record {
      network = record { sends = n.sends; few_nodes = n.few_nodes; rises = n.rises; offsets = n.offsets; follows = n.follows; rates = n.rates };
      first = λ is. absurd (false≢true is);
      second = λ is. absurd (false≢true is);
      profile = fine.profile;
      frames = (leb-true 1 f range.0, leb-true f MOST_FRAMES range.1);
      ids = fine.ids;
      ticks = fine.ticks;
      hosts = fine.hosts;
      script = record {
        fits = subst (AllByRecursion (FitsAct (judged d.profile (Some f) ns))) (sym empty.script) tt;
        climbs = fine.script.climbs;
        boots = fine.script.boots;
      };
      trace = record {
        links = map_all (λ l. Fits (judged d.profile d.frames ns) (said_link l)) (λ l. Fits (judged d.profile (Some f) ns) (said_link l))
            t.links (λ l fits. record { range = fits.range; known = fits.known }) fine.trace.links;
        links_climb = fine.trace.links_climb;
        losses = subst (AllByRecursion (λ l. Fits (judged d.profile (Some f) ns) (said_loss l))) (sym empty.losses) tt;
        losses_climb = fine.trace.losses_climb;
        cuts = subst (AllByRecursion (λ l. Fits (judged d.profile (Some f) ns) (said_cut l))) (sym empty.cuts) tt;
        cuts_climb = fine.trace.cuts_climb;
        captures = subst (AllByRecursion (λ l. Fits (judged d.profile (Some f) ns) (said_capture l))) (sym empty.captures) tt;
        captures_climb = fine.trace.captures_climb;
      };
      unframed = λ none. cc;
      power = fine.power;
      counted = fine.counted;
      few = fine.few;
      limit = fine.limit;
    }
  where
    none_is : (o : Option ℕ) → is_none o ≡ true → o ≡ None
    none_is None is = refl
    none_is (Some n) is = absurd (false≢true is)

-- a line of the script
given_fine : (d : Scenario) (f i : ℕ) (a : Act) → IsFine d → HasBytes a → Allowed d (said_act f i a) → can_boot (power_of d) i a ≡ true → IsFine (next d f i a)
given_fine d f i a fine bytes can boot =
    let room = and_parts (has_script_room d.network) _ can.room in
    act_fine d f i a fine (record { range = can.range; known = can.known }) bytes can.order room.0 boot

-- each line
pub line_fine : (d : Scenario) (l : ScenarioLine) → IsFine d → IsRead l → line_fault d l ≡ None → IsFine (with_scenario_line d l)
line_fine d (line.InNetwork l) fine read none = network_fine d l fine none
line_fine d (line.Profile p) fine read none =
    let a = allowed d (line.Profile p) none in
    subst (λ (x : Scenario). IsFine (with_scenario_line x (line.Profile p))) (sym (fine.first a.order)) (profile_fine (p == 2))
line_fine d (line.Contend c) fine read none =
    let a = allowed d (line.Contend c) none in
    subst (λ (x : Scenario). IsFine (with_scenario_line x (line.Contend c))) (sym (fine.second a.order))
    (fine_top (contended c) false (inr (refl, leb-true c 4 (and_parts (nat_le 1 c) (nat_le c 4) a.range).1)) (λ is. absurd (false≢true is)))
line_fine d (line.Frames f) fine read none = frames_fine d f fine (allowed d (line.Frames f) none)
line_fine d (line.Host r i) fine read none = host_fine d r i fine (allowed d (line.Host r i) none)
line_fine d (line.Script f i written.On) fine read none =
    let a = allowed d (line.Script f i written.On) none in
    given_fine d f i On fine tt a (and_parts (has_script_room d.network) _ a.room).1
line_fine d (line.Script f i written.Off) fine read none = given_fine d f i Off fine tt (allowed d (line.Script f i written.Off) none) refl
line_fine d (line.Script f i (written.Stream s n)) fine read none =
    given_fine d f i (Declare s n) fine tt (allowed d (line.Script f i (written.Stream s n)) none) refl
line_fine d (line.Script f i (written.Leave s)) fine read none =
    given_fine d f i (Leave s) fine tt (allowed d (line.Script f i (written.Leave s)) none) refl
line_fine d (line.Script f i (written.Put s (Some p))) fine read none =
    given_fine d f i (Put s p) fine read (allowed d (line.Script f i (written.Put s (Some p))) none) refl
line_fine d (line.Script f i (written.Put s None)) fine read none =
    let a = allowed d (line.Script f i (written.Put s None)) none in
    let range = and_parts (is_frame d.frames f && is_id i) (nat_le s 3 && false) a.range in
    absurd (false≢true (sym (and_right (nat_le s 3) false refl) ∙ range.1))
line_fine d (line.Lose f j k u v) fine read none =
    let a = allowed d (line.Lose f j k u v) none in
    let t = d.network.trace in
    let longer = with_line_length by_loss (record { frame = f; slot = j; step = k; from = u; to = v }) t.losses in
    trace_fine d (with_loss_at f j k u v t) fine (loss_trace d.profile d.frames d.network.nodes t f j k u v fine.trace
    (record { range = a.range; known = a.known }) (not-true (list_any (is_loss f j k u v) t.losses) a.fresh)) a.order
    a.room (omega (arith, longer))
line_fine d (line.Cut f j k i) fine read none =
    let a = allowed d (line.Cut f j k i) none in
    let t = d.network.trace in
    let longer = with_line_length by_cut (record { frame = f; slot = j; step = k; node = i }) t.cuts in
    trace_fine d (with_cut_at f j k i t) fine (cut_trace d.profile d.frames d.network.nodes t f j k i fine.trace
    (record { range = a.range; known = a.known }) (not-true (list_any (is_cut f j k i) t.cuts) a.fresh)) a.order
    a.room (omega (arith, longer))
line_fine d (line.Capture f j k a b) fine read none =
    let c = allowed d (line.Capture f j k a b) none in
    let t = d.network.trace in
    let longer = with_line_length by_capture (record { frame = f; slot = j; step = k; at = a; from = b }) t.captures in
    trace_fine d (with_capture_at f j k a b t) fine (capture_trace d.profile d.frames d.network.nodes t f j k a b fine.trace
    (record { range = c.range; known = c.known }) (not-true (list_any (is_capture f j k a) t.captures) c.fresh)) c.order
    c.room (omega (arith, longer))
