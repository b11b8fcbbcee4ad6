-- Each allowed line of the trace keeps what is true of a draft.
use Rattle.std.proofs.Common.{◌≡◌, ℕ, ◌+◌, List, true, false, not, ◌&&◌, ◌==◌, Option, is_some, length, sym, arith}
use Rattle.std.proofs.lemmas.Bool.{and_from, and_parts, ltb-true, not-true, not_from_false, eqb-false, ne_eqb, false≢true}
use Rattle.std.specs.List.{list_any}
use Rattle.lwb_base.specs.Profile.{Numbers}
use Rattle.link_trace.proofs.Orders.{by_link_total, by_loss_total, by_cut_total, by_capture_total, tells_link, tells_loss, tells_cut, tells_capture}
use Rattle.link_trace.specs.Order.{by_link, by_loss, by_cut, by_capture}
use Rattle.link_trace.specs.Passes.{Lines, is_link, is_loss, is_cut, is_capture}
use Rattle.scenario_text.specs.FloodParts.{knows}
use Rattle.scenario_text.specs.Network.{is_id, are_ends, with_link_to, with_loss_at, with_cut_at, with_capture_at, has_link, has_script_room}
use Rattle.scenario_text.specs.ScenarioGrammar.{Scenario}
use Rattle.scenario_text.specs.declared.lines.NodeLine.{NodeLine}
use Rattle.scenario_text.specs.declared.scenario_line.ScenarioLine.TheVariants as line
use Rattle.scenario_text.proofs.CanonicalFacts.{said_link, said_loss, said_cut, said_capture, Fits, judged}
use Rattle.scenario_text.proofs.DraftFacts.{IsTrace, IsFine, with_line_all, with_line_climbs}
use Rattle.scenario_text.proofs.ScriptKept.{framed}

-- a change of the trace, as a script line
abbrev pub traced : Scenario → Lines → Scenario
traced d t = record d {
  network = record {
    sends = d.network.sends;
    nodes = d.network.nodes;
    rates = d.network.rates;
    trace = t;
    scripted = d.network.scripted + 1;
    most = d.network.most;
  };
  first = false;
  after_two = false;
}

pub trace_fine : (d : Scenario) (t : Lines) → IsFine d → IsTrace d.profile d.frames d.network.nodes t → is_some d.frames ≡ true
    → has_script_room d.network ≡ true
    → length t.losses + length t.cuts + length t.captures ≡ length d.network.trace.losses + length d.network.trace.cuts
    + length d.network.trace.captures + 1 → IsFine (traced d t)
trace_fine d t fine is some room more =
    let n = fine.network in
    let limit = fine.limit in
    let few = ltb-true d.network.scripted d.network.most room in
    let counted = fine.counted in
    record {
      network = record { sends = n.sends; few_nodes = n.few_nodes; rises = n.rises; offsets = n.offsets; follows = n.follows; rates = n.rates };
      first = λ is. absurd (false≢true is);
      second = λ is. absurd (false≢true is);
      profile = fine.profile;
      frames = fine.frames;
      ids = fine.ids;
      ticks = fine.ticks;
      hosts = fine.hosts;
      script = fine.script;
      trace = is;
      unframed = λ none. absurd (framed d.frames some none);
      power = fine.power;
      counted = omega (arith, counted, more);
      few = omega (arith, few, limit);
      limit = limit;
    }

pub loss_trace : (p : Numbers) (fr : Option ℕ) (ns : List NodeLine) (t : Lines) (f j k u v : ℕ) → IsTrace p fr ns t
    → Fits (judged p fr ns) (line.Lose f j k u v) → list_any (is_loss f j k u v) t.losses ≡ false
    → IsTrace p fr ns (with_loss_at f j k u v t)
loss_trace p fr ns t f j k u v is fits fresh = record {
  links = is.links;
  links_climb = is.links_climb;
  losses = with_line_all (λ l. Fits (judged p fr ns) (said_loss l)) by_loss
      (record { frame = f; slot = j; step = k; from = u; to = v }) t.losses fits is.losses;
  losses_climb = with_line_climbs by_loss (is_loss f j k u v) (record { frame = f; slot = j; step = k; from = u; to = v }) t.losses
      by_loss_total (tells_loss f j k u v) fresh is.losses_climb;
  cuts = is.cuts;
  cuts_climb = is.cuts_climb;
  captures = is.captures;
  captures_climb = is.captures_climb;
}

pub cut_trace : (p : Numbers) (fr : Option ℕ) (ns : List NodeLine) (t : Lines) (f j k i : ℕ) → IsTrace p fr ns t
    → Fits (judged p fr ns) (line.Cut f j k i) → list_any (is_cut f j k i) t.cuts ≡ false
    → IsTrace p fr ns (with_cut_at f j k i t)
cut_trace p fr ns t f j k i is fits fresh = record {
  links = is.links;
  links_climb = is.links_climb;
  losses = is.losses;
  losses_climb = is.losses_climb;
  cuts = with_line_all (λ l. Fits (judged p fr ns) (said_cut l)) by_cut (record { frame = f; slot = j; step = k; node = i }) t.cuts fits is.cuts;
  cuts_climb = with_line_climbs by_cut (is_cut f j k i) (record { frame = f; slot = j; step = k; node = i }) t.cuts by_cut_total
      (tells_cut f j k i) fresh is.cuts_climb;
  captures = is.captures;
  captures_climb = is.captures_climb;
}

pub capture_trace : (p : Numbers) (fr : Option ℕ) (ns : List NodeLine) (t : Lines) (f j k a b : ℕ) → IsTrace p fr ns t
    → Fits (judged p fr ns) (line.Capture f j k a b) → list_any (is_capture f j k a) t.captures ≡ false
    → IsTrace p fr ns (with_capture_at f j k a b t)
capture_trace p fr ns t f j k a b is fits fresh = record {
  links = is.links;
  links_climb = is.links_climb;
  losses = is.losses;
  losses_climb = is.losses_climb;
  cuts = is.cuts;
  cuts_climb = is.cuts_climb;
  captures = with_line_all (λ l. Fits (judged p fr ns) (said_capture l)) by_capture
      (record { frame = f; slot = j; step = k; at = a; from = b }) t.captures fits is.captures;
  captures_climb = with_line_climbs by_capture (is_capture f j k a) (record { frame = f; slot = j; step = k; at = a; from = b }) t.captures
      by_capture_total (tells_capture f j k a b) fresh is.captures_climb;
}

pub link_trace : (p : Numbers) (fr : Option ℕ) (ns : List NodeLine) (t : Lines) (u v : ℕ) → IsTrace p fr ns t → are_ends u v ≡ true
    → (knows ns u && knows ns v) ≡ true → has_link t u v ≡ false → IsTrace p fr ns (with_link_to u v t)
link_trace p fr ns t u v is ends known fresh = record {
  links = with_line_all (λ l. Fits (judged p fr ns) (said_link l)) by_link (record { from = u; to = v }) t.links
      (record { range = ends; known = known }) is.links;
  links_climb = with_line_climbs by_link (is_link u v) (record { from = u; to = v }) t.links by_link_total (tells_link u v) fresh is.links_climb;
  losses = is.losses;
  losses_climb = is.losses_climb;
  cuts = is.cuts;
  cuts_climb = is.cuts_climb;
  captures = is.captures;
  captures_climb = is.captures_climb;
}

pub ends_differ : (u v : ℕ) → are_ends u v ≡ true → u ≡ v → ⊥
ends_differ u v ends same = eqb-false u v (not-true (u == v) (and_parts (is_id u && is_id v) (not (u == v)) ends).1) same

pub ends_back : (u v : ℕ) → are_ends u v ≡ true → are_ends v u ≡ true
ends_back u v ends =
    let ids = and_parts (is_id u) (is_id v) (and_parts (is_id u && is_id v) (not (u == v)) ends).0 in
    and_from (is_id v && is_id u) (not (v == u)) (and_from (is_id v) (is_id u) ids.1 ids.0)
    (not_from_false (v == u) (ne_eqb v u (λ same. ends_differ u v ends (sym same))))
