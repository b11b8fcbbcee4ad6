-- What some text says meets the rules of the canonical text.
use Rattle.std.proofs.Common.{◌≡◌, ℕ, ◌+◌, ◌*◌, ◌<◌, ◌≤◌, List, [], ◌∷◌, Bool, true, false, if◌then◌else◌, ◌==◌, nat_le, Option, Some, None}
use Rattle.std.proofs.Common.{IfSome, Result, Ok, Err, IfOk, length, codes, option_map, refl, sym, ◌∙◌, ap, subst, arith, inl, inr}
use Rattle.std.proofs.lemmas.Bool.{cond_both, or_cases, leb-true, eqb-true, eqb-false, false≢true}
use Rattle.std.proofs.lemmas.Bool.Decides.{nat_tests}
use Rattle.std.specs.Char.{is_ascii_hexdigit, digit_value}
use Rattle.std.specs.List.{AllByRecursion}
use Rattle.std.specs.Str.{bytes_eq}
use Rattle.std.specs.Str.Lines.{lines}
use Rattle.lwb_base.specs.declared.limits.TheConstants.{MOST_FRAMES}
use Rattle.lwb_base.specs.Profile.{Numbers}
use Rattle.scenario_text.specs.FloodParts.{knows}
use Rattle.scenario_text.specs.FloodDrafts.{IsRate}
use Rattle.text_readers.specs.Words.{words, word, line_of_words, number_at}
use Rattle.text_readers.specs.Faults.{draft_after_lines, in_line, ◌>>=◌}
use Rattle.text_readers.specs.Reading.{draft_after_line}
use Rattle.scenario_text.specs.Network.{is_id, network_parts, network_line, rates_by_node}
use Rattle.scenario_text.specs.Payloads.{is_payload, payload, payload_bytes, hex_bytes, hex_value}
use Rattle.scenario_text.specs.ScenarioGrammar.{Scenario, last_tick, line_fault, with_scenario_line, after_spelled}
use Rattle.scenario_text.specs.ScriptGrammar.{first_word_is, script_line, step_line, put_line, script_of}
use Rattle.scenario_text.specs.ScenarioGrammar.{scenario_after_words, scenario_line, scenario_numbers}
use Rattle.scenario_text.specs.ScenarioGrammar.{whole_within, finished_parts, if_small, long_limits, scenario_of_lines, long_scenario_of, IsScenario}
use Rattle.scenario_text.specs.PartsInOrder.{script_lines}
use Rattle.scenario_text.specs.ScenarioParts.{ScenarioParts}
use Rattle.scenario_text.specs.Canonical.{canonical}
use Rattle.text_readers.specs.declared.fault.FaultKind.{FaultKind}
use Rattle.text_readers.specs.declared.fault.FaultKind.TheVariants.{Missing, TooBig}
use Rattle.scenario_text.specs.declared.limits.TheConstants.{BUS_NODE_FRAMES}
use Rattle.scenario_text.specs.declared.lines.NodeLine.{NodeLine}
use Rattle.scenario_text.specs.declared.lines.RateLine.{RateLine}
use Rattle.scenario_text.specs.declared.scenario_line.ScenarioLine.{ScenarioLine}
use Rattle.scenario_text.specs.declared.scenario_line.ScenarioLine.TheVariants.{InNetwork, Profile, Contend, Frames, Host, Script}
use Rattle.scenario_text.specs.declared.scenario_line.ScenarioLine.TheVariants.{Lose, Cut, Capture}
use Rattle.scenario_text.specs.declared.written_act.WrittenAct.TheVariants.{On, Off, Stream, Leave, Put}
use Rattle.text_readers.proofs.AllowedLines.{unless_keeps, spelled_keeps}
use Rattle.text_readers.proofs.LinesRead.{line_keeps, lines_keep}
use Rattle.scenario_text.proofs.RatesKept.{map_all, all_by_node}
use Rattle.scenario_text.proofs.RatesInTurn.{in_turn_again, all_kept, turns_follow}
use Rattle.scenario_text.proofs.CanonicalFacts.{IsNode, IsRateOf, IsHost, KeepsRules}
use Rattle.scenario_text.proofs.DraftFacts.{IsScript, IsTrace, IsFine, nothing}
use Rattle.scenario_text.proofs.CanonicalSays.{canonical_says}
use Rattle.scenario_text.proofs.DraftKept.{IsRead, line_fine}
use Rattle.scenario_text.proofs.FirstDrafts.{fine_first}

-- the bytes of a payload
letter_value : (c : ℕ) → is_ascii_hexdigit c ≡ true → digit_value c ≤ 15
letter_value c is = grind (arith, nat_tests)

hex_small : (c : ℕ) → hex_value c ≤ 15
hex_small c = cond_both (is_ascii_hexdigit c) (digit_value c) 0 (λ (n : ℕ). n ≤ 15) (λ is. letter_value c is) (λ not. omega arith)

are_bytes : (w : List ℕ) → AllByRecursion (λ b. b < 256) (hex_bytes w)
are_bytes [] = tt
are_bytes (a ∷ []) = tt
are_bytes (a ∷ b ∷ w) = (omega (arith, hex_small a, hex_small b), are_bytes w)

payload_read : (f i s : ℕ) (w : List ℕ) → IsRead (Script f i (Put s (payload w)))
payload_read f i s w =
    cond_both (nat_le (length (payload_bytes w)) 96) (Some (payload_bytes w)) None (λ (o : Option (List ℕ)). IsRead (Script f i (Put s o)))
    (λ short. cond_both (bytes_eq w (codes "-")) [] (hex_bytes w) (AllByRecursion (λ b. b < 256)) (λ dash. tt) (λ other. are_bytes w)) (λ long. tt)

either : (b : Bool) (x y : Option ScenarioLine) → IfSome x IsRead → IfSome y IsRead → IfSome (if b then x else y) IsRead
either true x y first second = first
either false x y first second = second

counted_read : (n : ℕ) (ws : List (List ℕ)) (l : ScenarioLine) → IsRead l → IfSome (line_of_words n ws l) IsRead
counted_read n ws l is = cond_both (length ws == n) (Some l) None (λ o. IfSome o IsRead) (λ same. is) (λ other. tt)

network_read : (o : Option _) → IfSome (option_map InNetwork o) IsRead
network_read None = tt
network_read (Some l) = tt

line_read : (ws : List (List ℕ)) → IfSome (scenario_line ws) IsRead
unfolding scenario_line script_line step_line put_line
line_read ws =
    either (first_word_is ws (codes "profile")) _ _ (counted_read 2 ws (Profile (number_at ws 1)) tt)
    (either (first_word_is ws (codes "contend")) _ _ (counted_read 2 ws (Contend (number_at ws 1)) tt)
    (either (first_word_is ws (codes "frames")) _ _ (counted_read 2 ws (Frames (number_at ws 1)) tt)
    (either (first_word_is ws (codes "host")) _ _ (counted_read 3 ws (Host (number_at ws 1) (number_at ws 2)) tt)
    (either (first_word_is ws (codes "on")) _ _ (counted_read 3 ws (script_of ws On) tt)
    (either (first_word_is ws (codes "off")) _ _ (counted_read 3 ws (script_of ws Off) tt)
    (either (first_word_is ws (codes "stream")) _ _ (counted_read 5 ws (script_of ws (Stream (number_at ws 3) (number_at ws 4))) tt)
    (either (first_word_is ws (codes "leave")) _ _ (counted_read 4 ws (script_of ws (Leave (number_at ws 3))) tt)
    (either (first_word_is ws (codes "put")) _ _
    (either (is_payload (word ws 4)) _ None
    (counted_read 5 ws (script_of ws (Put (number_at ws 3) (payload (word ws 4))))
    (payload_read (number_at ws 1) (number_at ws 2) (number_at ws 3) (word ws 4))) tt)
    (either (first_word_is ws (codes "lose")) _ _
    (counted_read 6 ws (Lose (number_at ws 1) (number_at ws 2) (number_at ws 3) (number_at ws 4) (number_at ws 5)) tt)
    (either (first_word_is ws (codes "cut")) _ _ (counted_read 5 ws (Cut (number_at ws 1) (number_at ws 2) (number_at ws 3) (number_at ws 4)) tt)
    (either (first_word_is ws (codes "capture")) _ _
    (counted_read 6 ws (Capture (number_at ws 1) (number_at ws 2) (number_at ws 3) (number_at ws 4) (number_at ws 5)) tt)
    (network_read (network_line ws)))))))))))))

-- after a line
words_fine : (d : Scenario) (ws : List (List ℕ)) → IsFine d → IfOk (scenario_after_words d ws) IsFine
unfolding scenario_after_words
words_fine d ws fine =
    spelled_keeps IsFine (scenario_line ws) (λ (l : ScenarioLine). scenario_numbers l ws) (after_spelled d)
    (λ l is. unless_keeps IsFine (line_fault d l) (with_scenario_line d l) (λ none. line_fine d l fine (read_as ws l is) none))
  where
    read_as : (ws : List (List ℕ)) (l : ScenarioLine) → scenario_line ws ≡ Some l → IsRead l
    read_as ws l is = subst (λ (o : Option ScenarioLine). IfSome o IsRead) is (line_read ws)

pub fine_lines : (d : Scenario) (texts : List (List ℕ)) → draft_after_lines (draft_after_line scenario_after_words) 1 nothing texts ≡ Ok d → IsFine d
fine_lines d texts is =
    lines_keep IsFine (draft_after_line scenario_after_words)
    (λ e text fine. line_keeps IsFine scenario_after_words e text fine (words_fine e (words text) fine)) 1 nothing d texts fine_first is

-- ids of known nodes
pub known_id : (ns : List NodeLine) (v : ℕ) → AllByRecursion (λ n. is_id n.node ≡ true) ns → knows ns v ≡ true → is_id v ≡ true
known_id [] v ids known = absurd (false≢true known)
known_id (n ∷ ns) v ids known =
    elim (or_cases (n.node == v) (knows ns v) known) [ inl here ↦ ap is_id (sym (eqb-true n.node v here)) ∙ ids.0 | inr later ↦ known_id ns v ids.1 later ]

nodes_are : (ns : List NodeLine) → AllByRecursion (λ n. is_id n.node ≡ true) ns → AllByRecursion (λ n. n.offset ≤ 256000) ns → AllByRecursion IsNode ns
nodes_are [] ids offsets = tt
nodes_are (n ∷ ns) ids offsets = (record { id = ids.0; offset = offsets.0 }, nodes_are ns ids.1 offsets.1)

rates_are : (p : Numbers) (ns : List NodeLine) (rs : List RateLine) → AllByRecursion (λ n. is_id n.node ≡ true) ns → AllByRecursion (IsRate ns) rs
    → AllByRecursion (λ r. r.from ≤ last_tick p) rs
    → AllByRecursion (IsRateOf p ns) rs
rates_are p ns [] ids rates ticks = tt
rates_are p ns (r ∷ rs) ids rates ticks =
    let first = rates.0 in
    (record { id = known_id ns r.node ids first.known; known = first.known; early = ticks.0; small = first.small }, rates_are p ns rs ids rates.1 ticks.1)

rates_known : (ns : List NodeLine) (rs : List RateLine) → AllByRecursion (IsRate ns) rs → AllByRecursion (λ r. knows ns r.node ≡ true) rs
rates_known ns rs are = map_all (IsRate ns) (λ r. knows ns r.node ≡ true) rs (λ r is. is.known) are

abbrev whole : Scenario → ℕ → ℕ → ScenarioParts
whole d n f = record {
  profile = d.profile;
  frames = f;
  sends = n;
  nodes = d.network.nodes;
  rates = rates_by_node d.network.nodes d.network.rates;
  hosts = d.hosts;
  trace = d.network.trace;
  script = d.script;
}

whole_said : (d : Scenario) (n f : ℕ) → IsFine d → d.network.sends ≡ Some n → d.frames ≡ Some f → 2 ≤ length d.network.nodes → 1 ≤ length d.hosts
    → length d.network.nodes * f ≤ BUS_NODE_FRAMES → KeepsRules (whole d n f)
whole_said d n f fine sends frames two host small =
    let ns = d.network.nodes in
    let rs = d.network.rates in
    let net = fine.network in
    let script : IsScript d.profile (Some f) ns d.script = subst (λ (o : Option ℕ). IsScript d.profile o ns d.script) frames fine.script in
    let trace : IsTrace d.profile (Some f) ns d.network.trace = subst (λ (o : Option ℕ). IsTrace d.profile o ns d.network.trace) frames fine.trace in
    let counted = fine.counted in
    let few = fine.few in
    record {
      profile = fine.profile;
      frames = subst (λ (o : Option ℕ). IfSome o (λ g. (1 ≤ g) × (g ≤ MOST_FRAMES))) frames fine.frames;
      sends = subst (λ (o : Option ℕ). IfSome o (λ m. (1 ≤ m) × (m ≤ 4))) sends net.sends;
      some_nodes = two;
      few_nodes = net.few_nodes;
      nodes = nodes_are ns fine.ids net.offsets;
      rises = net.rises;
      rates = all_by_node (IsRateOf d.profile ns) ns rs (rates_are d.profile ns rs fine.ids net.rates fine.ticks);
      follows = turns_follow ns rs net.rises net.follows;
      in_turn = in_turn_again ns rs net.rises;
      some_hosts = host;
      few_hosts = fine.hosts.few;
      hosts = map_all (λ h. knows ns h ≡ true) (IsHost ns) d.hosts (λ h known. record { id = known_id ns h fine.ids known; known = known }) fine.hosts.known;
      distinct = fine.hosts.distinct;
      links = trace.links;
      links_climb = trace.links_climb;
      script = script.fits;
      script_climbs = script.climbs;
      boots = script.boots;
      losses = trace.losses;
      losses_climb = trace.losses_climb;
      cuts = trace.cuts;
      cuts_climb = trace.cuts_climb;
      captures = trace.captures;
      captures_climb = trace.captures_climb;
      scripted = omega (arith, counted, few, all_kept ns rs net.rises (rates_known ns rs net.rates));
      small = small;
    }

ok_unless : {A E : Type 0} (b : Bool) (r : Result A E) (k : E) (s : A) → (if b then Err k else r) ≡ Ok s → (b ≡ false) × (r ≡ Ok s)
ok_unless true r k s is = cc
ok_unless false r k s is = (refl, is)

ok_where : (b : Bool) (x : ScenarioParts) (k : FaultKind) (s : ScenarioParts) → ◌≡◌ {A = Result ScenarioParts FaultKind} (if b then Ok x else Err k) (Ok s)
    → (b ≡ true) × (x ≡ s)
ok_where true x k s is = (refl, subst (λ (r : Result ScenarioParts FaultKind). IfOk r (λ y. x ≡ y)) is refl)
ok_where false x k s is = cc

-- what a draft says at its end
record IsEnd (d : Scenario) (s : ScenarioParts) : Type 0 where
  n : ℕ
  f : ℕ
  sends : d.network.sends ≡ Some n
  frames : d.frames ≡ Some f
  two : 2 ≤ length d.network.nodes
  host : 1 ≤ length d.hosts
  small : length d.network.nodes * f ≤ BUS_NODE_FRAMES
  parts : whole d n f ≡ s

finished_is : (d : Scenario) (s : ScenarioParts) → whole_within BUS_NODE_FRAMES d ≡ Ok s → IsEnd d s
finished_is d s is = by_parts d.network.sends d.frames refl refl is
  where
    by_parts : (o g : Option ℕ) → d.network.sends ≡ o → d.frames ≡ g → finished_parts BUS_NODE_FRAMES d (network_parts d.network o) g ≡ Ok s → IsEnd d s
    by_parts None g sends frames is = cc
    by_parts (Some n) None sends frames is = by_two (nat_le 2 (length d.network.nodes)) is
      where
        by_two : (b : Bool)
            → finished_parts BUS_NODE_FRAMES d (if b then Some (record
            { sends = n; nodes = d.network.nodes; rates = rates_by_node d.network.nodes d.network.rates; trace = d.network.trace }) else None) None ≡ Ok s
            → IsEnd d s
        by_two true is = cc
        by_two false is = cc
    by_parts (Some n) (Some f) sends frames is = by_two (nat_le 2 (length d.network.nodes)) refl is
      where
        by_two : (b : Bool) → nat_le 2 (length d.network.nodes) ≡ b
            → finished_parts BUS_NODE_FRAMES d (if b then Some (record
            { sends = n; nodes = d.network.nodes; rates = rates_by_node d.network.nodes d.network.rates; trace = d.network.trace }) else None) (Some f) ≡ Ok s
            → IsEnd d s
        by_two false two is = cc
        by_two true two is =
            let hosts = ok_unless (length d.hosts == 0) (if_small BUS_NODE_FRAMES (whole d n f)) Missing s is in
            let small = ok_where (nat_le (length d.network.nodes * f) BUS_NODE_FRAMES) (whole d n f) TooBig s hosts.1 in
            let some = eqb-false (length d.hosts) 0 hosts.0 in
            record {
              n = n;
              f = f;
              sends = sends;
              frames = frames;
              two = leb-true 2 (length d.network.nodes) two;
              host = omega (arith, some);
              small = leb-true (length d.network.nodes * f) BUS_NODE_FRAMES small.0;
              parts = small.1;
            }

finished_said : (d : Scenario) (s : ScenarioParts) → IsFine d → IsEnd d s → KeepsRules s
finished_said d s fine end = subst KeepsRules end.parts (whole_said d end.n end.f fine end.sends end.frames end.two end.host end.small)

-- it has as many script lines as were counted
pub finished_counted : (d : Scenario) (s : ScenarioParts) → IsFine d → whole_within BUS_NODE_FRAMES d ≡ Ok s → script_lines s ≡ d.network.scripted
finished_counted d s fine is =
    let end = finished_is d s is in
    let counted = fine.counted in
    let kept = all_kept d.network.nodes d.network.rates fine.network.rises (rates_known d.network.nodes d.network.rates fine.network.rates) in
    let here : script_lines (whole d end.n end.f) ≡ d.network.scripted = omega (arith, counted, kept) in
    subst (λ (x : ScenarioParts). script_lines x ≡ d.network.scripted) end.parts here

pub lines_keep_rules : (s : ScenarioParts) (ls : List (List ℕ)) → scenario_of_lines long_limits ls ≡ Ok s → KeepsRules s
lines_keep_rules s ls said = by_lines (draft_after_lines (draft_after_line scenario_after_words) 1 nothing ls) refl said
  where
    by_lines : (r : Result Scenario (ℕ × FaultKind)) → draft_after_lines (draft_after_line scenario_after_words) 1 nothing ls ≡ r
        → (r >>= (λ e. in_line (length ls + 1) (whole_within BUS_NODE_FRAMES e))) ≡ Ok s → KeepsRules s
    by_lines (Err k) read is = cc
    by_lines (Ok d) read is = by_end (whole_within BUS_NODE_FRAMES d) refl is
      where
        by_end : (q : Result ScenarioParts FaultKind) → whole_within BUS_NODE_FRAMES d ≡ q → in_line (length ls + 1) q ≡ Ok s → KeepsRules s
        by_end (Err k) done is = cc
        by_end (Ok x) done is =
            finished_said d s (fine_lines d ls read) (finished_is d s
            (done ∙ ap Ok (subst (λ (q : Result ScenarioParts (ℕ × FaultKind)). IfOk q (λ y. x ≡ y)) is refl)))

-- lines that say a scenario are those of a text: its canonical one says it again
pub lines_say : (s : ScenarioParts) (ls : List (List ℕ)) → scenario_of_lines long_limits ls ≡ Ok s → IsScenario s
lines_say s ls said = (canonical s, canonical_says s (lines_keep_rules s ls said))

pub said_is : (s : ScenarioParts) → IsScenario s → KeepsRules s
said_is s said = lines_keep_rules s (lines said.0) said.1

-- a text that is the canonical one
pub says_again : (s : ScenarioParts) (text : List ℕ) → text ≡ canonical s → IsScenario s → long_scenario_of text ≡ Ok s
says_again s text is said = ap long_scenario_of is ∙ canonical_says s (said_is s said)
